use Rattle.std.proofs.Common.{◌-◌, length, refl, sym, subst, ◌∙◌}
use Rattle.packet_reader.specs.declared.phase.Phase.{Phase}
use Rattle.packet_reader.specs.declared.phase.Phase.TheVariants.{Hunting, Between, Within}
use Rattle.packet_reader.specs.declared.state.Progress.TheVariants.{Next, Done}
use Rattle.packet_reader.specs.declared.step.Step.TheVariants.{Skipped, More, Whole, Stopped}
use Rattle.packet_grammar.specs.declared.packet.Packet.TheVariants.{Async}
use Rattle.packet_grammar.specs.Parsed.{sync}
use Rattle.packet_reader.specs.Stands.{Moved, Moves}
use Rattle.packet_reader.proofs.Hunt.{hunting_finds, hunting_skips, between_moves, within_moves, failed_moves}
use Rattle.packet_reader.proofs.reader.any_step.Goals as goal

pub returns-then-not-ends_sync-clause-moves : goal.returns-then-not-ends_sync-clause-moves
returns-then-not-ends_sync-clause-moves c =
    let m : Moved = record { phase = Hunting c.ends_sync.new.zeros; start = 0; step = Skipped } in
    let P : Phase → Type 0 = λ p. Moves c.args.settings.now p c.args.start.now c.args.offset c.args.byte m in
    let off = sym c.ends_sync.ensures.ends ∙ c.if-not-ends_sync.true in
    subst P (sym c.in-Hunting.is)
    (hunting_skips c.args.settings.now c.in-Hunting.zeros c.args.byte c.args.start.now c.args.offset c.ends_sync.new.zeros off
    (c.ends_sync.ensures.counted c.if-not-ends_sync.true))

pub returns-else-not-ends_sync-clause-moves : goal.returns-else-not-ends_sync-clause-moves
returns-else-not-ends_sync-clause-moves c =
    let m : Moved = record { phase = Between; start = c.args.offset; step = Whole (c.args.offset - length sync) Async } in
    let P : Phase → Type 0 = λ p. Moves c.args.settings.now p c.args.start.now c.args.offset c.args.byte m in
    let on = sym c.ends_sync.ensures.ends ∙ c.if-not-ends_sync.false in
    subst P (sym c.in-Hunting.is) (hunting_finds c.args.settings.now c.in-Hunting.zeros c.args.byte c.args.start.now c.args.offset on)

pub returns-in-Between-clause-moves : goal.returns-in-Between-clause-moves
returns-in-Between-clause-moves c =
    let m : Moved = record { phase = c.begin.new.phase; start = c.begin.new.start; step = c.begin.result } in
    let P : Phase → Type 0 = λ p. Moves c.args.settings.now p c.args.start.now c.args.offset c.args.byte m in
    let made = c.begin.ensures.value in
    subst P (sym c.in-Between.is) (between_moves c.args.settings.now c.args.start.now c.args.offset c.args.byte made.0 m made.2 made.1 made.3)

pub returns-in-None-clause-moves : goal.returns-in-None-clause-moves
returns-in-None-clause-moves c =
    let m : Moved = record { phase = Within c.advance.new.state; start = c.args.start.now; step = More } in
    let P : Phase → Type 0 = λ p. Moves c.args.settings.now p c.args.start.now c.args.offset c.args.byte m in
    let fits = rw c.in-Within.is at c.requires.0 in
    subst P (sym c.in-Within.is)
    (within_moves c.args.settings.now c.in-Within.state c.args.start.now c.args.offset c.args.byte (Next c.advance.new.state) m fits c.in-None.ensures.fits
    c.in-None.ensures.tree refl)

pub returns-in-Some-clause-moves : goal.returns-in-Some-clause-moves
returns-in-Some-clause-moves c =
    let m : Moved = record { phase = c.end.new.phase; start = c.end.new.start; step = c.end.result } in
    let P : Phase → Type 0 = λ p. Moves c.args.settings.now p c.args.start.now c.args.offset c.args.byte m in
    let fits = rw c.in-Within.is at c.requires.0 in
    subst P (sym c.in-Within.is)
    (within_moves c.args.settings.now c.in-Within.state c.args.start.now c.args.offset c.args.byte (Done c.in-Some.outcome) m fits c.in-Some.ensures.fits
    c.in-Some.ensures.tree c.end.ensures.value)

pub returns-in-Failed-clause-moves : goal.returns-in-Failed-clause-moves
returns-in-Failed-clause-moves c =
    let P : Phase → Type 0 = λ p.
    Moves c.args.settings.now p c.args.start.now c.args.offset c.args.byte (record { phase = p; start = c.args.start.now; step = Stopped }) in
    subst P (sym c.in-Failed.is) (failed_moves c.args.settings.now c.args.start.now c.args.offset c.args.byte)
