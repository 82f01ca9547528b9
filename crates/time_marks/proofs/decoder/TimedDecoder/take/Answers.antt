use Rattle.std.proofs.Common.{◌≡◌, ℕ, Bool, true, List, None, Ok, Err, refl, sym, ap, subst, ◌∙◌}
use Rattle.std.specs.List.{concat}
use Rattle.packet_reader.specs.Answered.{fault_after, told}
use Rattle.packet_reader.specs.Stands.{PacketReading}
use Rattle.packet_reader.specs.declared.step.Step.TheVariants.{Whole}
use Rattle.path_text.specs.Writing.{Writes}
use Rattle.time_marks.proofs.Standing.{free, gains_on, stands_on, timed_on}
use Rattle.time_marks.specs.Frequent.{packet_of}
use Rattle.time_marks.specs.Timed.{HasTimes, Prints, StandsAt, Timed, fault_behind}
use Rattle.time_marks.specs.TimeList.{TimesGains}
use Rattle.time_marks.specs.Times.{after_packets, times_of}
use Rattle.time_marks.specs.declared.timing.Timing.{Timing}
use Rattle.time_marks.proofs.decoder.TimedDecoder.take.Goals as goal
use Rattle.trace_io.specs.declared.traits.Failed.{Failed}

-- ---- any other byte

abbrev timed : PacketReading → Timing → Bool → Timed
timed reader timing broken = record { reader = reader; timing = timing; broken = broken }

pub returns-in_default-clause-stands : goal.returns-in_default-clause-stands
returns-in_default-clause-stands g c ok bytes stands =
    let i = c.self.inside in
    let same = ap (λ (r : PacketReading). timed r i.timing i.broken) (c.in_default.ensures.none refl) ∙ c.self.view_is in
    c.take_any.ensures.stands ok bytes (subst (λ (y : Timed). StandsAt y bytes) (sym same) stands)

pub returns-in_default-clause-gains : goal.returns-in_default-clause-gains
returns-in_default-clause-gains g c =
    let i = c.self.inside in let state = g.K.Sink.state in
    let same = ap (λ (r : PacketReading). timed r i.timing i.broken) (c.in_default.ensures.none refl) ∙ c.self.view_is in
    subst (λ (y : Timed). (bytes : List ℕ) → StandsAt y bytes → (lines : List (List ℕ)) × TimesGains ((y.reader).settings) c.args.id bytes c.args.byte lines
    × Writes (state c.args.sink.now) (state c.take_any.new.sink) c.take_any.result (concat lines)) same c.take_any.ensures.gains

-- ---- what holds behind a frequent packet

pub invariant_of-self-in-Ok : goal.invariant_of-self-in-Ok
invariant_of-self-in-Ok g c =
    let x = c.self.inside in let e = c.in-Some.ensures.takes in let f = c.take_frequent.ensures in
    timed_on (timed x.reader x.timing x.broken) c.self.invariant c.next_frequent.new.reader c.args.byte c.ranges.byte.fits e.settings e.stands
    c.take_frequent.new.self x.broken f.holds f.depth (λ whole. c.in-Ok.ensures.informed refl)

pub invariant_of-self-in-Err : goal.invariant_of-self-in-Err
invariant_of-self-in-Err g c =
    let x = c.self.inside in let e = c.in-Some.ensures.takes in let f = c.take_frequent.ensures in
    timed_on (timed x.reader x.timing x.broken) c.self.invariant c.next_frequent.new.reader c.args.byte c.ranges.byte.fits e.settings e.stands
    c.take_frequent.new.self true f.holds f.depth (λ whole. absurd cc)

pub returns-in-Ok-clause-stands : goal.returns-in-Ok-clause-stands
returns-in-Ok-clause-stands g c ok bytes stands =
    let x = c.self.inside in let d : Timed = timed x.reader x.timing x.broken in let e = c.in-Some.ensures.takes in
    let is = subst (λ (y : Timed). StandsAt y bytes) (sym c.self.view_is) stands in let are = c.self.invariant.reads.settings in
    let at = c.in-Some.at in let packet = packet_of c.in-Some.packet in let step = Whole at packet in
    let r = c.next_frequent.new.reader in let reads = e.stands bytes is.reads in let gains = e.gains bytes is.reads in
    let none = c.in-Some.ensures.ready.0 in
    let clear = free d bytes is are r c.args.byte c.ranges.byte.fits step e.settings reads gains none in
    let t = times_of x.reader.settings.depth is.packets in let p = c.take_frequent.new.self in
    let times = subst (λ (n : ℕ). HasTimes p (after_packets n t (told step)) × ((p.line).fault ≡ fault_behind (after_packets n t (told step)).fault (fault_after None step)))
    c.self.invariant.depth ((c.in-Ok.ensures.prints t is.times clear.0).1 refl) in
    stands_on d bytes is are r c.args.byte c.ranges.byte.fits step e.settings reads gains none (timed r p x.broken) is.whole refl times.0 times.1

pub returns-in-Ok-clause-gains : goal.returns-in-Ok-clause-gains
returns-in-Ok-clause-gains g c bytes stands =
    let x = c.self.inside in let d : Timed = timed x.reader x.timing x.broken in let e = c.in-Some.ensures.takes in
    let is = subst (λ (y : Timed). StandsAt y bytes) (sym c.self.view_is) stands in let are = c.self.invariant.reads.settings in
    let at = c.in-Some.at in let packet = packet_of c.in-Some.packet in let step = Whole at packet in
    let r = c.next_frequent.new.reader in let reads = e.stands bytes is.reads in let gains = e.gains bytes is.reads in
    let none = c.in-Some.ensures.ready.0 in
    let clear = free d bytes is are r c.args.byte c.ranges.byte.fits step e.settings reads gains none in
    let t = times_of x.reader.settings.depth is.packets in
    let a = g.K.Sink.state c.args.sink.now in let b = g.K.Sink.state c.take_frequent.new.sink in
    let prints = subst (λ (n : ℕ). Prints {T = Unit {0}} {E = Failed} c.args.id t (after_packets n t (told step)) a b (Ok c.in-Ok.field-0))
    c.self.invariant.depth (c.in-Ok.ensures.prints t is.times clear.0).0 in
    let so = gains_on d bytes is are r c.args.byte c.ranges.byte.fits step e.settings reads gains none c.args.id a b (Ok c.in-Ok.field-0) prints in
    (so.0, subst (λ (y : Timed). TimesGains ((y.reader).settings) c.args.id bytes c.args.byte so.0) c.self.view_is so.1, so.2)

pub returns-in-Err-clause-gains : goal.returns-in-Err-clause-gains
returns-in-Err-clause-gains g c bytes stands =
    let x = c.self.inside in let d : Timed = timed x.reader x.timing x.broken in let e = c.in-Some.ensures.takes in
    let is = subst (λ (y : Timed). StandsAt y bytes) (sym c.self.view_is) stands in let are = c.self.invariant.reads.settings in
    let at = c.in-Some.at in let packet = packet_of c.in-Some.packet in let step = Whole at packet in
    let r = c.next_frequent.new.reader in let reads = e.stands bytes is.reads in let gains = e.gains bytes is.reads in
    let none = c.in-Some.ensures.ready.0 in
    let clear = free d bytes is are r c.args.byte c.ranges.byte.fits step e.settings reads gains none in
    let t = times_of x.reader.settings.depth is.packets in
    let a = g.K.Sink.state c.args.sink.now in let b = g.K.Sink.state c.take_frequent.new.sink in
    let prints = subst (λ (n : ℕ). Prints {T = Unit {0}} {E = Failed} c.args.id t (after_packets n t (told step)) a b (Err c.in-Err.failed))
    c.self.invariant.depth (c.in-Err.ensures.prints t is.times clear.0).0 in
    let so = gains_on d bytes is are r c.args.byte c.ranges.byte.fits step e.settings reads gains none c.args.id a b (Err c.in-Err.failed) prints in
    (so.0, subst (λ (y : Timed). TimesGains ((y.reader).settings) c.args.id bytes c.args.byte so.0) c.self.view_is so.1, so.2)
