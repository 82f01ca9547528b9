use Rattle.std.proofs.Common.{◌≡◌, ℕ, List, Ok, inl, inr, refl, sym, ap, subst, ◌∙◌, arith}
use Rattle.std.specs.List.{concat}
use Rattle.capture_streams.proofs.Standing.{by_err}
use Rattle.capture_streams.specs.Streams.{RunAdds}
use Rattle.packet_reader.specs.Answered.{told}
use Rattle.packet_reader.specs.Stands.{PacketReading, StandsAt}
use Rattle.path_text.proofs.Wrote.{wrote_by}
use Rattle.path_text.specs.PacketLines.{packet_line}
use Rattle.packet_list.proofs.PacketLists.{has_text}
use Rattle.packet_list.proofs.PacketRuns.{Along, along_adds, along_first, along_read, along_reads, front_between, front_fails, front_more, front_reads}
use Rattle.packet_list.proofs.PacketRuns.{small_bytes, some_is_not_none, step_between, step_fails, step_more, step_reads}
use Rattle.packet_list.specs.PacketList.{packet_lines, packet_lists}
use Rattle.packet_list.proofs.packet_list.take_bytes.Goals as goal
use Rattle.trace_io.specs.declared.traits.Failed.{Failed}

pub loop-byte-init : goal.loop-byte-init
loop-byte-init g c = record {
  line = refl;
  along = along_first c.args.line.now c.args.reader.now c.args.fault.now (g.K.Sink.state c.args.sink.now) c.args.run.now;
  kept = refl;
  shows = refl;
}

-- ---- a packet in front

pub returns-in_err-behind-clause-reads : goal.returns-in_err-behind-clause-reads
returns-in_err-behind-clause-reads g c =
    let run = c.args.run.now in let small = small_bytes run (λ n. omega (arith, c.type_inv.run n)) in
    elim c.in_err-behind.ensures.front [
      | inl none ↦ absurd cc
      | inr (behind, at, packet, front, writes, rest) ↦
          front_reads c.args.line.now c.args.reader.now c.args.fault.now (g.K.Sink.state c.args.sink.now) run c.requires.reads small c.loop-byte.reader
          c.take_front.new.reader c.loop-byte.fault (g.K.Sink.state c.loop-byte.sink) (g.K.Sink.state c.take_front.new.sink) c.loop-byte.rest.now
          c.loop-byte.invariant.along behind at packet front
    ]

pub returns-in_err-behind-clause-between : goal.returns-in_err-behind-clause-between
returns-in_err-behind-clause-between g c =
    let run = c.args.run.now in let small = small_bytes run (λ n. omega (arith, c.type_inv.run n)) in
    elim c.in_err-behind.ensures.front [
      | inl none ↦ absurd cc
      | inr (behind, at, packet, front, writes, rest) ↦
          front_between c.args.line.now c.args.reader.now c.args.fault.now (g.K.Sink.state c.args.sink.now) run c.requires.reads small c.loop-byte.reader
          c.take_front.new.reader c.loop-byte.fault (g.K.Sink.state c.loop-byte.sink) (g.K.Sink.state c.take_front.new.sink) c.loop-byte.rest.now
          c.loop-byte.invariant.along behind at packet front
    ]

pub returns-in_err-behind-clause-gains : goal.returns-in_err-behind-clause-gains
returns-in_err-behind-clause-gains g c bytes read =
    let run = c.args.run.now in let small = small_bytes run (λ n. omega (arith, c.type_inv.run n)) in let i = c.loop-byte.invariant in
    let state = g.K.Sink.state in let id = c.args.line.now in
    let adds = RunAdds {T = Unit {0}} {E = Failed} (packet_lists c.args.reader.now.settings) id bytes run (state c.args.sink.now)
    (state c.take_front.new.sink) in
    elim c.in_err-behind.ensures.front [
      | inl none ↦ absurd cc
      | inr (behind, at, packet, front, writes, rest) ↦
          by_err adds c.from_residual.result c.from_residual.ensures.0 (λ d.
          front_fails id c.args.reader.now c.args.fault.now (state c.args.sink.now) run c.requires.reads small c.loop-byte.reader
          c.take_front.new.reader c.loop-byte.fault (state c.loop-byte.sink) (state c.take_front.new.sink) c.loop-byte.rest.now
          i.along behind at packet front {U = Unit {0}} c.in_err-behind.field-0.0 d (rw i.line at writes) bytes read)
    ]

pub loop-byte-preserved-in-Some-2 : goal.loop-byte-preserved-in-Some-2
loop-byte-preserved-in-Some-2 g c =
    let run = c.args.run.now in let small = small_bytes run (λ n. omega (arith, c.type_inv.run n)) in let i = c.loop-byte.invariant in
    let state = g.K.Sink.state in let id = c.args.line.now in
    elim c.in_ok-behind.ensures.front [
      | inl none ↦ absurd (some_is_not_none c.in_ok-behind.field-0 c.in-Some-2.behind c.in-Some-2.is none)
      | inr (behind, at, packet, front, writes, rest) ↦
          let wrote = wrote_by (state c.loop-byte.sink) (state c.take_front.new.sink) c.in_ok-behind.field-0 (packet_line id at packet) (rw i.line at writes) in
          let place : c.in-Some-2.behind.now ≡ behind = rw c.in-Some-2.is at rest in
          record {
            line = c.in_ok-behind.ensures.line ∙ i.line;
            along = subst (λ (l : List ℕ). Along id c.args.reader.now c.take_front.new.reader c.args.fault.now c.loop-byte.fault (state c.args.sink.now)
                (state c.take_front.new.sink) run l) (sym place)
                (front_more id c.args.reader.now c.args.fault.now (state c.args.sink.now) run c.requires.reads small c.loop-byte.reader
                c.take_front.new.reader c.loop-byte.fault (state c.loop-byte.sink) (state c.take_front.new.sink) c.loop-byte.rest.now
                i.along behind at packet front wrote);
            kept = wrote.kept ∙ i.kept;
            shows = wrote.shows ∙ i.shows;
          }
    ]

-- ---- any byte

pub write_step-requires : goal.write_step-requires
write_step-requires g c at packet is =
    let kept = c.in_ok-behind.ensures.none (ap Ok c.in_default-2.is) in
    let i = c.loop-byte.invariant in
    let reads = along_reads c.args.line.now c.args.reader.now c.loop-byte.reader c.args.fault.now c.loop-byte.fault (g.K.Sink.state c.args.sink.now)
    (g.K.Sink.state c.loop-byte.sink) c.args.run.now c.loop-byte.rest.now c.requires.reads i.along in
    has_text c.take_front.new.reader.settings packet
    (c.take.ensures.values reads.bytes (subst (λ (r : PacketReading). StandsAt r reads.bytes) (sym kept.0) reads.read.stands) reads.read.small at packet is)

pub returns-in_err-write_step-clause-reads : goal.returns-in_err-write_step-clause-reads
returns-in_err-write_step-clause-reads g c =
    let run = c.args.run.now in let small = small_bytes run (λ n. omega (arith, c.type_inv.run n)) in let i = c.loop-byte.invariant in
    let state = g.K.Sink.state in let id = c.args.line.now in
    let kept = c.in_ok-behind.ensures.none (ap Ok c.in_default-2.is) in let along = rw (sym kept.0, sym kept.1) at i.along in
    step_reads id c.args.reader.now c.args.fault.now (state c.args.sink.now) run c.requires.reads small c.take_front.new.reader c.take.new.self
    c.loop-byte.fault (state c.take_front.new.sink) (state c.write_step.new.sink) c.loop-byte.rest.now along c.in-Some.byte.now c.in-Some.later.now
    c.take.result c.in-Some.ensures.cases.0 (omega (arith)) c.take.ensures.settings c.take.ensures.offset c.take.ensures.stands
    c.take.ensures.gains c.write_step.new.fault c.write_step.ensures.fault

pub returns-in_err-write_step-clause-between : goal.returns-in_err-write_step-clause-between
returns-in_err-write_step-clause-between g c =
    let run = c.args.run.now in let small = small_bytes run (λ n. omega (arith, c.type_inv.run n)) in let i = c.loop-byte.invariant in
    let state = g.K.Sink.state in let id = c.args.line.now in
    let kept = c.in_ok-behind.ensures.none (ap Ok c.in_default-2.is) in let along = rw (sym kept.0, sym kept.1) at i.along in
    step_between id c.args.reader.now c.args.fault.now (state c.args.sink.now) run c.requires.reads small c.take_front.new.reader c.take.new.self
    c.loop-byte.fault (state c.take_front.new.sink) (state c.write_step.new.sink) c.loop-byte.rest.now along c.in-Some.byte.now c.in-Some.later.now
    c.take.result c.in-Some.ensures.cases.0 (omega (arith)) c.take.ensures.settings c.take.ensures.offset c.take.ensures.stands
    c.take.ensures.gains c.write_step.new.fault c.write_step.ensures.fault

pub returns-in_err-write_step-clause-gains : goal.returns-in_err-write_step-clause-gains
returns-in_err-write_step-clause-gains g c bytes read =
    let run = c.args.run.now in let small = small_bytes run (λ n. omega (arith, c.type_inv.run n)) in let i = c.loop-byte.invariant in
    let state = g.K.Sink.state in let id = c.args.line.now in
    let kept = c.in_ok-behind.ensures.none (ap Ok c.in_default-2.is) in let along = rw (sym kept.0, sym kept.1) at i.along in
    let named : c.take_front.new.line ≡ id = c.in_ok-behind.ensures.line ∙ i.line in
    let adds = RunAdds {T = Unit {0}} {E = Failed} (packet_lists c.args.reader.now.settings) id bytes run (state c.args.sink.now)
    (state c.write_step.new.sink) in
    by_err adds c.from_residual-in_err-write_step.result c.from_residual-in_err-write_step.ensures.0 (λ d.
    step_fails id c.args.reader.now c.args.fault.now (state c.args.sink.now) run c.requires.reads small c.take_front.new.reader c.take.new.self
    c.loop-byte.fault (state c.take_front.new.sink) (state c.write_step.new.sink) c.loop-byte.rest.now along c.in-Some.byte.now c.in-Some.later.now
    c.take.result c.in-Some.ensures.cases.0 (omega (arith)) c.take.ensures.settings c.take.ensures.offset c.take.ensures.stands
    c.take.ensures.gains c.write_step.new.fault c.write_step.ensures.fault {U = Unit {0}} c.in_err-write_step.field-0.0 d
    (rw named at c.in_err-write_step.ensures.writes) bytes read)

pub loop-byte-preserved : goal.loop-byte-preserved
loop-byte-preserved g c =
    let run = c.args.run.now in let small = small_bytes run (λ n. omega (arith, c.type_inv.run n)) in let i = c.loop-byte.invariant in
    let state = g.K.Sink.state in let id = c.args.line.now in
    let kept = c.in_ok-behind.ensures.none (ap Ok c.in_default-2.is) in let along = rw (sym kept.0, sym kept.1) at i.along in
    let named : c.take_front.new.line ≡ id = c.in_ok-behind.ensures.line ∙ i.line in
    let wrote = wrote_by (state c.take_front.new.sink) (state c.write_step.new.sink) c.in_ok-write_step.field-0
    (concat (packet_lines id (told c.take.result))) (rw named at c.in_ok-write_step.ensures.writes) in
    record {
      line = c.in_ok-write_step.ensures.line ∙ named;
      along = step_more id c.args.reader.now c.args.fault.now (state c.args.sink.now) run c.requires.reads small c.take_front.new.reader c.take.new.self
          c.loop-byte.fault (state c.take_front.new.sink) (state c.write_step.new.sink) c.loop-byte.rest.now along c.in-Some.byte.now c.in-Some.later.now
          c.take.result c.in-Some.ensures.cases.0 (omega (arith)) c.take.ensures.settings c.take.ensures.offset c.take.ensures.stands
          c.take.ensures.gains c.write_step.new.fault c.write_step.ensures.fault wrote;
      kept = wrote.kept ∙ rw (sym kept.1) at i.kept;
      shows = wrote.shows ∙ rw (sym kept.1) at i.shows;
    }

-- ---- all of them

pub returns-clause-reads : goal.returns-clause-reads
returns-clause-reads g c =
    along_reads c.args.line.now c.args.reader.now c.loop-byte.reader c.args.fault.now c.loop-byte.fault (g.K.Sink.state c.args.sink.now)
    (g.K.Sink.state c.loop-byte.sink) c.args.run.now c.loop-byte.rest.now c.requires.reads c.loop-byte.invariant.along

pub returns-clause-read : goal.returns-clause-read
returns-clause-read g c ok bytes read =
    along_read c.args.line.now c.args.reader.now c.args.fault.now (g.K.Sink.state c.args.sink.now) c.args.run.now c.requires.reads c.loop-byte.reader
    c.loop-byte.fault (g.K.Sink.state c.loop-byte.sink) c.loop-byte.rest.now c.in_default.ensures.cases c.loop-byte.invariant.along bytes read

pub returns-clause-gains : goal.returns-clause-gains
returns-clause-gains g c bytes read =
    along_adds c.args.line.now c.args.reader.now c.args.fault.now (g.K.Sink.state c.args.sink.now) c.args.run.now c.requires.reads c.loop-byte.reader
    c.loop-byte.fault (g.K.Sink.state c.loop-byte.sink) tt c.loop-byte.rest.now c.in_default.ensures.cases c.loop-byte.invariant.along bytes read
