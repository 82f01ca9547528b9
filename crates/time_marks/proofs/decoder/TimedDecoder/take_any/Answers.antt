use Rattle.std.proofs.Common.{◌≡◌, ℕ, ◌+◌, Bool, true, [], None, Ok, Err, refl, sym, ap, subst, ◌∙◌, arith}
use Rattle.std.proofs.lemmas.Grind.{common_steps}
use Rattle.path_text.proofs.Wrote.{wrote_nothing, writes_all}
use Rattle.packet_reader.specs.Answered.{fault_after, told}
use Rattle.packet_reader.specs.Stands.{PacketReading}
use Rattle.time_marks.proofs.Going.{fault_there, no_fault}
use Rattle.path_elements.proofs.Taken.{in_range}
use Rattle.time_marks.proofs.Packets.{has_stamp}
use Rattle.time_marks.proofs.Standing.{free, gains_on, gains_stopped, some_or_none, stands_on, stands_stopped, timed_on}
use Rattle.time_marks.specs.Timed.{HasTimes, Prints, StandsAt, Timed, fault_behind}
use Rattle.time_marks.specs.TimeList.{TimesGains}
use Rattle.time_marks.specs.Times.{after_packets, times_of}
use Rattle.time_marks.specs.declared.timing.Timing.{Timing}
use Rattle.time_marks.proofs.decoder.TimedDecoder.take_any.Goals as goal
use Rattle.trace_io.specs.declared.traits.Failed.{Failed}

pub take_step-requires-clause-packet : goal.take_step-requires-clause-packet
take_step-requires-clause-packet g c at packet is =
    let reads = c.self.invariant.reads in
    let there = c.take-step.ensures.values reads.bytes reads.stands reads.small at packet is in
    let s = c.self.inside.reader.settings in (in_range s packet there, has_stamp s packet there)

abbrev timed : PacketReading → Timing → Bool → Timed
timed reader timing broken = record { reader = reader; timing = timing; broken = broken }

-- ---- what holds behind it

pub invariant_of-self : goal.invariant_of-self
invariant_of-self g c =
    let x = c.self.inside in let e = c.take-step.ensures in
    timed_on (timed x.reader x.timing x.broken) c.self.invariant c.take-step.new.self c.args.byte c.ranges.byte.fits e.settings e.stands
    x.timing x.broken (λ marked. marked) refl c.self.invariant.informed

pub invariant_of-self-in-Ok : goal.invariant_of-self-in-Ok
invariant_of-self-in-Ok g c =
    let x = c.self.inside in let e = c.take-step.ensures in let f = c.take_step.ensures in
    timed_on (timed x.reader x.timing x.broken) c.self.invariant c.take-step.new.self c.args.byte c.ranges.byte.fits e.settings e.stands
    c.take_step.new.self x.broken f.holds f.depth (λ whole. c.in-Ok.ensures.informed refl)

pub invariant_of-self-in-Err : goal.invariant_of-self-in-Err
invariant_of-self-in-Err g c =
    let x = c.self.inside in let e = c.take-step.ensures in let f = c.take_step.ensures in
    timed_on (timed x.reader x.timing x.broken) c.self.invariant c.take-step.new.self c.args.byte c.ranges.byte.fits e.settings e.stands
    c.take_step.new.self true f.holds f.depth (λ whole. absurd cc)

-- ---- behind a fault

pub returns-then-is_some : goal.returns-then-is_some
returns-then-is_some g c =
    let x = c.self.inside in let d = timed x.reader x.timing x.broken in let e = c.take-step.ensures in
    let r = c.take-step.new.self in let step = c.take-step.result in let are = c.self.invariant.reads.settings in
    let met = fault_there x.timing.line.fault (sym c.if-is_some.ensures) in let a = g.K.Sink.state c.args.sink.now in
    record {
      stands = λ ok bytes stands.
          let is = subst (λ (y : Timed). StandsAt y bytes) (sym c.self.view_is) stands in
          stands_stopped d bytes is are r c.args.byte c.ranges.byte.fits step e.settings (e.stands bytes is.reads) (e.gains bytes is.reads) met.0 met.1
          (record d { reader = r }) is.whole refl refl;
      gains = λ bytes stands.
          let is = subst (λ (y : Timed). StandsAt y bytes) (sym c.self.view_is) stands in (
            [],
            subst (λ (y : Timed). TimesGains ((y.reader).settings) c.args.id bytes c.args.byte []) c.self.view_is
                (gains_stopped d bytes is are r c.args.byte c.ranges.byte.fits step e.settings (e.stands bytes is.reads) (e.gains bytes is.reads)
                met.0 met.1 c.args.id),
            writes_all {E = Failed} a a tt [] (wrote_nothing a),
          );
      stopped = λ stop met. (refl, refl, ap (λ (y : Timed). record y { reader = r }) c.self.view_is);
      serves = grind (arith, common_steps);
      broken = grind (arith, common_steps);
      offset = e.offset ∙ ap (λ (y : Timed). (y.reader).offset + 1) c.self.view_is;
      settings = e.settings ∙ ap (λ (y : Timed). (y.reader).settings) c.self.view_is;
      kept = timed_on d c.self.invariant r c.args.byte c.ranges.byte.fits e.settings e.stands x.timing x.broken (λ marked. marked) refl c.self.invariant.informed;
    }

-- ---- where none was met

pub returns-in-Ok : goal.returns-in-Ok
returns-in-Ok g c =
    let x = c.self.inside in let d = timed x.reader x.timing x.broken in let e = c.take-step.ensures in
    let r = c.take-step.new.self in let step = c.take-step.result in let are = c.self.invariant.reads.settings in
    let none = no_fault x.timing.line.fault (sym c.if-is_some.ensures) in let p = c.take_step.new.self in
    let a = g.K.Sink.state c.args.sink.now in let b = g.K.Sink.state c.take_step.new.sink in
    record {
      stands = λ ok bytes stands.
          let is = subst (λ (y : Timed). StandsAt y bytes) (sym c.self.view_is) stands in
          let reads = e.stands bytes is.reads in let gains = e.gains bytes is.reads in
          let clear = free d bytes is are r c.args.byte c.ranges.byte.fits step e.settings reads gains none in
          let t = times_of x.reader.settings.depth is.packets in
          let times = subst (λ (n : ℕ). HasTimes p (after_packets n t (told step))
          × ((p.line).fault ≡ fault_behind (after_packets n t (told step)).fault (fault_after None step)))
          c.self.invariant.depth ((c.in-Ok.ensures.prints t is.times clear.0).1 refl) in
          stands_on d bytes is are r c.args.byte c.ranges.byte.fits step e.settings reads gains none (timed r p x.broken)
          is.whole refl times.0 times.1;
      gains = λ bytes stands.
          let is = subst (λ (y : Timed). StandsAt y bytes) (sym c.self.view_is) stands in
          let reads = e.stands bytes is.reads in let gains = e.gains bytes is.reads in
          let clear = free d bytes is are r c.args.byte c.ranges.byte.fits step e.settings reads gains none in
          let t = times_of x.reader.settings.depth is.packets in
          let prints = subst (λ (n : ℕ). Prints {T = Unit {0}} {E = Failed} c.args.id t (after_packets n t (told step)) a b (Ok c.in-Ok.field-0))
          c.self.invariant.depth (c.in-Ok.ensures.prints t is.times clear.0).0 in
          let so = gains_on d bytes is are r c.args.byte c.ranges.byte.fits step e.settings reads gains none c.args.id a b (Ok c.in-Ok.field-0) prints in
          (so.0, subst (λ (y : Timed). TimesGains ((y.reader).settings) c.args.id bytes c.args.byte so.0) c.self.view_is so.1, so.2);
      stopped = λ stop met. absurd (some_or_none stop (sym none ∙ ap (λ (y : Timed). ((y.timing).line).fault) c.self.view_is ∙ met));
      serves = grind (arith, common_steps);
      broken = grind (arith, common_steps);
      offset = e.offset ∙ ap (λ (y : Timed). (y.reader).offset + 1) c.self.view_is;
      settings = e.settings ∙ ap (λ (y : Timed). (y.reader).settings) c.self.view_is;
      kept = timed_on d c.self.invariant r c.args.byte c.ranges.byte.fits e.settings e.stands p x.broken c.take_step.ensures.holds c.take_step.ensures.depth (λ whole. c.in-Ok.ensures.informed refl);
    }

pub returns-in-Err : goal.returns-in-Err
returns-in-Err g c =
    let x = c.self.inside in let d = timed x.reader x.timing x.broken in let e = c.take-step.ensures in
    let r = c.take-step.new.self in let step = c.take-step.result in let are = c.self.invariant.reads.settings in
    let none = no_fault x.timing.line.fault (sym c.if-is_some.ensures) in let p = c.take_step.new.self in
    let a = g.K.Sink.state c.args.sink.now in let b = g.K.Sink.state c.take_step.new.sink in
    record {
      stands = λ ok. absurd cc;
      gains = λ bytes stands.
          let is = subst (λ (y : Timed). StandsAt y bytes) (sym c.self.view_is) stands in
          let reads = e.stands bytes is.reads in let gains = e.gains bytes is.reads in
          let clear = free d bytes is are r c.args.byte c.ranges.byte.fits step e.settings reads gains none in
          let t = times_of x.reader.settings.depth is.packets in
          let prints = subst (λ (n : ℕ). Prints {T = Unit {0}} {E = Failed} c.args.id t (after_packets n t (told step)) a b (Err c.in-Err.failed))
          c.self.invariant.depth (c.in-Err.ensures.prints t is.times clear.0).0 in
          let so = gains_on d bytes is are r c.args.byte c.ranges.byte.fits step e.settings reads gains none c.args.id a b (Err c.in-Err.failed) prints in
          (so.0, subst (λ (y : Timed). TimesGains ((y.reader).settings) c.args.id bytes c.args.byte so.0) c.self.view_is so.1, so.2);
      stopped = λ stop met. absurd (some_or_none stop (sym none ∙ ap (λ (y : Timed). ((y.timing).line).fault) c.self.view_is ∙ met));
      serves = grind (arith, common_steps);
      broken = grind (arith, common_steps);
      offset = e.offset ∙ ap (λ (y : Timed). (y.reader).offset + 1) c.self.view_is;
      settings = e.settings ∙ ap (λ (y : Timed). (y.reader).settings) c.self.view_is;
      kept = timed_on d c.self.invariant r c.args.byte c.ranges.byte.fits e.settings e.stands p true c.take_step.ensures.holds c.take_step.ensures.depth (λ whole. absurd cc);
    }
