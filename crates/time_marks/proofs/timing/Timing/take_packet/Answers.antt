use Rattle.std.proofs.Common.{◌≡◌, sym, ap, subst, ◌∙◌, inl, inr, Result, Ok, Err, arith}
use Rattle.std.specs.Prelude.{All, IsOk}
use Rattle.std.proofs.lemmas.Grind.{common_steps}
use Rattle.std.proofs.lemmas.Bool.{cases_Bool}
use Rattle.capture_streams.proofs.Standing.{by_err}
use Rattle.path_elements.specs.Elements.{Told}
use Rattle.time_marks.proofs.Frequents.{prints_one}
use Rattle.time_marks.proofs.Going.{printed_more, printed_none}
use Rattle.time_marks.proofs.Packets.{all_prints, all_times, begun_at, begun_stamp, comes_first, event_fails, event_prints, first_packet, stays_told}
use Rattle.time_marks.specs.Marked.{IsInfo}
use Rattle.time_marks.specs.Timed.{HasTimes, Prints}
use Rattle.time_marks.specs.Times.{after_good, opened}
use Rattle.time_marks.proofs.timing.Timing.take_packet.Goals as goal
use Rattle.trace_io.specs.declared.traits.Failed.{Failed}

pub returns-in_err-write_event : goal.returns-in_err-write_event
returns-in_err-write_event g c =
    let x = c.args.self.now in let p = c.args.packet.now in let at = c.args.at in let id = c.args.id in let depth = x.line.queue.depth in
    let a = g.K.Sink.state c.args.sink.now in let b = g.K.Sink.state c.write_event.new.sink in
    let knows = c.informed-informed.ensures ∙ sym (c.requires.informed c.requires.whole) in
    let e = c.in_err-write_event.field-0.0 in let x' = record x { maker = c.take.new.self } in
    record {
      prints = λ t is none.
          prints_one id a b c.from_residual.result x' depth t none at p
          (by_err (λ (r : Result (Unit {0}) Failed). Prints id t (after_good depth t (at, p)) a b r
          × (IsOk r → HasTimes x' (after_good depth t (at, p)) × (x.line.fault ≡ (after_good depth t (at, p)).fault)))
          c.from_residual.result c.from_residual.ensures.0 (λ d. (
            event_fails x t is none c.requires.whole depth at id p c.informed-informed.result knows c.in-Ok.elems c.take.new.self c.in-Ok.ensures.ok {T = Unit {0}} {U = Unit {0}} a b e d
                (event_prints x t is none c.requires.whole depth at id p c.informed-informed.result knows c.in-Ok.elems c.take.new.self c.in-Ok.ensures.ok {T = Unit {0}} a b (Err e)
                c.in_err-write_event.ensures),
            λ ok. absurd cc,
          )));
      informed = grind (arith, common_steps);
      depth = search;
      holds = λ holds. holds;
      serves = grind (arith, common_steps);
    }

pub take_elements-requires-clause-comes : goal.take_elements-requires-clause-comes
take_elements-requires-clause-comes g c none =
    let x = c.args.self.now in
    subst (All IsInfo) (sym c.in-Ok.ensures.ok.1) (comes_first x.maker c.args.packet.now (c.requires.informed c.requires.whole ∙ none))

pub returns : goal.returns
returns g c =
    let x = c.args.self.now in let p = c.args.packet.now in let at = c.args.at in let id = c.args.id in let depth = x.line.queue.depth in
    let state = g.K.Sink.state in let a = state c.args.sink.now in let b = state c.write_event.new.sink in let d = state c.take_elements.new.sink in
    let same = c.requires.informed c.requires.whole in let knows = c.informed-informed.ensures ∙ sym same in
    let informed = c.informed-informed.result in let elems = c.in-Ok.elems in let maker = c.take.new.self in let takes = c.in-Ok.ensures.ok in
    let stamp = c.stamp_after-self.result in let line = c.take_elements.new.self in let r = c.take_elements.result in let e = c.take_elements.ensures in
    record {
      prints = λ t is none.
          let begun = opened t p in
          let event = event_prints x t is none c.requires.whole depth at id p informed knows elems maker takes {T = Unit {0}} {E = Failed} a b
          (Ok c.in_ok-write_event.field-0) c.in_ok-write_event.ensures in
          let first = printed_more id t t begun a a b {E = Failed} c.in_ok-write_event.field-0 (printed_none id t a) event in
          let stamped = begun_stamp x t is none c.requires.whole depth at id p informed knows elems maker takes in
          let prints = e.prints begun (begun_at x t is none c.requires.whole depth at id p informed knows elems maker takes)
          (stamped ∙ sym c.stamp_after-self.ensures) in
          prints_one id a d r (record { maker = maker; stamp = stamp; line = line }) depth t none at p (
            all_prints x t is none c.requires.whole depth at id p informed knows elems maker takes a b d r first prints.0,
            λ ok. all_times x t is none c.requires.whole depth at id p informed knows elems maker takes line stamp c.stamp_after-self.ensures (prints.1 ok),
          );
      informed = λ ok none.
          let told : maker.informed ≡ _ = ap (λ (t : Told). t.informed) takes.2 in
          elim (cases_Bool x.maker.informed) [
            | inl is ↦ told ∙ stays_told x.maker p is ∙ sym (e.stays (sym same ∙ is))
            | inr before ↦ elim (first_packet x.maker p before) [
              | inl info ↦ told ∙ info.2 ∙ sym (e.informs info.0 (takes.1 ∙ info.1) ok none)
              | inr other ↦ told ∙ ap (λ (t : Told). t.informed) other.1 ∙ same ∙ sym (ap (λ m. (m.pending).informed) (e.nothing (takes.1 ∙ other.0)))
            ]
          ];
      depth = search;
      holds = search;
      serves = grind (arith, common_steps);
    }
