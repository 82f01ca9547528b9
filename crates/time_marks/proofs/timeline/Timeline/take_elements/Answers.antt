use Rattle.std.proofs.Common.{◌≡◌, ◌+◌, ℕ, true, false, drop, Option, Some, None, Result, Ok, Err, refl, sym, subst, ◌∙◌, inl, inr, arith}
use Rattle.std.specs.Prelude.{IsOk}
use Rattle.std.proofs.lemmas.Bool.{cases_Bool}
use Rattle.capture_streams.proofs.Standing.{by_err}
use Rattle.stream_decoder.proofs.Lefts.{none_left}
use Rattle.stream_decoder.proofs.Waits.{next_at}
use Rattle.time_marks.proofs.Going.{along_done, along_fails, along_next, along_stopped, at_place, fault_there, is_info, no_fault}
use Rattle.time_marks.specs.Marked.{IsInfo}
use Rattle.time_marks.specs.Timed.{IsAt, Prints}
use Rattle.time_marks.specs.Times.{after_element, after_elements}
use Rattle.time_marks.proofs.timeline.Timeline.take_elements.Goals as goal
use Rattle.trace_io.specs.declared.traits.Failed.{Failed}

none_is : {X : Type 0} (o : Option X) → ((x : X) → o ≡ Some x → ⊥) → o ≡ None
none_is None never = refl
none_is (Some x) never = absurd (never x refl)

pub take_element-requires-clause-comes : goal.take_element-requires-clause-comes
take_element-requires-clause-comes g c none =
    at_place IsInfo c.args.elems.now c.loop-next.next c.in-Some.elem (c.loop-next.invariant.begins none) (sym c.in-Some.ensures.value)

pub returns-in_err-take_element-clause-prints : goal.returns-in_err-take_element-clause-prints
returns-in_err-take_element-clause-prints g c t is stamp =
    let state = g.K.Sink.state in let i = c.loop-next.invariant in let elems = c.args.elems.now in let n = c.loop-next.next in let place = c.args.place.now in
    let p = i.along t is stamp in let e = c.in-Some.elem in let depth = c.args.self.now.queue.depth in
    let a = state c.args.sink.now in let b = state c.loop-next.sink in let d = state c.take_element.new.sink in
    let whole = no_fault c.loop-next.self.fault (sym c.if-is_some.ensures) in
    let prints = c.in_err-take_element.ensures.prints p.here p.is (p.stamp ∙ stamp) in
    by_err (λ (r : Result (Unit {0}) Failed). Prints place.id t (after_elements depth place.at t elems) a d r
    × (IsOk r → IsAt c.take_element.new.self (after_elements depth place.at t elems))) c.from_residual.result c.from_residual.ensures.0 (λ x. (
      along_fails place.id depth place.at t elems (drop n elems) c.loop-next.self a b p e (drop (n + 1) elems) (next_at elems n e (sym c.in-Some.ensures.value)) whole d
          {T = Unit {0}} {U = Unit {0}} c.in_err-take_element.field-0.0 x
          (subst (λ (k : ℕ). Prints {T = Unit {0}} place.id p.here (after_element k place.at p.here e) b d (Err c.in_err-take_element.field-0.0)) i.depth prints.0),
      λ ok. absurd cc,
    ))

pub returns-then-is_some-clause-prints : goal.returns-then-is_some-clause-prints
returns-then-is_some-clause-prints g c t is stamp =
    let state = g.K.Sink.state in let place = c.args.place.now in
    let met = fault_there c.loop-next.self.fault (sym c.if-is_some.ensures) in
    let so = along_stopped place.id c.args.self.now.queue.depth place.at t c.args.elems.now (drop c.loop-next.next c.args.elems.now) c.loop-next.self
    (state c.args.sink.now) (state c.loop-next.sink) (c.loop-next.invariant.along t is stamp) {E = Failed} tt met.0 met.1 in
    (so.0, λ ok. so.1)

pub returns-in_default-clause-prints : goal.returns-in_default-clause-prints
returns-in_default-clause-prints g c t is stamp =
    let state = g.K.Sink.state in let place = c.args.place.now in
    let so = along_done place.id c.args.self.now.queue.depth place.at t c.args.elems.now (drop c.loop-next.next c.args.elems.now) c.loop-next.self
    (state c.args.sink.now) (state c.loop-next.sink) (c.loop-next.invariant.along t is stamp) {E = Failed} tt
    (none_left c.args.elems.now c.loop-next.next (sym c.get.ensures.value ∙ none_is c.get.result c.in_default.not-Some)) in
    (so.0, λ ok. so.1)

pub loop-next-preserved : goal.loop-next-preserved
loop-next-preserved g c =
    let state = g.K.Sink.state in let i = c.loop-next.invariant in let elems = c.args.elems.now in let n = c.loop-next.next in let place = c.args.place.now in
    let e = c.in-Some.elem in let depth = c.args.self.now.queue.depth in let there = c.in-Some.ensures.value in
    let a = state c.args.sink.now in let b = state c.loop-next.sink in let d = state c.take_element.new.sink in
    let whole = no_fault c.loop-next.self.fault (sym c.if-is_some.ensures) in let took = c.in_ok-take_element.ensures in
    record {
      along = λ t is stamp.
          let p = i.along t is stamp in let prints = took.prints p.here p.is (p.stamp ∙ stamp) in
          along_next place.id depth place.at t elems (drop n elems) c.loop-next.self a b p e (drop (n + 1) elems) (next_at elems n e (sym there)) whole d {E = Failed}
          c.in_ok-take_element.field-0 c.take_element.new.self
          (subst (λ (k : ℕ). Prints {T = Unit {0}} {E = Failed} place.id p.here (after_element k place.at p.here e) b d (Ok c.in_ok-take_element.field-0)) i.depth prints.0)
          (subst (λ (k : ℕ). IsAt c.take_element.new.self (after_element k place.at p.here e)) i.depth (prints.1 refl));
      begins = λ none. elim (cases_Bool c.loop-next.self.queue.pending.informed) [
        | inl informed ↦ absurd (let now = took.stays informed in let both : true ≡ false = sym now ∙ none in cc)
        | inr before ↦ i.begins before
      ];
      same = λ first. absurd (omega (arith, first));
      stays = λ yes. took.stays (i.stays yes);
      informs = λ spec one some none. took.informs (is_info elems spec n e one (sym there)) none;
      depth = took.depth ∙ i.depth;
      holds = λ holds. took.holds;
      kept = took.serves.cause.kept ∙ i.kept;
      shows = took.serves.shows ∙ i.shows;
    }
