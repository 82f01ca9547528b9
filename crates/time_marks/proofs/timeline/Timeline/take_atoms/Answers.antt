use Rattle.std.proofs.Common.{◌+◌, ◌/◌, ◌%◌, ◌^◌, ◌==◌, ℕ, drop, Result, Ok, Err, refl, subst, ◌∙◌, arith}
use Rattle.std.specs.Prelude.{IsOk}
use Rattle.capture_streams.proofs.Standing.{by_err}
use Rattle.etm_types.specs.Atoms.{atoms_in}
use Rattle.etm_types.specs.declared.element.Elem.TheVariants as elem
use Rattle.etm_types.specs.declared.element.P0.TheVariants.{Atom}
use Rattle.path_elements.specs.Elements.{atoms}
use Rattle.time_marks.proofs.Frequents.{next_atom, no_more_atoms}
use Rattle.time_marks.proofs.Going.{along_done, along_fails, along_next}
use Rattle.time_marks.specs.Timed.{IsAt, Prints}
use Rattle.time_marks.specs.Times.{after_element, after_elements}
use Rattle.time_marks.proofs.timeline.Timeline.take_atoms.Goals as goal
use Rattle.trace_io.specs.declared.traits.Failed.{Failed}

pub returns-in_err-push-clause-prints : goal.returns-in_err-push-clause-prints
returns-in_err-push-clause-prints g c t is stamp =
    let state = g.K.Sink.state in let i = c.loop-next.invariant in let run = c.args.run.now in let elems = atoms (atoms_in run) in
    let n = c.loop-next.next in let place = c.args.place.now in let p = i.along t is stamp in let depth = c.args.self.now.queue.depth in
    let a = state c.args.sink.now in let b = state c.loop-next.sink in let d = state c.push.new.sink in
    let e = elem.P0 (Atom (run.bits / 2 ^ n % 2 == 1)) in
    let prints = c.in_err-push.ensures.prints p.here p.is (p.stamp ∙ stamp) in
    by_err (λ (r : Result (Unit {0}) Failed). Prints place.id t (after_elements depth place.at t elems) a d r
    × (IsOk r → IsAt c.push.new.self (after_elements depth place.at t elems))) c.from_residual.result c.from_residual.ensures.0 (λ x. (
      along_fails place.id depth place.at t elems (drop n elems) c.loop-next.self a b p e (drop (n + 1) elems) (next_atom run n (omega (arith, c.loop-next-test.true))) i.whole d
          {T = Unit {0}} {U = Unit {0}} c.in_err-push.field-0.0 x
          (subst (λ (k : ℕ). Prints {T = Unit {0}} place.id p.here (after_element k place.at p.here e) b d (Err c.in_err-push.field-0.0)) i.depth prints.0),
      λ ok. absurd cc,
    ))

pub returns-clause-prints : goal.returns-clause-prints
returns-clause-prints g c t is stamp =
    let state = g.K.Sink.state in let run = c.args.run.now in let elems = atoms (atoms_in run) in let place = c.args.place.now in
    let so = along_done place.id c.args.self.now.queue.depth place.at t elems (drop c.loop-next.next elems) c.loop-next.self
    (state c.args.sink.now) (state c.loop-next.sink) (c.loop-next.invariant.along t is stamp) {E = Failed} tt
    (no_more_atoms run c.loop-next.next (omega (arith, c.loop-next-test.false))) in
    (so.0, λ ok. so.1)

pub loop-next-preserved : goal.loop-next-preserved
loop-next-preserved g c =
    let state = g.K.Sink.state in let i = c.loop-next.invariant in let run = c.args.run.now in let elems = atoms (atoms_in run) in
    let n = c.loop-next.next in let place = c.args.place.now in let depth = c.args.self.now.queue.depth in
    let a = state c.args.sink.now in let b = state c.loop-next.sink in let d = state c.push.new.sink in
    let e = elem.P0 (Atom (run.bits / 2 ^ n % 2 == 1)) in let took = c.in_ok-push.ensures in
    record {
      along = λ t is stamp.
          let p = i.along t is stamp in let prints = took.prints p.here p.is (p.stamp ∙ stamp) in
          along_next place.id depth place.at t elems (drop n elems) c.loop-next.self a b p e (drop (n + 1) elems)
          (next_atom run n (omega (arith, c.loop-next-test.true))) i.whole d {E = Failed} c.in_ok-push.field-0 c.push.new.self
          (subst (λ (k : ℕ). Prints {T = Unit {0}} {E = Failed} place.id p.here (after_element k place.at p.here e) b d (Ok c.in_ok-push.field-0)) i.depth prints.0)
          (subst (λ (k : ℕ). IsAt c.push.new.self (after_element k place.at p.here e)) i.depth (prints.1 refl));
      whole = took.fault ∙ i.whole;
      informed = took.stays;
      depth = took.depth ∙ i.depth;
      holds = λ holds. took.holds;
      kept = took.serves.cause.kept ∙ i.kept;
      shows = took.serves.shows ∙ i.shows;
    }
