use Rattle.std.proofs.Common.{◌≡◌, ◌-◌, Bool, List, ℕ, Some, suc, arith, refl, slice_get, subst, sym}
use Rattle.etm_types.specs.declared.element.Elem.{Elem}
use Rattle.etm_types.specs.declared.element.Elem.TheVariants as elem
use Rattle.etm_types.specs.declared.element.P0.TheVariants.{Atom}
use Rattle.stream_decoder.specs.Left.{Left}
use Rattle.stream_decoder.specs.Waiting.{TakesAtoms, Waiting}
use Rattle.stream_decoder.proofs.LettingGo.{one_after, takes_behind}
use Rattle.stream_decoder.proofs.machine.oldest.take_atoms.Goals.{else-n-gt1-via-then-n-gt1+else-not-take_run, else-n-gt1-via-else-n-gt1}
use Rattle.stream_decoder.proofs.machine.oldest.take_atoms.Goals as goal

-- where a run was tried before, and was not taken
as_before : (w was mid : Waiting) (l before : Left) (elements : List Elem) → (was ≡ w) × (before ≡ l) → TakesAtoms was before.elements 1 mid elements
    → TakesAtoms w l.elements 1 mid elements
as_before w was mid l before elements same takes =
    subst (λ (v : Waiting). TakesAtoms v l.elements 1 mid elements) same.0
    (subst (λ (x : Left). TakesAtoms was x.elements 1 mid elements) same.1 takes)

pub take_run-requires-then-n-gt1-clause-atoms : goal.take_run-requires-then-n-gt1-clause-atoms
take_run-requires-then-n-gt1-clause-atoms c k below =
    let w = c.args.waiting.now in let l = c.args.todo.now in let mid = c.take_first.new.waiting in let r = c.requires in
    let first = as_before w c.take_run.new.waiting mid l c.take_run.new.todo c.take_first.new.todo.elements (c.if-take_run.ensures.unchanged refl)
    c.take_first.ensures.takes in
    let after = one_after w mid l.elements c.take_first.new.todo.elements c.args.n r.due r.full r.holds r.held r.atoms first in
    after.atoms k below

pub take_each-requires-clause-atoms : goal.take_each-requires-clause-atoms
take_each-requires-clause-atoms c k below =
    let w = c.args.waiting.now in let l = c.args.todo.now in let mid = c.take_first.new.waiting in let r = c.requires in
    let first = as_before w c.take_run.new.waiting mid l c.take_run.new.todo c.take_first.new.todo.elements (c.if-take_run.ensures.unchanged refl)
    c.take_first.ensures.takes in
    let after = one_after w mid l.elements c.take_first.new.todo.elements c.args.n r.due r.full r.holds r.held r.atoms first in
    let same = c.if-not-take_run.ensures.unchanged refl in
    subst (λ (x : Left). (taken : Bool) × (slice_get x.elements k ≡ Some (elem.P0 (Atom taken)))) (sym same.1) (after.atoms k below)

pub returns-else-n-gt1-clause-takes : goal.returns-else-n-gt1-clause-takes
returns-else-n-gt1-clause-takes c =
    let w = c.args.waiting.now in let l = c.args.todo.now in let mid = c.take_first.new.waiting in let remain = c.take_first.new.todo.elements in
    let first = as_before w c.take_run.new.waiting mid l c.take_run.new.todo remain (c.if-take_run.ensures.unchanged refl) c.take_first.ensures.takes in
    elim c.else-n-gt1.branch [
      | else-n-gt1-via-then-n-gt1+else-not-take_run b ↦
          let w' = b.take_run-then-n-gt1.new.waiting in let left = b.take_run-then-n-gt1.new.todo.elements in
          let all : suc (c.args.n - 1) ≡ c.args.n = omega (arith, b.if-n-gt1) in
          rw (b.waiting-is, b.todo-is)
          (subst (λ (n : ℕ). TakesAtoms w l.elements n w' left) all
          (takes_behind w mid w' l.elements remain left (c.args.n - 1) first (b.if-not-take_run.ensures.takes refl)))
      | else-n-gt1-via-else-n-gt1 b ↦
          let one : 1 ≡ c.args.n = omega (arith, b.if-n-gt1, c.requires.some) in
          rw (b.waiting-is, b.todo-is) (subst (λ (n : ℕ). TakesAtoms w l.elements n mid remain) one first)
    ]
