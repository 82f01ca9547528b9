use Rattle.std.proofs.Common.{◌-◌, ◌≡◌, ◌≤◌, ◌<◌, ◌+◌, [], ℕ, Bool, Some, length, slice_get}
use Rattle.etm_types.specs.declared.element.Elem.TheVariants as elem
use Rattle.etm_types.specs.declared.element.P0.TheVariants.{Atom}
use Rattle.etm_types.specs.Pre.{nothing_told}
use Rattle.stream_decoder.specs.Waiting.{IsWaiting, TakesAtoms}
use Rattle.stream_decoder.proofs.machine.oldest.take_each.Given as goal

abbrev pub decreases-loop-k : goal.decreases-loop-k
decreases-loop-k l = l.n - l.k

abbrev pub invariant-loop-k : goal.invariant-loop-k
invariant-loop-k l =
    record {
      takes : TakesAtoms l.fn.waiting l.fn.todo.elements l.k l.waiting l.todo.elements;
      atoms : (j : ℕ) → l.k + j < l.n → (taken : Bool) × (slice_get l.todo.elements j ≡ Some (elem.P0 (Atom taken)));
      at : l.todo.at ≡ l.fn.todo.at;
      due : l.waiting.due ≡ [];
      full : l.waiting.depth ≤ length l.waiting.pending.held;
      depth : l.waiting.depth ≡ l.fn.waiting.depth;
      given : 0 < l.k → l.waiting.pending.pre ≡ nothing_told;
      most : l.k ≤ l.n;
      holds : IsWaiting l.waiting;
    }
