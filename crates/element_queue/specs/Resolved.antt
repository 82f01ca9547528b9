-- What becomes of a list of elements at a maximum speculation depth, up to the first that has a fault.
use Rattle.std.specs.Prelude.{ℕ, false, List, [], ◌∷◌, ◌++◌, Result, Ok, Err}
use Rattle.etm_types.specs.Pre.{trace_missing}
use Rattle.etm_types.specs.declared.element.Elem.{Elem}
use Rattle.etm_types.specs.declared.element.Thing.{Thing}
use Rattle.etm_types.specs.declared.queue_fault.QueueFault.{QueueFault}
use Rattle.element_queue.specs.Pending.{Pending, Taken, taken}

-- what is committed for good, with gaps and stops, oldest first, and what may still be taken back
pub record Resolved : Type 0 where
  pub done : List Thing
  pub pending : Pending

-- before the first element: trace is missing
abbrev pub at_first : Pending
at_first = record { held = []; pre = trace_missing; informed = false }

abbrev pub unresolved : Resolved
unresolved = record { done = []; pending = at_first }

abbrev pub with_done : List Thing → Taken → Result Resolved QueueFault
with_done done (Ok t) = Ok (record { done = done ++ (t.1).committed; pending = t.0 })
with_done done (Err fault) = Err fault

-- one element more
abbrev pub resolve : ℕ → Resolved → Elem → Result Resolved QueueFault
resolve depth r e = with_done r.done (taken depth r.pending e)

abbrev pub then_resolve : Result Resolved QueueFault → (Resolved → Result Resolved QueueFault) → Result Resolved QueueFault
then_resolve (Ok r) next = next r
then_resolve (Err fault) next = Err fault

abbrev pub resolve_all : ℕ → Resolved → List Elem → Result Resolved QueueFault
resolve_all depth r [] = Ok r
resolve_all depth r (e ∷ elements) = then_resolve (resolve depth r e) (λ next. resolve_all depth next elements)
