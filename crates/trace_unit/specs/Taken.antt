-- What a reader of orders that are written at once can take, at a maximum speculation depth.
use Rattle.std.specs.Prelude.{◌≡◌, ◌⊎◌, ℕ, ◌+◌, ◌≤◌, Bool, true, List, [], ◌∷◌, length, Some, Ok, ⊤}
use Rattle.element_queue.specs.Pending.{Pending, flip_newest}
use Rattle.element_queue.specs.Resolved.{Resolved, resolve_all}
use Rattle.trace_unit.specs.Orders.{Branch, Cancel, Close, Exception, ExceptionAtTarget, Flip, Notice, Order, Retire, Settle, Sync, Tell}
use Rattle.trace_unit.specs.Told.{told}
use Rattle.trace_unit.specs.Whole.{at_once}

-- the first trace info announces none
abbrev pub CanHear : Bool → Notice → Type 0
CanHear informed (Sync announced) = (informed ≡ true) ⊎ (announced ≡ 0)
CanHear informed notice = ⊤

-- it holds as many P0 elements as go, and never more than the depth; what is flipped is no exception
abbrev pub CanTake : ℕ → Pending → Order → Type 0
CanTake depth p (Tell notice) = CanHear p.informed notice
CanTake depth p (Branch taken) = length p.held + 1 ≤ depth + at_once depth
CanTake depth p (Exception kind ret) = length p.held + 1 ≤ depth + at_once depth
CanTake depth p (ExceptionAtTarget context kind addr) = length p.held + 1 ≤ depth + at_once depth
CanTake depth p (Retire n) = n ≤ length p.held
CanTake depth p (Cancel n) = n ≤ length p.held
CanTake depth p Flip = (held : List _) × (flip_newest p.held ≡ Some held)
CanTake depth p Settle = ⊤
CanTake depth p (Close closing) = ⊤

-- each of the orders, where the reader then stands
abbrev pub AllMeet : (Pending → Order → Type 0) → ℕ → Resolved → List Order → Type 0
AllMeet Meets depth r [] = ⊤
AllMeet Meets depth r (order ∷ orders) =
    Meets r.pending order × ((next : Resolved) → resolve_all depth r (told order) ≡ Ok next → AllMeet Meets depth next orders)

abbrev pub CanTakeAll : ℕ → Resolved → List Order → Type 0
CanTakeAll depth r orders = AllMeet (CanTake depth) depth r orders

-- A trace info announces as many P0 elements as the reader holds there, and no more than the depth; the first one announces none.
pub record Announces (depth announced : ℕ) (r : Resolved) : Type 0 where
  pub held : length r.pending.held ≡ announced
  pub few : announced ≤ depth
  pub first : (r.pending.informed ≡ true) ⊎ (announced ≡ 0)
