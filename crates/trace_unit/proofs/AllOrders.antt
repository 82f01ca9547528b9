-- All orders.
use Rattle.std.proofs.Common.{◌≡◌, ℕ, List, [], ◌∷◌, Ok, refl, ◌∙◌, arith}
use Rattle.element_queue.specs.Resolved.{Resolved, resolve_all, unresolved}
use Rattle.trace_unit.proofs.OneEvent.{goes_on}
use Rattle.trace_unit.proofs.OneOrder.{one_order}
use Rattle.trace_unit.proofs.OrderTold.{settles}
use Rattle.trace_unit.proofs.Out.{Waits}
use Rattle.trace_unit.specs.Orders.{Order, Settle}
use Rattle.trace_unit.specs.Taken.{CanTakeAll}
use Rattle.trace_unit.specs.Told.{all_told, told}
use Rattle.trace_unit.specs.Whole.{PutOff, nothing_waits, waits, waits_all, whole, whole_all, whole_settled}

pub all_orders : (depth : ℕ) (u : PutOff) (rw rp : Resolved) (orders : List Order) → Waits depth u rw rp → CanTakeAll depth rp orders
    → (np : Resolved) × (nw : Resolved) × (resolve_all depth rp (all_told orders) ≡ Ok np) × (resolve_all depth rw (whole_all depth u orders) ≡ Ok nw)
    × Waits depth (waits_all depth u orders) nw np
all_orders depth u rw rp [] b ask = (rp, rw, refl, refl, b)
all_orders depth u rw rp (o ∷ orders) b ask =
    let one = one_order depth u rw rp o b ask.0 in
    let rest = all_orders depth (waits depth u o) one.1 one.0 orders one.4 (ask.1 one.0 one.2) in (
      rest.0,
      rest.1,
      goes_on depth rp one.0 (told o) (all_told orders) one.2
          ∙ rest.2,
      goes_on depth rw one.1 (whole depth u o) (whole_all depth (waits depth u o) orders) one.3 ∙ rest.3,
      rest.4,
    )

-- before the first order the two readers are the same
pub wait_first : (depth : ℕ) → Waits depth nothing_waits unresolved unresolved
wait_first depth =
    record {
      keep = [];
      gone = [];
      ahead = [];
      held = refl;
      going = refl;
      done = refl;
      due = refl;
      all = refl;
      pre = refl;
      informed = refl;
      many = refl;
      room = omega arith;
      fits = omega arith;
    }

-- and behind a Settle
pub alike : (depth : ℕ) (orders : List Order) → CanTakeAll depth unresolved orders
    → (r : Resolved) × (resolve_all depth unresolved (all_told orders) ≡ Ok r) × (resolve_all depth unresolved (whole_settled depth orders) ≡ Ok r)
alike depth orders ask =
    let all = all_orders depth nothing_waits unresolved unresolved orders (wait_first depth) ask in
    let last = settles depth (waits_all depth nothing_waits orders) all.1 all.0 all.4 in (
      all.0,
      all.2,
      goes_on depth unresolved all.1 (whole_all depth nothing_waits orders) (whole depth (waits_all depth nothing_waits orders) Settle) all.3
          ∙ last.0,
    )
