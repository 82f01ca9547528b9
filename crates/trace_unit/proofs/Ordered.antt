-- A teller that is ready can tell orders that are allowed, one after the other, and is ready behind them.
use Rattle.std.proofs.Common.{◌≡◌, ℕ, List, [], ◌∷◌, ◌++◌, refl, sym, ap, ◌∙◌, append_assoc}
use Rattle.std.specs.Prelude.{All, ⊤}
use Rattle.std.proofs.lemmas.List.Elements.{All-head, All-tail}
use Rattle.trace_unit.proofs.Balanced.{few_kept, small_kept}
use Rattle.trace_unit.proofs.Growing.{spelled_joined}
use Rattle.trace_unit.proofs.OrderSpelled.{order_spelled, small_counted}
use Rattle.trace_unit.specs.Fitting.{FitsOrder}
use Rattle.trace_unit.specs.Ordered.{Allows, CanTellAll, IsReady, bytes_all, bytes_of, told_all, told_by, unretired_by}
use Rattle.trace_unit.specs.Orders.{Order}
use Rattle.trace_unit.specs.Packets.{packets_all, packets_of, shared_after, shared_all}
use Rattle.trace_unit.specs.Whole.{waits, waits_all}
use Rattle.trace_unit.specs.Written.{spelled}
use Rattle.trace_unit.specs.declared.teller.Teller.{Teller}

-- ---- one order

pub ready_on : (t : Teller) (order : Order) (n : ℕ) → IsReady n t → Allows t.settings.depth n order → FitsOrder t.settings order
    → IsReady (unretired_by t.settings.depth n order) (told_by t order)
ready_on t order n ready can fits =
    let s = t.settings in
    record {
      settings = ready.settings;
      few = few_kept s.depth n order ready.few can;
      small = small_kept s.depth n t.waiting order ready.few can ready.small;
      shared = (order_spelled s s.depth t.waiting t.shared order fits ready.shared (small_counted s n t.waiting ready.settings ready.small)).1;
    }

-- ---- orders

-- how many P0 steps are not retired behind orders
abbrev pub unretired_all : ℕ → ℕ → List Order → ℕ
unretired_all depth n [] = n
unretired_all depth n (order ∷ orders) = unretired_all depth (unretired_by depth n order) orders

abbrev pub AllowsAll : ℕ → ℕ → List Order → Type 0
AllowsAll depth n [] = ⊤
AllowsAll depth n (order ∷ orders) = Allows depth n order × AllowsAll depth (unretired_by depth n order) orders

pub can_tell : (t : Teller) (orders : List Order) (n : ℕ) → IsReady n t → AllowsAll t.settings.depth n orders → All (FitsOrder t.settings) orders
    → CanTellAll t orders × IsReady (unretired_all t.settings.depth n orders) (told_all t orders)
can_tell t [] n ready can fits = (tt, ready)
can_tell t (order ∷ orders) n ready can fits =
    let one = All-head (FitsOrder t.settings) order orders fits in
    let next = ready_on t order n ready can.0 one in
    let rest = can_tell (told_by t order) orders (unretired_by t.settings.depth n order) next can.1 (All-tail (FitsOrder t.settings) order orders fits) in
    ((record { unretired = n; ready = ready; allows = can.0; fits = one }, rest.0), rest.1)

-- ---- all that is told of them

pub told_all_is : (t : Teller) (orders : List Order)
    → told_all t orders ≡ record { settings = t.settings; waiting = waits_all t.settings.depth t.waiting orders; shared = shared_all t.shared orders }
told_all_is t [] = refl
told_all_is t (order ∷ orders) = told_all_is (told_by t order) orders

pub bytes_all_are : (t : Teller) (orders : List Order) → bytes_all t orders ≡ spelled t.settings (packets_all t.settings.depth t.waiting t.shared orders)
bytes_all_are t [] = refl
bytes_all_are t (order ∷ orders) =
    let s = t.settings in
    let here = packets_of s.depth t.waiting t.shared order in
    ap (λ l. spelled s here ++ l) (bytes_all_are (told_by t order) orders)
    ∙ sym (spelled_joined s here (packets_all s.depth (waits s.depth t.waiting order) (shared_after t.shared order) orders))

pub told_joined : (t : Teller) (xs ys : List Order) → told_all t (xs ++ ys) ≡ told_all (told_all t xs) ys
told_joined t [] ys = refl
told_joined t (x ∷ xs) ys = told_joined (told_by t x) xs ys

pub bytes_joined : (t : Teller) (xs ys : List Order) → bytes_all t (xs ++ ys) ≡ bytes_all t xs ++ bytes_all (told_all t xs) ys
bytes_joined t [] ys = refl
bytes_joined t (x ∷ xs) ys =
    let next = told_by t x in
    ap (λ l. bytes_of t x ++ l) (bytes_joined next xs ys) ∙ sym (append_assoc (bytes_of t x) (bytes_all next xs) (bytes_all (told_all next xs) ys))

pub can_tell_both : (t : Teller) (xs ys : List Order) → CanTellAll t (xs ++ ys) → CanTellAll t xs × CanTellAll (told_all t xs) ys
can_tell_both t [] ys can = (tt, can)
can_tell_both t (x ∷ xs) ys can = let rest = can_tell_both (told_by t x) xs ys can.1 in ((can.0, rest.0), rest.1)
