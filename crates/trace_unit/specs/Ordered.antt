-- What a teller writes for orders, what it keeps behind them, and which orders it can tell.
use Rattle.std.specs.Prelude.{ℕ, ◌+◌, ◌-◌, ◌≤◌, List, [], ◌∷◌, ◌++◌, ⊤}
use Rattle.etm_types.specs.Settings.{AreSettings}
use Rattle.trace_unit.specs.Fitting.{FitsOrder, IsShared}
use Rattle.trace_unit.specs.Orders.{Branch, Cancel, Close, Exception, ExceptionAtTarget, Order, Retire}
use Rattle.trace_unit.specs.Packets.{packets_of, shared_after}
use Rattle.trace_unit.specs.Small.{Small}
use Rattle.trace_unit.specs.Whole.{at_once, waits}
use Rattle.trace_unit.specs.Written.{spelled}
use Rattle.trace_unit.specs.declared.teller.Teller.{Teller}

-- behind an order, and the bytes that are written for it
abbrev pub told_by : Teller → Order → Teller
told_by t order = record t { waiting = waits t.settings.depth t.waiting order; shared = shared_after t.shared order }

abbrev pub bytes_of : Teller → Order → List ℕ
bytes_of t order = spelled t.settings (packets_of t.settings.depth t.waiting t.shared order)

-- the same of orders, one after the other
abbrev pub told_all : Teller → List Order → Teller
told_all t [] = t
told_all t (order ∷ orders) = told_all (told_by t order) orders

abbrev pub bytes_all : Teller → List Order → List ℕ
bytes_all t [] = []
bytes_all t (order ∷ orders) = bytes_of t order ++ bytes_all (told_by t order) orders

-- ---- what a teller can tell

-- how many P0 steps are not retired behind an order, where there were so many; at depth 0 each is retired at once
abbrev pub unretired_by : ℕ → ℕ → Order → ℕ
unretired_by depth n (Branch taken) = n + 1 - at_once depth
unretired_by depth n (Exception kind ret) = n + 1 - at_once depth
unretired_by depth n (ExceptionAtTarget context kind addr) = n + 1 - at_once depth
unretired_by depth n (Retire k) = n - k
unretired_by depth n (Cancel k) = n - k
unretired_by depth n (Close closing) = 0
unretired_by depth n order = n

-- no more are held than the depth, and only as many are retired or taken back as are held
abbrev pub Allows : ℕ → ℕ → Order → Type 0
Allows depth n (Branch taken) = n + 1 ≤ depth + at_once depth
Allows depth n (Exception kind ret) = n + 1 ≤ depth + at_once depth
Allows depth n (ExceptionAtTarget context kind addr) = n + 1 ≤ depth + at_once depth
Allows depth n (Retire k) = k ≤ n
Allows depth n (Cancel k) = k ≤ n
Allows depth n order = ⊤

-- a teller that stands behind orders, with so many P0 steps that are not retired
pub record IsReady (unretired : ℕ) (t : Teller) : Type 0 where
  pub settings : AreSettings t.settings
  pub few : unretired ≤ t.settings.depth
  pub small : Small t.settings.depth unretired t.waiting
  pub shared : IsShared t.settings t.shared

-- the order is allowed there, and its values fit the packets
pub record CanTell (t : Teller) (order : Order) : Type 0 where
  pub unretired : ℕ
  pub ready : IsReady unretired t
  pub allows : Allows t.settings.depth unretired order
  pub fits : FitsOrder t.settings order

-- each of the orders, where the teller then is
abbrev pub CanTellAll : Teller → List Order → Type 0
CanTellAll t [] = ⊤
CanTellAll t (order ∷ orders) = CanTell t order × CanTellAll (told_by t order) orders
