-- The packets of all orders: their elements, and that each has a spelling.
use Rattle.std.proofs.Common.{◌≡◌, ℕ, ◌+◌, ◌≤◌, List, [], ◌∷◌, ◌++◌, length, Ok, refl, sym, subst, arith}
use Rattle.std.specs.Prelude.{All}
use Rattle.std.proofs.lemmas.List.Elements.{All-append, All-head, All-nil, All-tail}
use Rattle.element_queue.specs.Resolved.{Resolved, unresolved}
use Rattle.etm_types.specs.Settings.{AreSettings, Sizes}
use Rattle.packet_writer.specs.Fitting.{HasSpelling}
use Rattle.path_elements.specs.Elements.{untold}
use Rattle.program_image.specs.Blocks.{HasGap}
use Rattle.program_image.specs.declared.image.Image.{Image}
use Rattle.return_stack.specs.Stack.{most_addresses}
use Rattle.spec_run.proofs.EventsJoined.{passed}
use Rattle.spec_run.specs.Checks.{check, effect_of}
use Rattle.spec_run.specs.RunAfter.{AreEvents, after_event, place_in, run_after, run_from}
use Rattle.spec_run.specs.Runs.{Execution, at_first}
use Rattle.spec_run.specs.declared.event.Event.{Event}
use Rattle.trace_unit.proofs.AllOrders.{wait_first}
use Rattle.trace_unit.proofs.EventFits.{event_fits}
use Rattle.trace_unit.proofs.OneOrder.{one_order}
use Rattle.trace_unit.proofs.OrderPackets.{first_tells, order_tells, settle_tells}
use Rattle.trace_unit.proofs.OrderSpelled.{nothing_is_shared, order_spelled, settle_spelled, small_counted}
use Rattle.trace_unit.proofs.Out.{Waits}
use Rattle.trace_unit.proofs.RunOrders.{run_takes}
use Rattle.trace_unit.proofs.Sizes.{few_atoms, small}
use Rattle.trace_unit.proofs.Telling.{Tells, tells_on}
use Rattle.trace_unit.specs.Effects.{orders, orders_from, orders_on, places_after}
use Rattle.trace_unit.specs.Fitting.{FitsOrder, FitsPlaces, FitsRun, IsCounted, IsShared}
use Rattle.trace_unit.specs.Orders.{Order, Sync, Tell}
use Rattle.trace_unit.specs.Packets.{Shared, nothing_shared, packets_all, packets_of, settle_packets, shared_after, shared_all}
use Rattle.trace_unit.specs.Places.{Places, no_places}
use Rattle.trace_unit.specs.Taken.{CanTakeAll}
use Rattle.trace_unit.specs.Telling.{told_with}
use Rattle.trace_unit.specs.Whole.{PutOff, nothing_waits, settle_elements, waits, waits_all, whole, whole_all, whole_settled}

-- ---- elements

pub orders_tell : (s : Sizes) (depth : ℕ) (u : PutOff) (shared : Shared) (orders : List Order) → All (FitsOrder s) orders
    → Tells (told_with shared) (packets_all depth u shared orders) (whole_all depth u orders) (told_with (shared_all shared orders))
orders_tell s depth u shared [] fit = refl
orders_tell s depth u shared (order ∷ orders) fit =
    let next = shared_after shared order in
    let v = waits depth u order in
    tells_on (told_with shared) (told_with next) (told_with (shared_all next orders)) (packets_of depth u shared order) (packets_all depth v next orders)
    (whole depth u order) (whole_all depth v orders) (order_tells s depth u shared order (All-head (FitsOrder s) order orders fit))
    (orders_tell s depth v next orders (All-tail (FitsOrder s) order orders fit))

-- from the first trace info on
abbrev Begin : ℕ → List Order → Type 0
Begin depth orders =
    Tells untold (packets_all depth nothing_waits nothing_shared orders ++ settle_packets depth (waits_all depth nothing_waits orders))
    (whole_settled depth orders) (told_with (shared_all nothing_shared orders))

pub settled_tell : (s : Sizes) (depth n : ℕ) (orders more : List Order) → orders ≡ Tell (Sync n) ∷ more → All (FitsOrder s) orders → Begin depth orders
settled_tell s depth n orders more is fit =
    let first = Tell (Sync n) in
    let told = told_with nothing_shared in
    let last = told_with (shared_all nothing_shared more) in
    let fit' = subst (All (FitsOrder s)) is fit in
    let v = waits depth nothing_waits first in
    let u = waits_all depth v more in
    let all : Tells untold (packets_all depth nothing_waits nothing_shared (first ∷ more)) (whole_all depth nothing_waits (first ∷ more)) last =
    tells_on untold told last (packets_of depth nothing_waits nothing_shared first) (packets_all depth v nothing_shared more)
    (whole depth nothing_waits first) (whole_all depth v more) (first_tells n)
    (orders_tell s depth v nothing_shared more (All-tail (FitsOrder s) first more fit')) in
    subst (Begin depth) (sym is)
    (tells_on untold last last (packets_all depth nothing_waits nothing_shared (first ∷ more)) (settle_packets depth u)
    (whole_all depth nothing_waits (first ∷ more)) (settle_elements depth u) all (settle_tells depth u (shared_all nothing_shared more)))

-- ---- spellings

orders_spelled : (s : Sizes) → AreSettings s → (u : PutOff) (shared : Shared) (rw rp : Resolved) (orders : List Order) → Waits s.depth u rw rp
    → length u.atoms ≤ 23 → CanTakeAll s.depth rp orders → All (FitsOrder s) orders → IsShared s shared
    → All (HasSpelling s) (packets_all s.depth u shared orders) × IsCounted (waits_all s.depth u orders)
orders_spelled s settings u shared rw rp [] b few can fit is =
    (All-nil (HasSpelling s), small_counted s (length rp.pending.held) u settings (small s.depth u rw rp b few))
orders_spelled s settings u shared rw rp (order ∷ orders) b few can fit is =
    let counted = small_counted s (length rp.pending.held) u settings (small s.depth u rw rp b few) in
    let here = order_spelled s s.depth u shared order (All-head (FitsOrder s) order orders fit) is counted in
    let one = one_order s.depth u rw rp order b can.0 in
    let v = waits s.depth u order in
    let rest = orders_spelled s settings v (shared_after shared order) one.1 one.0 orders one.4 (few_atoms s.depth u order few) (can.1 one.0 one.2)
    (All-tail (FitsOrder s) order orders fit) here.1 in
    (All-append (HasSpelling s) (packets_of s.depth u shared order) (packets_all s.depth v (shared_after shared order) orders) here.0 rest.0, rest.1)

pub settled_spelled : (s : Sizes) → AreSettings s → (orders : List Order) → CanTakeAll s.depth unresolved orders → All (FitsOrder s) orders
    → All (HasSpelling s) (packets_all s.depth nothing_waits nothing_shared orders)
    × All (HasSpelling s) (settle_packets s.depth (waits_all s.depth nothing_waits orders))
settled_spelled s settings orders can fit =
    let all = orders_spelled s settings nothing_waits nothing_shared unresolved unresolved orders (wait_first s.depth) (omega arith) can fit
    (nothing_is_shared s) in
    (all.0, settle_spelled s s.depth (waits_all s.depth nothing_waits orders) all.1)

-- ---- the orders of a run

events_fit : (image : Image) (s : Sizes) (most : ℕ) (x : Execution) (p : Places) (n : ℕ) (events : List Event) (y : Execution) → FitsRun s x.current
    → FitsPlaces p → AreEvents s events → run_from image s.depth x n events ≡ Ok y → All (FitsOrder s) (orders_from image s.depth most x p events)
events_fit image s most x p n [] y fits places given e = All-nil (FitsOrder s)
events_fit image s most x p n (event ∷ events) y fits places given e =
    let does = effect_of image (place_in x) event in
    let next = after_event image s.depth x event in
    let behind = places_after image s.depth most x p does in
    let f = passed (check image s.depth (place_in x) event) n (run_from image s.depth next (n + 1) events) y e in
    let one = event_fits image s.depth most s x p event given.0 f.0 fits places in
    All-append (FitsOrder s) (orders_on x.current p does) (orders_from image s.depth most next behind events) one.0
    (events_fit image s most next behind (n + 1) events y one.1 one.2 given.1 f.1)

pub places_first : FitsPlaces no_places
places_first = record { start = (omega arith, refl); saved = All-nil _ }

pub run_fits : (image : Image) (s : Sizes) (most : ℕ) (events : List Event) (x : Execution) → AreEvents s events → run_after image s.depth events ≡ Ok x
    → All (FitsOrder s) (orders image s most events)
run_fits image s most events x given e = events_fit image s most at_first no_places 0 events x tt places_first given e

pub run_spelled : (image : Image) (s : Sizes) (most : ℕ) (events : List Event) (x : Execution) → HasGap image → AreSettings s → most ≤ most_addresses
    → AreEvents s events → run_after image s.depth events ≡ Ok x
    → All (HasSpelling s) (packets_all s.depth nothing_waits nothing_shared (orders image s most events))
    × All (HasSpelling s) (settle_packets s.depth (waits_all s.depth nothing_waits (orders image s most events)))
run_spelled image s most events x gap settings le given e =
    settled_spelled s settings (orders image s most events) (run_takes image s most events x gap le given e) (run_fits image s most events x given e)
