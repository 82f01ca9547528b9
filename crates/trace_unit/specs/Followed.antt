-- What a unit makes of what its run did: the orders that it tells, and what it keeps behind them of places and P0 elements.
use Rattle.std.specs.Prelude.{◌≡◌, ℕ, ◌^◌, ◌<◌, ◌≤◌, Bool, true, if◌then◌else◌, List, [], ◌∷◌, ◌++◌, length, Option, Some, None, IsSome, ⊤}
use Rattle.element_queue.specs.Counting.{no_counts}
use Rattle.etm_types.specs.Settings.{Sizes}
use Rattle.etm_types.specs.declared.context.Ctx.{Ctx}
use Rattle.etm_types.specs.declared.element.P0.{P0}
use Rattle.etm_types.specs.declared.element.P0.TheVariants as p0
use Rattle.spec_run.specs.Checks.{Situation}
use Rattle.spec_run.specs.Runs.{ByOff, ByOverflow, Closing}
use Rattle.spec_run.specs.Steps.{is_p0}
use Rattle.spec_run.specs.declared.event.Done.{Done}
use Rattle.spec_run.specs.declared.event.Done.TheVariants as done
use Rattle.spec_run.specs.declared.step.RunStep.{RunStep}
use Rattle.spec_run.specs.declared.step.StepKind.{StepKind}
use Rattle.spec_run.specs.declared.step.StepKind.TheVariants.{Cond, Exc}
use Rattle.trace_unit.specs.Ordered.{told_all, told_by}
use Rattle.trace_unit.specs.Orders.{Cancel, Close, Flip, Order, Retire, begin_orders, step_orders, sync_orders}
use Rattle.trace_unit.specs.Packets.{nothing_shared}
use Rattle.trace_unit.specs.Places.{Places, no_places, placed_back, placed_begun, placed_behind, placed_closed, placed_flipped}
use Rattle.trace_unit.specs.Places.{placed_retired, placed_synced}
use Rattle.trace_unit.specs.PlacesKept.{PlacesKept}
use Rattle.trace_unit.specs.Whole.{nothing_waits}
use Rattle.trace_unit.specs.WindowKept.{WindowKept, pushed, windowed_cancelled, windowed_flipped, windowed_lost, windowed_retired}
use Rattle.trace_unit.specs.declared.follower.Follower.{Follower}

-- the P0 element of a P0 step
abbrev pub element_of : StepKind → ℕ → P0
element_of (Exc kind) addr = p0.Exc kind addr
element_of (Cond taken) addr = p0.Atom taken
element_of kind addr = p0.Atom true

abbrev pub with_places : PlacesKept → Places → PlacesKept
with_places k p = record k { places = p }

abbrev pub with_both : PlacesKept → Places → WindowKept → PlacesKept
with_both k p w = record k { places = p; window = w }

-- ---- what each event makes of a follower: it tells the event's orders, and keeps what is behind it

-- behind no event, with a return stack of so many addresses
abbrev pub first_follower : Sizes → ℕ → Follower
first_follower s most = record {
  places = record { places = no_places; stack_depth = most; window = record { p0s = []; room = s.depth; counts = no_counts } };
  teller = record { settings = s; waiting = nothing_waits; shared = nothing_shared };
}

-- tracing began
abbrev pub begun : Follower → ℕ → Ctx → Follower
begun f addr ctx = record f { places = with_places f.places (placed_begun addr ctx); teller = told_all f.teller (begin_orders addr ctx) }

-- a P0 step was executed
abbrev pub stepped : Follower → RunStep → Follower
stepped f s = record {
  places = with_both f.places (placed_behind f.places.window.room f.places.stack_depth f.places.places s)
      (pushed f.places.window f.places.window.room (element_of s.kind s.addr));
  teller = told_all f.teller (step_orders f.places.places s);
}

-- so many P0 steps were retired, or taken back
abbrev pub retired : Follower → ℕ → Follower
retired f n = record {
  places = with_both f.places (placed_retired f.places.places n) (windowed_retired f.places.window n);
  teller = told_by f.teller (Retire n);
}

abbrev pub cancelled : Follower → ℕ → Follower
cancelled f n = record {
  places = with_both f.places (placed_back f.places.places n) (windowed_cancelled f.places.window n);
  teller = told_by f.teller (Cancel n);
}

-- the newest step went the other way, to this address
abbrev pub flipped : Follower → ℕ → Follower
flipped f pc = record {
  places = with_both f.places (placed_flipped f.places.places pc) (windowed_flipped f.places.window);
  teller = told_by f.teller Flip;
}

-- synchronisation was asked for, in this context
abbrev pub synced : Follower → Ctx → Follower
synced f ctx = record f {
  places = with_places f.places (placed_synced f.places.places ctx);
  teller = told_all f.teller (sync_orders (length f.places.window.p0s) f.places.places.start ctx);
}

-- tracing ended
abbrev pub closed : Follower → Closing → Follower
closed f closing = record {
  places = with_both f.places (placed_closed f.places.places) (windowed_lost f.places.window);
  teller = told_by f.teller (Close closing);
}

-- ---- what a run did, and where it is then

-- what comes of a place, where there is one
abbrev pub at_place : {X : Type 0} → Option Situation → X → (Situation → X) → X
at_place None x f = x
at_place (Some q) x f = f q

-- there is room for one more, where any is kept
abbrev pub HasRoomFor : {X : Type 0} → ℕ → List X → Type 0
HasRoomFor room xs = 0 < room → length xs < room

-- the orders that are told of what a run did, the follower behind it, and whether it fits: what is held is enough, and the run goes on
pub record Following : Type 1 where
  pub orders : List Order
  pub behind : Follower
  pub fits : Type 0

-- each thing that a run did, and where it is then
abbrev pub following : Done → Option Situation → Follower → Following
following done.Began place f =
    record {
      orders = at_place place [] (λ q. begin_orders q.pc q.ctx);
      behind = at_place place f (λ q. begun f q.pc q.ctx);
      fits = IsSome place × (f.places.window.p0s ≡ []);
    }
following (done.Ran s) place f =
    record {
      orders = if is_p0 s then step_orders f.places.places s else [];
      behind = if is_p0 s then stepped f s else f;
      fits = is_p0 s ≡ true → HasRoomFor f.places.window.room f.places.window.p0s;
    }
following done.Contexted place f = record { orders = []; behind = f; fits = ⊤ }
following (done.Retired n) place f = record { orders = Retire n ∷ []; behind = retired f n; fits = n ≤ length f.places.window.p0s }
following (done.Cancelled n) place f = record { orders = Cancel n ∷ []; behind = cancelled f n; fits = n ≤ length f.places.window.p0s }
following done.Flipped place f =
    record {
      orders = Flip ∷ [];
      behind = at_place place f (λ q. flipped f q.pc);
      fits = IsSome place × ((p0s : List P0) × (taken : Bool) × (f.places.window.p0s ≡ p0s ++ p0.Atom taken ∷ []));
    }
following done.Synced place f =
    record {
      orders = at_place place [] (λ q. sync_orders (length f.places.window.p0s) f.places.places.start q.ctx);
      behind = at_place place f (λ q. synced f q.ctx);
      fits = IsSome place × (length f.places.window.p0s < 2 ^ 32);
    }
following done.Overflowed place f = record { orders = Close ByOverflow ∷ []; behind = closed f ByOverflow; fits = ⊤ }
following done.Stopped place f = record { orders = Close ByOff ∷ []; behind = closed f ByOff; fits = ⊤ }

abbrev pub orders_done : Done → Option Situation → Follower → List Order
orders_done did place f = (following did place f).orders

abbrev pub followed : Done → Option Situation → Follower → Follower
followed did place f = (following did place f).behind

abbrev pub CanFollow : Done → Option Situation → Follower → Type 0
CanFollow did place f = (following did place f).fits
