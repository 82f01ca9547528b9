-- What each effect of a run makes of its trace unit, in one table: the orders that tell it, the places behind it, and what it counts (Arm
-- IHI 0064, "Speculation", "Return stack"); and the same of events, one after the other.
use Rattle.std.specs.Prelude.{ℕ, zero, suc, if◌then◌else◌, List, [], ◌∷◌, ◌++◌, take, Option, Some, None}
use Rattle.element_queue.specs.Counting.{add, no_counts}
use Rattle.element_queue.specs.declared.ledger.Counts.{Counts}
use Rattle.etm_types.specs.Settings.{Sizes}
use Rattle.program_image.specs.declared.image.Image.{Image}
use Rattle.spec_run.specs.Checks.{effect_of}
use Rattle.spec_run.specs.RunAfter.{after_event, place_in}
use Rattle.spec_run.specs.Runs.{ByOff, ByOverflow, Closing, Execution, Running, at_first, flips}
use Rattle.spec_run.specs.Steps.{is_p0, newest, p0s}
use Rattle.spec_run.specs.declared.effect.Effect.{Effect}
use Rattle.spec_run.specs.declared.effect.Effect.TheVariants as effect
use Rattle.spec_run.specs.declared.event.Event.{Event}
use Rattle.trace_unit.specs.Orders.{Cancel, Close, Flip, Order, Retire, begin_orders, step_orders, sync_orders}
use Rattle.trace_unit.specs.Places.{Places, no_places, placed_back, placed_begun, placed_behind, placed_closed, placed_flipped}
use Rattle.trace_unit.specs.Places.{placed_retired, placed_synced}

-- ---- what becomes of the P0 steps, in counts

-- at depth 0 a P0 step is retired as it is executed
abbrev pub counts_made : ℕ → Counts → Counts
counts_made zero c = record c { made = add c.made 1; committed = add c.committed 1 }
counts_made (suc depth) c = record c { made = add c.made 1 }

abbrev pub counts_retired : ℕ → Counts → Counts
counts_retired n c = record c { committed = add c.committed n }

abbrev pub counts_cancelled : ℕ → Counts → Counts
counts_cancelled n c = record c { cancelled = add c.cancelled n }

abbrev pub counts_lost : ℕ → Counts → Counts
counts_lost n c = record c { lost = add c.lost n }

-- ---- the table of effects

-- the orders of an effect, from the places before it; the places behind it, at a depth, with so many return addresses at most; the counts
pub record UnitDeed : Type 0 where
  pub orders : Places → List Order
  pub places : Image → ℕ → ℕ → Places → Places
  pub counts : ℕ → Counts → Counts

-- an effect of which nothing is told, kept or counted
abbrev pub nothing : UnitDeed
nothing = record { orders = λ p. []; places = λ image depth most p. p; counts = λ depth c. c }

-- tracing ends, where so many P0 steps are held: all of them are lost
abbrev pub closing_deed : ℕ → Closing → UnitDeed
closing_deed n closing =
    record { orders = λ p. Close closing ∷ []; places = λ image depth most p. placed_closed p; counts = λ depth c. counts_lost n c }

-- each effect, where tracing is off or on; at depth 0 a step is retired as it is executed, and no order tells so
abbrev pub unit_deed : Option Running → Effect → UnitDeed
unit_deed None (effect.Began addr ctx) =
    record nothing { orders = λ p. begin_orders addr ctx; places = λ image depth most p. placed_begun addr ctx }
unit_deed (Some r) (effect.Ran s ctx) =
    record {
      orders = λ p. if is_p0 s then step_orders p s else [];
      places = λ image depth most p. if is_p0 s then placed_behind depth most p s else p;
      counts = λ depth c. if is_p0 s then counts_made depth c else c;
    }
unit_deed (Some r) (effect.Retired n) =
    record {
      orders = λ p. Retire (p0s (take n r.held)) ∷ [];
      places = λ image depth most p. placed_retired p (p0s (take n r.held));
      counts = λ depth c. counts_retired (p0s (take n r.held)) c;
    }
unit_deed (Some r) (effect.Cancelled n) =
    record {
      orders = λ p. Cancel (p0s (newest n r.held)) ∷ [];
      places = λ image depth most p. placed_back p (p0s (newest n r.held));
      counts = λ depth c. counts_cancelled (p0s (newest n r.held)) c;
    }
unit_deed (Some r) effect.Flipped =
    record nothing { orders = λ p. Flip ∷ []; places = λ image depth most p. placed_flipped p (flips image r).pc }
unit_deed (Some r) effect.Synced =
    record nothing { orders = λ p. sync_orders (p0s r.held) p.start r.ctx; places = λ image depth most p. placed_synced p r.ctx }
unit_deed (Some r) effect.Overflowed = closing_deed (p0s r.held) ByOverflow
unit_deed (Some r) effect.Stopped = closing_deed (p0s r.held) ByOff
unit_deed current e = nothing

abbrev pub orders_on : Option Running → Places → Effect → List Order
orders_on current p e = (unit_deed current e).orders p

abbrev pub places_on : Image → ℕ → ℕ → Option Running → Places → Effect → Places
places_on image depth most current p e = (unit_deed current e).places image depth most p

abbrev pub places_after : Image → ℕ → ℕ → Execution → Places → Effect → Places
places_after image depth most x p e = places_on image depth most x.current p e

abbrev pub counts_by : ℕ → Option Running → Counts → Effect → Counts
counts_by depth current c e = (unit_deed current e).counts depth c

-- ---- events, which are accepted

abbrev pub orders_from : Image → ℕ → ℕ → Execution → Places → List Event → List Order
orders_from image depth most x p [] = []
orders_from image depth most x p (e ∷ events) =
    orders_on x.current p (effect_of image (place_in x) e)
    ++ orders_from image depth most (after_event image depth x e) (places_after image depth most x p (effect_of image (place_in x) e)) events

-- the orders of all events, with a return stack of so many addresses
abbrev pub orders : Image → Sizes → ℕ → List Event → List Order
orders image s most events = orders_from image s.depth most at_first no_places events

-- what is kept behind them
abbrev pub places_from : Image → ℕ → ℕ → Execution → Places → List Event → Places
places_from image depth most x p [] = p
places_from image depth most x p (e ∷ events) =
    places_from image depth most (after_event image depth x e) (places_after image depth most x p (effect_of image (place_in x) e)) events

-- the P0 steps that were made, retired, taken back and lost by them
abbrev pub counts_from : Image → ℕ → Execution → Counts → List Event → Counts
counts_from image depth x c [] = c
counts_from image depth x c (e ∷ events) =
    counts_from image depth (after_event image depth x e) (counts_by depth x.current c (effect_of image (place_in x) e)) events

abbrev pub counts_of : Image → ℕ → List Event → Counts
counts_of image depth events = counts_from image depth at_first no_counts events
