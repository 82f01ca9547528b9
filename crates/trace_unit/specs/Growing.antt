-- What is kept and written behind one event more.
use Rattle.std.specs.Prelude.{ℕ, List}
use Rattle.etm_types.specs.Settings.{Sizes}
use Rattle.program_image.specs.declared.image.Image.{Image}
use Rattle.spec_run.specs.Checks.{effect_of}
use Rattle.spec_run.specs.RunAfter.{place_in}
use Rattle.spec_run.specs.Runs.{Execution, at_first}
use Rattle.spec_run.specs.declared.event.Event.{Event}
use Rattle.trace_unit.specs.Effects.{orders, orders_on, places_from}
use Rattle.trace_unit.specs.Orders.{Order}
use Rattle.trace_unit.specs.Packets.{Shared, nothing_shared, packets_all, shared_all}
use Rattle.trace_unit.specs.Places.{Places, no_places}
use Rattle.trace_unit.specs.Whole.{PutOff, nothing_waits, waits_all}
use Rattle.trace_unit.specs.Written.{spelled}

-- the places, what waits, and what both ends have, behind the events
abbrev pub places_behind : Image → Sizes → ℕ → List Event → Places
places_behind image s most events = places_from image s.depth most at_first no_places events

abbrev pub waiting_behind : Image → Sizes → ℕ → List Event → PutOff
waiting_behind image s most events = waits_all s.depth nothing_waits (orders image s most events)

abbrev pub shared_behind : Image → Sizes → ℕ → List Event → Shared
shared_behind image s most events = shared_all nothing_shared (orders image s most events)

-- the orders of an event behind the events, which led to this execution
abbrev pub orders_of_one : Image → Sizes → ℕ → List Event → Execution → Event → List Order
orders_of_one image s most events x e = orders_on x.current (places_behind image s most events) (effect_of image (place_in x) e)

-- what is written for it
abbrev pub written_for_one : Image → Sizes → ℕ → List Event → Execution → Event → List ℕ
written_for_one image s most events x e =
    spelled s (packets_all s.depth (waiting_behind image s most events) (shared_behind image s most events) (orders_of_one image s most events x e))
