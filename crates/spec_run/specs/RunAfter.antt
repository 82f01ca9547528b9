-- What comes of a list of events: what was executed, or the first event that is refused.
use Rattle.std.specs.Prelude.{ℕ, ◌+◌, ◌^◌, ◌<◌, List, [], ◌∷◌, Option, Some, None, Result, Ok, Err, ⊤}
use Rattle.std.specs.Option.{option_map}
use Rattle.etm_types.specs.Settings.{FitsSettings, Sizes}
use Rattle.program_image.specs.declared.image.Image.{Image}
use Rattle.spec_run.specs.Checks.{Situation, check, effect_of, place_of}
use Rattle.spec_run.specs.Effects.{applied}
use Rattle.spec_run.specs.Runs.{Execution, at_first}
use Rattle.spec_run.specs.declared.event.Event.{Event}
use Rattle.spec_run.specs.declared.event.Event.TheVariants as event
use Rattle.spec_run.specs.declared.run_fault.RunFault.{RunFault}

abbrev pub place_in : Execution → Option Situation
place_in x = option_map place_of x.current

-- the execution behind an event that is not refused
abbrev pub after_event : Image → ℕ → Execution → Event → Execution
after_event image depth x e = applied image depth x (effect_of image (place_in x) e)

abbrev pub go_on : Option RunFault → ℕ → Result Execution (ℕ × RunFault) → Result Execution (ℕ × RunFault)
go_on None n rest = rest
go_on (Some fault) n rest = Err (n, fault)

-- events behind an execution, and how many events came before them
abbrev pub run_from : Image → ℕ → Execution → ℕ → List Event → Result Execution (ℕ × RunFault)
run_from image depth x n [] = Ok x
run_from image depth x n (e ∷ events) =
    go_on (check image depth (place_in x) e) n (run_from image depth (after_event image depth x e) (n + 1) events)

-- the execution after the events; or how many came before the first that is refused, and why it is
abbrev pub run_after : Image → ℕ → List Event → Result Execution (ℕ × RunFault)
run_after image depth events = run_from image depth at_first 0 events

-- an event of these sizes: its address is one of 64 bits, its context fits the sizes, and its kind is one of 32
abbrev pub IsEvent : Sizes → Event → Type 0
IsEvent s (event.On addr ctx) = (addr < 2 ^ 64) × FitsSettings s ctx
IsEvent s (event.To addr) = addr < 2 ^ 64
IsEvent s (event.Eret addr ctx) = (addr < 2 ^ 64) × FitsSettings s ctx
IsEvent s (event.Exc kind addr ctx) = (kind < 32) × (addr < 2 ^ 64) × FitsSettings s ctx
IsEvent s (event.Context ctx) = FitsSettings s ctx
IsEvent s e = ⊤

abbrev pub AreEvents : Sizes → List Event → Type 0
AreEvents s [] = ⊤
AreEvents s (e ∷ events) = IsEvent s e × AreEvents s events
