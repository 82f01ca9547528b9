-- What stands while retired paths are printed as their events run.
use Rattle.std.specs.Prelude.{◌≡◌, ℕ, zero, ◌+◌, ◌<◌, ◌^◌, List, [], ◌∷◌, ◌++◌, length, replicate, IsOk, Option, Some, None, Result, Ok, Err, ⊤}
use Rattle.run_file.specs.declared.fault.BenchWhy.{BenchWhy}
use Rattle.etm_types.specs.Settings.{Sizes}
use Rattle.etm_types.specs.declared.context.Ctx.{Ctx}
use Rattle.etm_types.specs.declared.item.Item.{Item}
use Rattle.run_file.specs.declared.fault.BenchWhy.TheVariants.{Run}
use Rattle.run_file.specs.declared.line.BenchLine.{BenchLine}
use Rattle.etm_types.specs.declared.item.Item.TheVariants as item
use Rattle.path_text.specs.PathLines.{lines_of, shown_after_all}
use Rattle.path_text.specs.Writing.{Writes}
use Rattle.program_image.specs.Blocks.{HasGap}
use Rattle.program_image.specs.declared.image.Image.{Image}
use Rattle.spec_run.specs.Blocks.{fresh}
use Rattle.spec_run.specs.Executed.{AreSteps, IsPlace}
use Rattle.spec_run.specs.RetiredItems.{items_behind, retired_of}
use Rattle.spec_run.specs.RunAfter.{AreEvents, run_after}
use Rattle.spec_run.specs.Runs.{Execution, Running}
use Rattle.spec_run.specs.Stands.{Follows, OpenBlock, PathStandsAt, StandsAt}
use Rattle.spec_run.specs.declared.event.Done.{Done}
use Rattle.spec_run.specs.declared.event.Done.TheVariants as done
use Rattle.spec_run.specs.declared.event.Event.{Event}
use Rattle.spec_run.specs.declared.event.Event.TheVariants as event
use Rattle.spec_run.specs.declared.run_fault.RunFault.{RunFault}
use Rattle.spec_run.specs.declared.step.RunStep.{RunStep}
use Rattle.retired_paths.specs.Retired.{items_after}
use Rattle.retired_paths.specs.declared.retiring.Retiring.{Retiring}
use Rattle.trace_io.specs.State.{IoState}
use Rattle.trace_io.specs.declared.traits.Failed.{Failed}

-- while tracing is on, a retired path stands behind all steps that are retired; else it stands behind some steps
abbrev pub StandsBehind : OpenBlock → Option Running → Type 0
StandsBehind path None = (steps : List RunStep) × PathStandsAt path steps
StandsBehind path (Some r) = PathStandsAt path r.retired

-- The events were run, all of them accepted, and what they retired was printed.
pub record IsRetiring (image : Image) (s : Sizes) (t : Retiring) (events : List Event) : Type 0 where
  pub depth : t.depth ≡ s.depth
  pub run : StandsAt image s t.run events
  pub path : StandsBehind t.path run.execution.current
  pub shown : t.shown ≡ shown_after_all None (retired_of run.execution)

-- an event that comes so often behind others
abbrev pub events_with : List Event → ℕ → Event → List Event
events_with events times e = events ++ replicate times e

abbrev pub retired_items : Image → Sizes → List Event → List Item
retired_items image s events = items_after (run_after image s.depth events)

-- all these events are accepted, and the first of them were run
pub record CanGoOn (image : Image) (s : Sizes) (t : Retiring) (events all : List Event) : Type 0 where
  pub gap : HasGap image
  pub are : AreEvents s all
  pub execution : Execution
  pub accepted : run_after image s.depth all ≡ Ok execution
  pub stands : IsRetiring image s t events

-- ---- one event

-- how many of the oldest steps that are not retired an event retires
abbrev pub asked : Event → ℕ
asked (event.Retire n) = n
asked e = 0

-- what is printed of an answer, behind the steps that are retired, where those of a retire were printed before
abbrev pub items_done : ℕ → List RunStep → Done → List Item
items_done depth steps done.Overflowed = item.Gap ∷ []
items_done depth steps done.Stopped = item.Stop ∷ []
items_done zero steps (done.Ran s) = items_behind steps (s ∷ [])
items_done depth steps answer = []

-- the retired path can take the step of an answer, where that retires it
abbrev pub CanShow : ℕ → OpenBlock → Done → Type 0
CanShow depth path (done.Ran s) = depth ≡ 0 → Follows path s × (path.plain < 2 ^ 62)
CanShow depth path answer = ⊤

-- where the retired path stands behind an answer
abbrev pub StandsDone : ℕ → OpenBlock → List RunStep → Done → Type 0
StandsDone depth path steps done.Began = PathStandsAt path []
StandsDone zero path steps (done.Ran s) = PathStandsAt path (steps ++ s ∷ [])
StandsDone depth path steps done.Overflowed = (some : List RunStep) × PathStandsAt path some
StandsDone depth path steps done.Stopped = (some : List RunStep) × PathStandsAt path some
StandsDone depth path steps answer = PathStandsAt path steps

-- the retired path can take these steps, one behind the other
pub record CanRetire (t : Retiring) (more : List RunStep) : Type 0 where
  pub image : Image
  pub gap : HasGap image
  pub start : ℕ
  pub first : Ctx
  pub steps : List RunStep
  pub place : IsPlace start
  pub are : AreSteps image (fresh start) first (steps ++ more)
  pub stands : PathStandsAt t.path steps

-- The events went on, and the lines by which the retired path grew were printed, or a front of them.
pub record PrintsRetired (image : Image) (s : Sizes) (id : ℕ) (t : Retiring) (events : List Event) (t' : Retiring) (all : List Event) (old new : IoState)
    (result : Result (Unit {0}) Failed) : Type 0 where
  pub more : List Item
  pub grows : retired_items image s all ≡ retired_items image s events ++ more
  pub printed : Writes old new result (lines_of id t.shown more)
  pub stands : IsOk result → IsRetiring image s t' all

-- The events went on, and added nothing to the retired path.
pub record AddsNothing (image : Image) (s : Sizes) (t : Retiring) (events : List Event) (t' : Retiring) (all : List Event) : Type 0 where
  pub stands : IsRetiring image s t' all
  pub same : retired_items image s all ≡ retired_items image s events

-- ---- the events of lines

-- the event of a line is refused, behind so many of its own
pub record RefusesLine (image : Image) (s : Sizes) (events : List Event) (line : BenchLine) (fault : RunFault) : Type 0 where
  pub before : ℕ
  pub within : before < line.times
  pub refused : run_after image s.depth (events_with events line.times line.event) ≡ Err (length events + before, fault)

-- a refusal as the reason for which a line is bad
abbrev pub bad_line : Option (ℕ × RunFault) → Option (ℕ × BenchWhy)
bad_line None = None
bad_line (Some refusal) = Some (refusal.0, Run refusal.1)
