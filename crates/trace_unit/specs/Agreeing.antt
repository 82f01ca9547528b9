-- What the parts of a unit have in common: a run, and what follows it.
use Rattle.std.specs.Prelude.{◌≡◌, Bool, true, false, if◌then◌else◌, List, [], ◌∷◌, Option}
use Rattle.std.specs.Option.{option_map}
use Rattle.etm_types.specs.Context.{initial_context}
use Rattle.etm_types.specs.declared.element.P0.{P0}
use Rattle.spec_run.specs.Checks.{Situation, held_at}
use Rattle.spec_run.specs.Runs.{Running}
use Rattle.spec_run.specs.Stands.{Kept as RunKept}
use Rattle.spec_run.specs.Steps.{is_p0, p0s}
use Rattle.spec_run.specs.declared.step.RunStep.{RunStep}
use Rattle.spec_run.specs.declared.step.StepKind.TheVariants.{Isb}
use Rattle.trace_unit.specs.Fitting.{FitsPlaces, FitsRun}
use Rattle.trace_unit.specs.Followed.{element_of}
use Rattle.trace_unit.specs.Kept.{Kept}
use Rattle.trace_unit.specs.Ordered.{IsReady}
use Rattle.trace_unit.specs.declared.follower.Follower.{Follower}

-- ---- a run at a place

abbrev pub some_isb : RunStep
some_isb = record { addr = 0; ctx = initial_context; kind = Isb; next = 0; link = false }

-- steps that are retired, the newest of which is an ISB or none
abbrev pub retired_to : Bool → List RunStep
retired_to true = some_isb ∷ []
retired_to false = []

-- a run that is at this place
abbrev pub running_at : Situation → Running
running_at q = record { start = 0; retired = retired_to q.after_isb; held = q.held; pc = q.pc; ctx = q.ctx }

abbrev pub running_by : Option Situation → Option Running
running_by place = option_map running_at place

-- ---- P0 steps

-- the P0 elements of the P0 steps, oldest first
abbrev pub elements_of : List RunStep → List P0
elements_of [] = []
elements_of (s ∷ steps) = if is_p0 s then element_of s.kind s.addr ∷ elements_of steps else elements_of steps

-- The depth is that of all, and there is room for so many P0 steps. The P0 elements are those of the P0 steps that are held, and what
-- waits tells them. All values fit the packets.
pub record Agree (run : RunKept) (f : Follower) : Type 0 where
  pub depth : run.depth ≡ f.teller.settings.depth
  pub room : f.places.window.room ≡ f.teller.settings.depth
  pub elements : f.places.window.p0s ≡ elements_of (held_at run.place)
  pub ready : IsReady (p0s (held_at run.place)) f.teller
  pub fits : FitsRun f.teller.settings (running_by run.place)
  pub starts : FitsPlaces f.places.places

-- what a unit of these parts shows
abbrev pub kept_of : RunKept → Follower → Kept
kept_of run f = record {
  settings = f.teller.settings;
  stack_depth = f.places.stack_depth;
  run = run;
  places = f.places.places;
  waiting = f.teller.waiting;
  shared = f.teller.shared;
  counts = f.places.window.counts;
}
