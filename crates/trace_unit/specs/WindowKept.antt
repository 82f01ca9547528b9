-- The P0 steps of a unit that are not retired, their P0 elements, and what became of all.
use Rattle.std.specs.Prelude.{ℕ, not, List, [], ◌∷◌, ◌++◌, length, map, take, drop, Option, Some, None}
use Rattle.element_queue.specs.declared.ledger.Counts.{Counts}
use Rattle.etm_types.specs.declared.element.P0.{P0}
use Rattle.etm_types.specs.declared.element.P0.TheVariants.{Atom}
use Rattle.spec_run.specs.Steps.{kept}
use Rattle.trace_unit.specs.Effects.{counts_cancelled, counts_lost, counts_made, counts_retired}
use Rattle.trace_unit.specs.Places.{Saved, with_newest, without_stack}

-- the newest is changed
abbrev pub at_newest : {X : Type 0} → (X → X) → List X → List X
at_newest change [] = []
at_newest change (x ∷ []) = change x ∷ []
at_newest change (x ∷ other ∷ xs) = x ∷ at_newest change (other ∷ xs)

-- the atom is the other one
abbrev pub turn_p0 : P0 → P0
turn_p0 (Atom taken) = Atom (not taken)
turn_p0 p0 = p0

abbrev pub turn_newest_p0 : List P0 → List P0
turn_newest_p0 p0s = at_newest turn_p0 p0s

-- ---- the P0 elements, oldest first, and there is room for so many

pub record WindowKept : Type 0 where
  pub p0s : List P0
  pub room : ℕ
  pub counts : Counts

-- at depth 0, where there is no room, a P0 element is committed as it is made
abbrev pub pushed : WindowKept → ℕ → P0 → WindowKept
pushed w room p0 = record w { p0s = with_newest room w.p0s p0; counts = counts_made room w.counts }

-- so many of the oldest are retired, or of the newest taken back
abbrev pub windowed_retired : WindowKept → ℕ → WindowKept
windowed_retired w n = record w { p0s = drop n w.p0s; counts = counts_retired n w.counts }

abbrev pub windowed_cancelled : WindowKept → ℕ → WindowKept
windowed_cancelled w n = record w { p0s = kept n w.p0s; counts = counts_cancelled n w.counts }

-- the newest atom is the other one
abbrev pub windowed_flipped : WindowKept → WindowKept
windowed_flipped w = record w { p0s = turn_newest_p0 w.p0s }

-- all are lost
abbrev pub windowed_lost : WindowKept → WindowKept
windowed_lost w = record w { p0s = []; counts = counts_lost (length w.p0s) w.counts }

-- ---- the P0 steps, each with its P0 element, and what is saved of it

pub record StepKept : Type 0 where
  pub p0 : P0
  pub saved : Saved

pub record StepsKept : Type 0 where
  pub steps : List StepKept
  pub room : ℕ
  pub counts : Counts

abbrev pub p0s_in : List StepKept → List P0
p0s_in steps = map (λ (s : StepKept). s.p0) steps

abbrev pub saved_in : List StepKept → List Saved
saved_in steps = map (λ (s : StepKept). s.saved) steps

-- what is saved of the oldest
abbrev pub oldest_saved : List StepKept → Option Saved
oldest_saved [] = None
oldest_saved (s ∷ steps) = Some s.saved

abbrev pub turn_step : StepKept → StepKept
turn_step s = record s { p0 = turn_p0 s.p0 }

-- a reader has emptied its return stack since
abbrev pub step_emptied : StepKept → StepKept
step_emptied s = record s { saved = without_stack s.saved }

-- so many of the oldest without their return addresses
abbrev pub without_stacks : ℕ → List StepKept → List StepKept
without_stacks n steps = map step_emptied (take n steps) ++ drop n steps
