-- The retired path: what a trace of an execution must show.
use Rattle.std.specs.Prelude.{ℕ, zero, Bool, true, false, if◌then◌else◌, List, [], ◌∷◌, ◌++◌, length, take, drop, Option, Some, None}
use Rattle.etm_types.specs.declared.item.Item.{Item}
use Rattle.etm_types.specs.declared.item.Item.TheVariants as item
use Rattle.spec_run.specs.Blocks.{last_item}
use Rattle.spec_run.specs.Runs.{ByOff, ByOverflow, Closing, Execution, Running}
use Rattle.spec_run.specs.Steps.{is_p0}
use Rattle.spec_run.specs.declared.effect.Effect.{Effect}
use Rattle.spec_run.specs.declared.effect.Effect.TheVariants as effect
use Rattle.spec_run.specs.declared.step.RunStep.{RunStep}

-- an instruction, and whether it is a taken conditional branch, or an exception, whose return address is the step's
abbrev pub item_of : RunStep → Item
item_of s = last_item s.kind s

abbrev pub has_p0 : List RunStep → Bool
has_p0 [] = false
has_p0 (s ∷ steps) = if is_p0 s then true else has_p0 steps

-- the items of the steps up to the last P0 step
abbrev pub path_of_steps : List RunStep → List Item
path_of_steps [] = []
path_of_steps (s ∷ steps) = if has_p0 (s ∷ steps) then item_of s ∷ path_of_steps steps else []

-- with trace on in front, where anything is shown
abbrev pub stretch_items : List RunStep → List Item
stretch_items steps = if has_p0 steps then item.On ∷ path_of_steps steps else []

-- behind an overflow comes a gap, and behind off a stop
abbrev pub closing_item : Closing → Item
closing_item ByOverflow = item.Gap
closing_item ByOff = item.Stop

abbrev pub closed_items : List (List RunStep × Closing) → List Item
closed_items [] = []
closed_items (c ∷ closed) = stretch_items c.0 ++ closing_item c.1 ∷ closed_items closed

abbrev pub current_items : Option Running → List Item
current_items None = []
current_items (Some r) = stretch_items r.retired

abbrev pub retired_of : Execution → List Item
retired_of x = closed_items x.closed ++ current_items x.current

-- ---- what the path grows by

-- the items by which a stretch shows more where steps are retired behind others
abbrev pub items_behind : List RunStep → List RunStep → List Item
items_behind steps more = drop (length (stretch_items steps)) (stretch_items (steps ++ more))

-- What an event adds, by what it does: where steps are retired, those items; a gap or a stop at the end of tracing; else nothing.
abbrev pub added_by : ℕ → Option Running → Effect → List Item
added_by depth (Some r) (effect.Retired n) = items_behind r.retired (take n r.held)
added_by zero (Some r) (effect.Ran s ctx) = items_behind r.retired (s ∷ [])
added_by depth (Some r) effect.Overflowed = item.Gap ∷ []
added_by depth (Some r) effect.Stopped = item.Stop ∷ []
added_by depth r e = []
