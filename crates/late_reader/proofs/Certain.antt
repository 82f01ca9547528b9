-- A retired path has no unknown stretch.
use Rattle.std.proofs.Common.{Bool, true, false, if◌then◌else◌, List, [], ◌∷◌, ◌++◌, Option, Some, None}
use Rattle.etm_types.specs.declared.item.Item.{Item}
use Rattle.etm_types.specs.declared.item.Item.TheVariants as item
use Rattle.spec_run.specs.Blocks.{last_item}
use Rattle.spec_run.specs.RetiredItems.{closed_items, closing_item, current_items, has_p0, item_of, path_of_steps, retired_of, stretch_items}
use Rattle.spec_run.specs.Runs.{ByOff, ByOverflow, Closing, Execution, Running}
use Rattle.spec_run.specs.declared.step.RunStep.{RunStep}
use Rattle.spec_run.specs.declared.step.StepKind.{StepKind}
use Rattle.spec_run.specs.declared.step.StepKind.TheVariants.{Cond, Eret, Exc, Ind, Isb, Jump, Plain}
use Rattle.late_reader.specs.Part.{AreCertain, IsCertain}

certain_joined : (xs ys : List Item) → AreCertain xs → AreCertain ys → AreCertain (xs ++ ys)
certain_joined [] ys a b = b
certain_joined (x ∷ xs) ys a b = (a.0, certain_joined xs ys a.1 b)

certain_item : (kind : StepKind) (s : RunStep) → IsCertain (last_item kind s)
certain_item Plain s = tt
certain_item Isb s = tt
certain_item Jump s = tt
certain_item (Cond taken) s = tt
certain_item (Ind link) s = tt
certain_item Eret s = tt
certain_item (Exc kind) s = tt

certain_if : (b : Bool) (x : Item) (xs : List Item) → IsCertain x → AreCertain xs → AreCertain (if b then x ∷ xs else [])
certain_if true x xs a b = (a, b)
certain_if false x xs a b = tt

certain_steps : (steps : List RunStep) → AreCertain (path_of_steps steps)
certain_steps [] = tt
certain_steps (s ∷ steps) = certain_if (has_p0 (s ∷ steps)) (item_of s) (path_of_steps steps) (certain_item s.kind s) (certain_steps steps)

certain_stretch : (steps : List RunStep) → AreCertain (stretch_items steps)
certain_stretch steps = certain_if (has_p0 steps) item.On (path_of_steps steps) tt (certain_steps steps)

certain_closing : (c : Closing) (items : List Item) → AreCertain items → AreCertain (closing_item c ∷ items)
certain_closing ByOverflow items a = (tt, a)
certain_closing ByOff items a = (tt, a)

certain_closed : (closed : List (List RunStep × Closing)) → AreCertain (closed_items closed)
certain_closed [] = tt
certain_closed (c ∷ closed) =
    certain_joined (stretch_items c.0) (closing_item c.1 ∷ closed_items closed) (certain_stretch c.0)
    (certain_closing c.1 (closed_items closed) (certain_closed closed))

certain_current : (current : Option Running) → AreCertain (current_items current)
certain_current None = tt
certain_current (Some r) = certain_stretch r.retired

pub certain_path : (x : Execution) → AreCertain (retired_of x)
certain_path x = certain_joined (closed_items x.closed) (current_items x.current) (certain_closed x.closed) (certain_current x.current)
