-- Which things of a trace come of elements behind a trace info in it, and which of them have an On from there.
use Rattle.std.specs.Prelude.{ℕ, ◌+◌, ◌-◌, ◌==◌, Bool, true, false, if◌then◌else◌, List, [], ◌∷◌, ◌++◌, length, take, drop, replicate}
use Rattle.std.specs.Prelude.{Result, Ok, Err}
use Rattle.element_queue.specs.Resolved.{Resolved, resolve}
use Rattle.etm_types.specs.declared.element.Elem.{Elem}
use Rattle.etm_types.specs.declared.element.Elem.TheVariants as elem
use Rattle.etm_types.specs.declared.queue_fault.QueueFault.{QueueFault}

-- of a thing: whether the element that made it stands behind the info, and whether an On does that was told before it
pub record Mark : Type 0 where
  pub made : Bool
  pub on : Bool

abbrev pub mark : Bool → Bool → Mark
mark made on = record { made = made; on = on }

-- of all that stood before the info
abbrev pub old : Mark
old = mark false false

-- the marks of all things, those that are done and those that are held; and whether what was told since has an On from behind the info
pub record Marks : Type 0 where
  pub all : List Mark
  pub on : Bool

-- at the info
abbrev pub marks_at : Resolved → Marks
marks_at r = record { all = replicate (length r.done + length r.pending.held) old; on = false }

abbrev pub on_of : List Mark → Bool
on_of [] = false
on_of (m ∷ marks) = m.on

-- Behind one element, where the things before it are resolved so. A cancel gives back what was told before the oldest thing that it takes
-- back; an overflow or a discard puts its own thing in the place of all that is held.
abbrev pub marked : Resolved → Marks → Elem → Marks
marked r m (elem.Info announced) = m
marked r m elem.On = record m { on = true }
marked r m (elem.Ctx ctx) = m
marked r m (elem.Addr addr) = m
marked r m (elem.P0 p0) = record { all = m.all ++ mark true m.on ∷ []; on = false }
marked r m (elem.Commit n) = m
marked r m (elem.Cancel n) =
    record { all = if n == 0 then m.all else take (length m.all - n) m.all; on = if n == 0 then m.on else on_of (drop (length m.all - n) m.all) }
marked r m elem.Flip = m
marked r m elem.Overflow = record { all = take (length r.done) m.all ++ mark true false ∷ []; on = false }
marked r m elem.Discard = record { all = take (length r.done) m.all ++ mark true false ∷ []; on = false }

abbrev pub then_mark : Result Resolved QueueFault → Marks → (Resolved → Marks) → Marks
then_mark (Ok r) m next = next r
then_mark (Err fault) m next = m

-- behind all of them
abbrev pub marks_behind : ℕ → Resolved → Marks → List Elem → Marks
marks_behind depth r m [] = m
marks_behind depth r m (e ∷ elements) = then_mark (resolve depth r e) m (λ next. marks_behind depth next (marked r m e) elements)
