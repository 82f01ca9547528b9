-- What a trace unit keeps of the places of its run, and what changes it: the return addresses that a reader has, what
-- it goes back to where P0 steps are taken back, and what the reader knows of the block that is begun (Arm IHI 0064, "Return stack").
use Rattle.std.specs.Prelude.{ℕ, zero, suc, ◌==◌, Bool, true, false, if◌then◌else◌, List, [], ◌∷◌, ◌++◌, map, drop, Option, Some, None}
use Rattle.etm_types.specs.Context.{initial_context}
use Rattle.etm_types.specs.declared.context.Ctx.{Ctx}
use Rattle.program_image.specs.Blocks.{behind}
use Rattle.return_stack.specs.Stack.{pushed}
use Rattle.spec_run.specs.Steps.{kept, newest}
use Rattle.spec_run.specs.declared.step.RunStep.{RunStep}
use Rattle.spec_run.specs.declared.step.StepKind.{StepKind}
use Rattle.spec_run.specs.declared.step.StepKind.TheVariants.{Eret, Exc, Ind}

-- what is kept of a P0 step that is not retired: the return addresses before it, and the context and the start of its block
pub record Saved : Type 0 where
  pub stack : List ℕ
  pub context : Ctx
  pub start : ℕ

-- The return addresses, newest first; what is saved of each P0 step that is held, oldest first; whether the begun block needs an
-- address, where it starts, and the context that the reader has for it.
pub record Places : Type 0 where
  pub stack : List ℕ
  pub saved : List Saved
  pub needs : Bool
  pub start : ℕ
  pub reader_context : Ctx

abbrev pub no_places : Places
no_places = record { stack = []; saved = []; needs = false; start = 0; reader_context = initial_context }

-- ---- behind a P0 step, with so many return addresses at most

-- the return address of a call
abbrev pub link_after : RunStep → Option ℕ
link_after s = if s.link then Some (behind s.addr 1) else None

abbrev pub pushed_by : ℕ → Option ℕ → List ℕ → List ℕ
pushed_by most None stack = stack
pushed_by most (Some addr) stack = pushed most addr stack

-- whether the block behind a P0 step needs an address, and the return addresses there
pub record Left : Type 0 where
  pub needs : Bool
  pub stack : List ℕ

-- a return to the newest return address takes that off
abbrev pub popped : ℕ → List ℕ → Left
popped next [] = record { needs = true; stack = [] }
popped next (addr ∷ stack) = if addr == next then record { needs = false; stack = stack } else record { needs = true; stack = addr ∷ stack }

abbrev pub left_by : StepKind → ℕ → List ℕ → Left
left_by (Ind false) next stack = popped next stack
left_by (Ind true) next stack = record { needs = true; stack = stack }
left_by Eret next stack = record { needs = true; stack = stack }
left_by (Exc kind) next stack = record { needs = true; stack = stack }
left_by kind next stack = record { needs = false; stack = stack }

abbrev pub left : ℕ → Places → RunStep → Left
left most p s = left_by s.kind s.next (pushed_by most (link_after s) p.stack)

-- one more, where any is kept: at depth 0 a step is retired as it is executed
abbrev pub with_newest : {X : Type 0} → ℕ → List X → X → List X
with_newest zero xs x = xs
with_newest (suc depth) xs x = xs ++ x ∷ []

abbrev pub saves : ℕ → Places → RunStep → List Saved
saves depth p s = with_newest depth p.saved (record { stack = p.stack; context = s.ctx; start = p.start })

-- the reader has the context of the step, whichever comes behind it
abbrev pub placed_behind : ℕ → ℕ → Places → RunStep → Places
placed_behind depth most p s =
    record { stack = (left most p s).stack; saved = saves depth p s; needs = (left most p s).needs; start = s.next; reader_context = s.ctx }

-- ---- other events

-- tracing begins at an address, in a context
abbrev pub placed_begun : ℕ → Ctx → Places
placed_begun addr ctx = record { stack = []; saved = []; needs = false; start = addr; reader_context = ctx }

-- so many of the oldest P0 steps are retired
abbrev pub placed_retired : Places → ℕ → Places
placed_retired p n = record p { saved = drop n p.saved }

-- back to before the oldest of the P0 steps that are taken back, where there is one
abbrev pub back_by : Places → List Saved → Places
back_by p [] = p
back_by p (v ∷ vs) = record p { stack = v.stack; needs = false; start = v.start; reader_context = v.context }

abbrev pub placed_back : Places → ℕ → Places
placed_back p n = record (back_by p (newest n p.saved)) { saved = kept n p.saved }

-- the newest step goes the other way, to an address
abbrev pub placed_flipped : Places → ℕ → Places
placed_flipped p pc = record p { needs = false; start = pc }

-- a reader empties its return stack at a trace info, and is told the address and the context
abbrev pub without_stack : Saved → Saved
without_stack v = record v { stack = [] }

abbrev pub placed_synced : Places → Ctx → Places
placed_synced p ctx = record p { stack = []; saved = map without_stack p.saved; needs = false; reader_context = ctx }

-- tracing ends: what is held is lost
abbrev pub placed_closed : Places → Places
placed_closed p = record p { saved = [] }
