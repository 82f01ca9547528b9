-- How the entries that a unit writes lead through the blocks of its run: one row for each P0 step.
use Rattle.std.specs.Prelude.{◌≡◌, ℕ, ◌+◌, Bool, true, false, not, List, [], ◌∷◌, ◌++◌, Some, None, ⊤}
use Rattle.std.specs.List.{flat_map}
use Rattle.etm_types.specs.Walked.{items_of}
use Rattle.etm_types.specs.declared.context.Ctx.{Ctx}
use Rattle.etm_types.specs.declared.element.P0.{P0}
use Rattle.etm_types.specs.declared.element.P0.TheVariants as p0
use Rattle.etm_types.specs.declared.element.Pre.{Pre}
use Rattle.etm_types.specs.declared.element.Thing.{Thing}
use Rattle.etm_types.specs.declared.element.Thing.TheVariants.{Seen}
use Rattle.etm_types.specs.declared.item.Item.{Item}
use Rattle.etm_types.specs.declared.walked.Walked.{Walked}
use Rattle.path_walker.specs.declared.pc.Pc.{Pc}
use Rattle.path_walker.specs.declared.pc.Pc.TheVariants.{Known, Awaited}
use Rattle.path_walker.specs.State.{State}
use Rattle.path_walker.specs.Start.{pc_before, context_of, mismatch_of, start_of}
use Rattle.path_walker.specs.Steps.{linked}
use Rattle.path_walker.specs.Walk.{mark_of}
use Rattle.spec_run.specs.Blocks.{Block}
use Rattle.spec_run.specs.Kinds.{took_of}
use Rattle.spec_run.specs.declared.step.RunStep.{RunStep}
use Rattle.spec_run.specs.declared.step.StepKind.{StepKind}
use Rattle.spec_run.specs.declared.step.StepKind.TheVariants.{Cond, Eret, Exc, Ind}
use Rattle.trace_unit.specs.Places.{Saved, link_after}

-- one list begins with another
abbrev pub IsFront : {X : Type 0} → List X → List X → Type 0
IsFront xs ys = (rest : List _) × (xs ++ rest ≡ ys)

-- ---- the entry of a block, and what the walk makes of it

abbrev pub p0_of : StepKind → ℕ → P0
p0_of (Exc kind) addr = p0.Exc kind addr
p0_of (Cond taken) addr = p0.Atom taken
p0_of kind addr = p0.Atom true

abbrev pub pc_after : StepKind → RunStep → Pc
pc_after (Ind link) s = Awaited (not link)
pc_after Eret s = Awaited false
pc_after (Exc kind) s = Awaited false
pc_after kind s = Known s.next

-- a block, what was told before its P0 step, and the unit's return stack as it was before that step
pub record Row : Type 0 where
  pub block : Block
  pub pre : Pre
  pub stack : List ℕ

abbrev pub block_of : Row → Block
block_of r = r.block

abbrev pub thing_of : Row → Thing
thing_of r = Seen (record { pre = r.pre; p0 = p0_of r.block.last.kind r.block.last.addr })

abbrev pub after : State → Row → State
after w r = record { pc = pc_after r.block.last.kind r.block.last; stack = linked (link_after r.block.last) (start_of w r.pre).stack; ctx = r.block.ctx }

abbrev pub after_all : State → List Row → State
after_all w [] = w
after_all w (r ∷ rows) = after_all (after w r) rows

abbrev pub saved_of : Row → Saved
saved_of r = record { stack = r.stack; context = r.block.ctx; start = r.block.start }

-- ---- rows lead one to the next

-- What was told says that a block starts at this address, in this context, and the unit's return stack is a front of the walk's
-- there. It is the first block of its stretch, or a later one.
pub record Ready (first : Bool) (w : State) (pre : Pre) (start : ℕ) (context : Ctx) (stack : List ℕ) : Type 0 where
  pub agrees : mismatch_of (pc_before w pre) pre.addr ≡ None
  pub at : (start_of w pre).at ≡ Some start
  pub ctx : context_of w pre ≡ context
  pub front : IsFront stack (start_of w pre).stack
  pub on : pre.on ≡ first
  pub lost : first ≡ false → pre.lost ≡ false

abbrev pub IsLed : Bool → State → Row → Type 0
IsLed first w r = Ready first w r.pre r.block.start r.block.ctx r.stack

abbrev pub Led : Bool → State → List Row → Type 0
Led first w [] = ⊤
Led first w (r ∷ rows) = IsLed first w r × Led false (after w r) rows

-- whether what comes behind these rows is the first of its stretch
abbrev pub first_behind : Bool → List Row → Bool
first_behind first [] = first
first_behind first (r ∷ rows) = false

-- ---- the items

abbrev pub count_of : StepKind → ℕ → ℕ
count_of (Exc kind) n = n
count_of kind n = n + 1

abbrev pub walked_of : Row → Walked
walked_of r =
    record {
      on = r.pre.on;
      unknown = false;
      ctx = r.block.ctx;
      start = r.block.start;
      count = count_of r.block.last.kind r.block.plain;
      took = took_of r.block.last.kind;
      exc = mark_of (p0_of r.block.last.kind r.block.last.addr);
    }

abbrev pub row_items : Row → List Item
row_items r = items_of (walked_of r)

abbrev pub all_items : List Row → List Item
all_items rows = flat_map row_items rows
