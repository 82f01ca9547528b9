-- Retired paths of small runs, each with near misses.
use Rattle.std.proofs.Common.{◌≡◌, ℕ, true, false, List, [], ◌∷◌, ◌++◌, length, Option, Some, None, ap, arith, refl}
use Rattle.etm_types.specs.Walked.{items_of}
use Rattle.etm_types.specs.declared.context.Ctx.{Ctx}
use Rattle.etm_types.specs.declared.item.Item.{Item}
use Rattle.etm_types.specs.declared.item.Item.TheVariants as item
use Rattle.etm_types.specs.declared.walked.Walked.{Walked}
use Rattle.spec_run.specs.Blocks.{BegunBlock, begun, blocks, fresh, items_of_blocks}
use Rattle.spec_run.specs.RetiredItems.{added_by, items_behind, retired_of, stretch_items}
use Rattle.spec_run.specs.Runs.{ByOff, ByOverflow, Closing, Execution, Running}
use Rattle.spec_run.specs.Stands.{OpenBlock, begun_behind, shown_by}
use Rattle.spec_run.specs.declared.effect.Effect.TheVariants as effect
use Rattle.spec_run.specs.declared.step.RunStep.{RunStep}
use Rattle.spec_run.specs.declared.step.StepKind.{StepKind}
use Rattle.spec_run.specs.declared.step.StepKind.TheVariants.{Plain, Jump, Cond, Ind, Eret, Exc}

-- ---- the steps

abbrev program : Ctx
program = record { el = 0; ns = true; vmid = 5; cid = 7 }

abbrev handler : Ctx
handler = record { el = 1; ns = true; vmid = 5; cid = 7 }

abbrev step : ℕ → Ctx → StepKind → ℕ → RunStep
step addr ctx kind next = record { addr = addr; ctx = ctx; kind = kind; next = next; link = false }

-- NOP; NOP; B.EQ to 1010
abbrev branch_block : List RunStep
branch_block = step 0x1000 program Plain 0x1004 ∷ step 0x1004 program Plain 0x1008 ∷ step 0x1008 program (Cond true) 0x1010 ∷ []

-- the same, where B.EQ goes on at the next word
abbrev passed_block : List RunStep
passed_block = step 0x1000 program Plain 0x1004 ∷ step 0x1004 program Plain 0x1008 ∷ step 0x1008 program (Cond false) 0x100c ∷ []

-- B
abbrev jump : RunStep
jump = step 0x100c program Jump 0x1000

-- NOP; RET to 1000
abbrev return_block : List RunStep
return_block = step 0x1010 program Plain 0x1014 ∷ step 0x1014 program (Ind false) 0x1000 ∷ []

abbrev first_nop : RunStep
first_nop = step 0x1000 program Plain 0x1004

abbrev third_nop : RunStep
third_nop = step 0x1010 program Plain 0x1014

-- an exception before the first instruction; NOP; ERET; NOP; an exception behind it
abbrev exception_at_once : RunStep
exception_at_once = step 0x2000 program (Exc 3) 0x8000

abbrev return_from_handler : List RunStep
return_from_handler = step 0x8000 handler Plain 0x8004 ∷ step 0x8004 handler Eret 0x2000 ∷ []

abbrev interrupted : List RunStep
interrupted = step 0x2000 program Plain 0x2004 ∷ step 0x2004 program (Exc 14) 0x8000 ∷ []

abbrev at : ℕ → Item
at addr = item.Instr addr program false

abbrev in_handler : ℕ → Item
in_handler addr = item.Instr addr handler false

abbrev branch_items : List Item
branch_items = at 0x1000 ∷ at 0x1004 ∷ item.Instr 0x1008 program true ∷ []

abbrev passed_items : List Item
passed_items = at 0x1000 ∷ at 0x1004 ∷ at 0x1008 ∷ []

abbrev return_items : List Item
return_items = at 0x1010 ∷ at 0x1014 ∷ []

-- ---- a stretch

pub two_blocks : stretch_items (branch_block ++ return_block) ≡ item.On ∷ (branch_items ++ return_items)
two_blocks = refl

pub trace_is_on_once : stretch_items (branch_block ++ return_block) ≡ item.On ∷ (branch_items ++ item.On ∷ return_items) → ⊥
trace_is_on_once = λ e. let a = ap length e in cc

pub trace_is_on_first : stretch_items (branch_block ++ return_block) ≡ branch_items ++ return_items → ⊥
trace_is_on_first = λ e. cc

-- only the conditional branch that was taken is marked as one: not where it goes on at the next word, and no other P0 step
pub a_branch_that_falls_through : stretch_items (passed_block ++ jump ∷ []) ≡ item.On ∷ (passed_items ++ at 0x100c ∷ [])
a_branch_that_falls_through = refl

pub a_taken_branch_is_marked : stretch_items branch_block ≡ item.On ∷ passed_items → ⊥
a_taken_branch_is_marked = λ e. cc

pub one_that_falls_through_is_not : stretch_items passed_block ≡ item.On ∷ branch_items → ⊥
one_that_falls_through_is_not = λ e. cc

pub a_jump_is_not : stretch_items (jump ∷ []) ≡ item.On ∷ item.Instr 0x100c program true ∷ [] → ⊥
a_jump_is_not = λ e. cc

pub a_return_is_not : stretch_items return_block ≡ item.On ∷ at 0x1010 ∷ item.Instr 0x1014 program true ∷ [] → ⊥
a_return_is_not = λ e. cc

-- the plain step behind the last P0 step is cut
pub cut_behind_a_branch : stretch_items (branch_block ++ return_block ++ first_nop ∷ []) ≡ item.On ∷ (branch_items ++ return_items)
cut_behind_a_branch = refl

pub a_plain_step_at_the_end_is_not_shown : stretch_items (branch_block ++ return_block ++ first_nop ∷ [])
    ≡ item.On ∷ (branch_items ++ return_items ++ at 0x1000 ∷ []) → ⊥
a_plain_step_at_the_end_is_not_shown = λ e. let a = ap length e in cc

pub a_plain_step_before_a_p0_step_is_shown : stretch_items branch_block ≡ item.On ∷ at 0x1008 ∷ [] → ⊥
a_plain_step_before_a_p0_step_is_shown = λ e. let a = ap length e in cc

-- trace on is shown only where something is
pub nothing_remains : stretch_items (first_nop ∷ []) ≡ []
nothing_remains = refl

pub no_trace_on_before_nothing : stretch_items (first_nop ∷ []) ≡ item.On ∷ [] → ⊥
no_trace_on_before_nothing = λ e. cc

pub no_steps : stretch_items [] ≡ []
no_steps = refl

-- ---- exceptions

-- a block of an exception alone, a handler, and an exception behind a plain step
pub exceptions : stretch_items (exception_at_once ∷ return_from_handler ++ interrupted)
    ≡ item.On ∷ item.Exc 3 0x2000 ∷ in_handler 0x8000 ∷ in_handler 0x8004 ∷ at 0x2000 ∷ item.Exc 14 0x2004 ∷ []
exceptions = refl

pub an_exception_is_no_instruction : stretch_items (exception_at_once ∷ []) ≡ item.On ∷ at 0x2000 ∷ item.Exc 3 0x2000 ∷ [] → ⊥
an_exception_is_no_instruction = λ e. let a = ap length e in cc

pub an_exception_is_shown : stretch_items (exception_at_once ∷ []) ≡ item.On ∷ [] → ⊥
an_exception_is_shown = λ e. let a = ap length e in cc

abbrev second : List Item → Option Item
second (first ∷ it ∷ items) = Some it
second items = None

abbrev return_address : Option Item → ℕ
return_address (Some (item.Exc kind ret)) = ret
return_address shown = 0

-- its return address is where it was taken, and not where it led
pub an_exception_shows_its_return_address : return_address (second (stretch_items (exception_at_once ∷ []))) ≡ 0x8000 → ⊥
an_exception_shows_its_return_address = λ e. let a : 0x2000 ≡ 0x8000 = e in absurd (omega (arith, a))

-- ---- blocks

pub blocks_of_two : blocks (fresh 0x1000) (branch_block ++ return_block)
    ≡ record { start = 0x1000; plain = 2; ctx = program; last = step 0x1008 program (Cond true) 0x1010 }
    ∷ record { start = 0x1010; plain = 1; ctx = program; last = step 0x1014 program (Ind false) 0x1000 } ∷ []
blocks_of_two = refl

pub items_of_two : items_of_blocks (blocks (fresh 0x1000) (branch_block ++ return_block ++ first_nop ∷ [])) ≡ branch_items ++ return_items
items_of_two = refl

pub begun_behind_two : begun (fresh 0x1000) (branch_block ++ return_block ++ first_nop ∷ []) ≡ record { start = 0x1000; plain = 1 }
begun_behind_two = refl

pub a_branch_leads_to_the_next_block : begun (fresh 0x1000) branch_block ≡ fresh 0x100c → ⊥
a_branch_leads_to_the_next_block = λ e. let a : 0x1010 ≡ 0x100c = ap (λ (o : BegunBlock). o.start) e in absurd (omega (arith, a))

pub a_block_of_an_exception : items_of_blocks (blocks (fresh 0x2000) (exception_at_once ∷ return_from_handler))
    ≡ item.Exc 3 0x2000 ∷ in_handler 0x8000 ∷ in_handler 0x8004 ∷ []
a_block_of_an_exception = refl

-- a step that is no exception is an instruction of its block
pub the_branch_counts : items_of_blocks (blocks (fresh 0x1000) branch_block) ≡ at 0x1000 ∷ at 0x1004 ∷ [] → ⊥
the_branch_counts = λ e. let a = ap length e in cc

-- ---- the blocks that a retired path gives

abbrev before : Option Walked → List Walked → List Walked
before None walked = walked
before (Some w) walked = w ∷ walked

abbrev given : OpenBlock → List RunStep → List Walked
given b [] = []
given b (s ∷ steps) = before (shown_by b s) (given (begun_behind b s) steps)

abbrev at_first : OpenBlock
at_first = record { first = true; start = 0; plain = 0; ctx = record { el = 0; ns = false; vmid = 0; cid = 0 } }

abbrev items_given : List Walked → List Item
items_given [] = []
items_given (w ∷ walked) = items_of w ++ items_given walked

pub two_blocks_given : given at_first (branch_block ++ return_block ++ first_nop ∷ [])
    ≡ record { on = true; unknown = false; ctx = program; start = 0x1000; count = 3; took = true; exc = None }
    ∷ record { on = false; unknown = false; ctx = program; start = 0x1010; count = 2; took = false; exc = None } ∷ []
two_blocks_given = refl

pub exceptions_given : given at_first (exception_at_once ∷ return_from_handler ++ interrupted)
    ≡ record { on = true; unknown = false; ctx = program; start = 0x2000; count = 0; took = false; exc = Some (record { kind = 3; ret = 0x2000 }) }
    ∷ record { on = false; unknown = false; ctx = handler; start = 0x8000; count = 2; took = false; exc = None }
    ∷ record { on = false; unknown = false; ctx = program; start = 0x2000; count = 1; took = false; exc = Some (record { kind = 14; ret = 0x2004 }) } ∷ []
exceptions_given = refl

pub what_is_given_is_shown : items_given (given at_first (exception_at_once ∷ return_from_handler ++ interrupted))
    ≡ stretch_items (exception_at_once ∷ return_from_handler ++ interrupted)
what_is_given_is_shown = refl

abbrev counts : List Walked → List ℕ
counts [] = []
counts (w ∷ walked) = w.count ∷ counts walked

pub an_exception_is_not_counted : counts (given at_first interrupted) ≡ 2 ∷ [] → ⊥
an_exception_is_not_counted = λ e. cc

-- ---- ends of tracing

abbrev closed_by : List RunStep → Closing → Execution
closed_by steps closing = record { closed = (steps, closing) ∷ []; current = None }

pub an_overflow : retired_of (closed_by (branch_block ++ third_nop ∷ []) ByOverflow) ≡ item.On ∷ (branch_items ++ item.Gap ∷ [])
an_overflow = refl

pub the_end : retired_of (closed_by (branch_block ++ third_nop ∷ []) ByOff) ≡ item.On ∷ (branch_items ++ item.Stop ∷ [])
the_end = refl

pub an_overflow_is_no_stop : retired_of (closed_by (first_nop ∷ []) ByOverflow) ≡ item.Stop ∷ [] → ⊥
an_overflow_is_no_stop = λ e. cc

-- an overflow behind plain steps alone, and off with nothing retired
abbrev nothing_shown : Execution
nothing_shown = record { closed = (first_nop ∷ [], ByOverflow) ∷ ([], ByOff) ∷ []; current = None }

pub a_gap_and_a_stop_alone : retired_of nothing_shown ≡ item.Gap ∷ item.Stop ∷ []
a_gap_and_a_stop_alone = refl

pub no_trace_on_before_a_gap_alone : retired_of nothing_shown ≡ item.On ∷ item.Gap ∷ item.On ∷ item.Stop ∷ [] → ⊥
no_trace_on_before_a_gap_alone = λ e. cc

-- ---- what an event adds

-- two of the steps are retired, and four are held
abbrev running : Running
running =
    record {
      start = 0x1000;
      retired = first_nop ∷ step 0x1004 program Plain 0x1008 ∷ [];
      held = step 0x1008 program (Cond true) 0x1010 ∷ return_block ++ first_nop ∷ [];
      pc = 0x1004;
      ctx = program;
    }

pub plain_steps_add_nothing : added_by 4 (Some running) (effect.Retired 0) ≡ []
plain_steps_add_nothing = refl

-- with the plain steps before it, which were retired earlier
pub a_branch_adds_its_block : added_by 4 (Some running) (effect.Retired 2) ≡ item.On ∷ branch_items
a_branch_adds_its_block = refl

pub not_the_branch_alone : added_by 4 (Some running) (effect.Retired 1) ≡ item.On ∷ at 0x1008 ∷ [] → ⊥
not_the_branch_alone = λ e. let a = ap length e in cc

pub a_later_block_adds_no_trace_on : items_behind branch_block return_block ≡ return_items
a_later_block_adds_no_trace_on = refl

pub held_steps_add_nothing : added_by 4 (Some running) (effect.Ran (step 0x1008 program (Cond true) 0x1010) program) ≡ []
held_steps_add_nothing = refl

pub at_depth_0_a_step_adds : added_by 0 (Some running) (effect.Ran (step 0x1008 program (Cond true) 0x1010) program) ≡ item.On ∷ branch_items
at_depth_0_a_step_adds = refl

pub a_cancel_adds_nothing : added_by 4 (Some running) (effect.Cancelled 3) ≡ []
a_cancel_adds_nothing = refl

pub an_overflow_adds_a_gap : added_by 4 (Some running) effect.Overflowed ≡ item.Gap ∷ []
an_overflow_adds_a_gap = refl

pub what_is_held_is_lost : added_by 4 (Some running) effect.Stopped ≡ item.On ∷ (branch_items ++ item.Stop ∷ []) → ⊥
what_is_held_is_lost = λ e. let a = ap length e in cc
