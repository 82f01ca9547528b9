-- Events over a small image, each beside what a wrong rule would say.
use Rattle.std.proofs.Common.{◌≡◌, ℕ, true, false, List, [], ◌∷◌, ◌++◌, length, Option, Some, None, Result, Ok, Err, ap, arith, refl, sym, ◌∙◌}
use Rattle.std.specs.Prelude.{nat_lt}
use Rattle.a64_branches.specs.Classes.{class_of}
use Rattle.etm_types.specs.declared.context.Ctx.{Ctx}
use Rattle.program_image.specs.Part.{Part}
use Rattle.spec_run.specs.Checks.{Situation, check, effect_of, room_fault, unless, window}
use Rattle.spec_run.specs.FaultNumbers.{fault_number}
use Rattle.spec_run.specs.RunAfter.{run_after}
use Rattle.spec_run.specs.Runs.{ByOff, ByOverflow, Execution, Running}
use Rattle.spec_run.specs.Steps.{p0s}
use Rattle.spec_run.specs.declared.effect.Effect.{Effect}
use Rattle.spec_run.specs.declared.effect.Effect.TheVariants.{Ran}
use Rattle.spec_run.specs.declared.event.Event.{Event}
use Rattle.spec_run.specs.declared.event.Event.TheVariants.{On, Step, Taken, NotTaken, To, Context, Retire, Cancel, Flip, Sync, Overflow, Off}
use Rattle.spec_run.specs.declared.event.Event.TheVariants as event
use Rattle.spec_run.specs.declared.run_fault.RunFault.{RunFault}
use Rattle.spec_run.specs.declared.run_fault.RunFault.TheVariants.{NotOn, AlreadyOn, WrongKind, NoCode, Odd, Unaligned, TooDeep}
use Rattle.spec_run.specs.declared.run_fault.RunFault.TheVariants.{RetireTooMany, CancelTooMany, NoBranchToFlip, ContextPlace, WindowFull}
use Rattle.spec_run.specs.declared.step.RunStep.{RunStep}
use Rattle.spec_run.specs.declared.step.StepKind.{StepKind}
use Rattle.spec_run.specs.declared.step.StepKind.TheVariants as kind

-- ---- the image, contexts and steps

-- from 0x1000: NOP, ISB, B.EQ to 0x1010, BL to 0x1000, BR, ERET, DRPS
abbrev code : List Part
code =
    record {
      start = 0x1000;
      bytes = 0x1f ∷ 0x20 ∷ 0x03 ∷ 0xd5 ∷ 0xdf ∷ 0x3f ∷ 0x03 ∷ 0xd5 ∷ 0x40 ∷ 0x00 ∷ 0x00 ∷ 0x54 ∷ 0xfd ∷ 0xff ∷ 0xff ∷ 0x97 ∷ 0x00 ∷ 0x00 ∷ 0x1f ∷ 0xd6
          ∷ 0xe0 ∷ 0x03 ∷ 0x9f ∷ 0xd6 ∷ 0xe0 ∷ 0x03 ∷ 0xbf ∷ 0xd6 ∷ [];
    }
    ∷ []

abbrev program : Ctx
program = record { el = 0; ns = true; vmid = 5; cid = 7 }

abbrev handler : Ctx
handler = record { el = 1; ns = true; vmid = 5; cid = 7 }

abbrev step : ℕ → Ctx → StepKind → ℕ → RunStep
step addr ctx kind next = record { addr = addr; ctx = ctx; kind = kind; next = next; link = false }

abbrev nop : RunStep
nop = step 0x1000 program kind.Plain 0x1004

abbrev isb : RunStep
isb = step 0x1004 program kind.Isb 0x1008

abbrev taken : Ctx → RunStep
taken ctx = step 0x1008 ctx (kind.Cond true) 0x1010

abbrev not_taken : Ctx → RunStep
not_taken ctx = step 0x1008 ctx (kind.Cond false) 0x100c

abbrev call : RunStep
call = record { addr = 0x100c; ctx = program; kind = kind.Jump; next = 0x1000; link = true }

-- at a pc with these steps held, none retired
abbrev at : ℕ → List RunStep → Option Situation
at pc held = Some (record { held = held; after_isb = false; pc = pc; ctx = program })

abbrev running : ℕ → List RunStep → List RunStep → ℕ → Ctx → Result Execution (ℕ × RunFault)
running start retired held pc ctx =
    Ok (record { closed = []; current = Some (record { start = start; retired = retired; held = held; pc = pc; ctx = ctx }) })

-- what a near miss would have otherwise: a pc, or an exception level
abbrev pc_at : Option Running → ℕ
pc_at None = 0
pc_at (Some r) = r.pc

abbrev pc_of : Result Execution (ℕ × RunFault) → ℕ
pc_of (Ok x) = pc_at x.current
pc_of (Err refusal) = 0

abbrev level_at : Option Running → ℕ
level_at None = 0
level_at (Some r) = (r.ctx).el

abbrev level_of : Result Execution (ℕ × RunFault) → ℕ
level_of (Ok x) = level_at x.current
level_of (Err refusal) = 0

abbrev refusal : Option RunFault → ℕ
refusal None = 0
refusal (Some fault) = fault_number fault

abbrev level_in : Effect → ℕ
level_in (Ran s ctx) = (s.ctx).el
level_in does = 0

abbrev next_in : Effect → ℕ
next_in (Ran s ctx) = s.next
next_in does = 0

-- ---- each refusal, and one that is tested after it

off_before_unaligned : check code 1 None (To 2) ≡ Some NotOn
off_before_unaligned = refl

off_before_held : check code 1 None (Retire 1) ≡ Some NotOn
off_before_held = refl

nothing_to_ask_while_off : check code 1 None Sync ≡ Some NotOn
nothing_to_ask_while_off = refl

on_before_unaligned : check code 1 (at 0x1000 []) (On 2 program) ≡ Some AlreadyOn
on_before_unaligned = refl

on_unaligned : check code 1 None (On 2 program) ≡ Some (Unaligned 2)
on_unaligned = refl

-- no word is looked at
on_where_no_code_is : check code 1 None (On 0x2000 program) ≡ None
on_where_no_code_is = refl

no_code_before_unaligned : check code 1 (at 0x101c (isb ∷ [])) (To 2) ≡ Some (NoCode 0x101c)
unfolding class_of
no_code_before_unaligned = refl

no_word_begins_there : check code 1 (at 0x1002 []) Step ≡ Some (NoCode 0x1002)
unfolding class_of
no_word_begins_there = refl

odd_before_wrong_kind : check code 1 (at 0x1018 []) (To 2) ≡ Some (Odd 0x1018)
unfolding class_of
odd_before_wrong_kind = refl

wrong_kind_before_unaligned : check code 1 (at 0x1000 []) (To 2) ≡ Some (WrongKind 0x1000)
unfolding class_of
wrong_kind_before_unaligned = refl

no_step_over_a_branch : check code 1 (at 0x1008 []) Step ≡ Some (WrongKind 0x1008)
unfolding class_of
no_step_over_a_branch = refl

a_jump_is_taken : check code 1 (at 0x100c []) NotTaken ≡ Some (WrongKind 0x100c)
unfolding class_of
a_jump_is_taken = refl

an_eret_gives_a_context : check code 1 (at 0x1014 []) (To 0x1000) ≡ Some (WrongKind 0x1014)
unfolding class_of
an_eret_gives_a_context = refl

unaligned_before_too_deep : check code 1 (at 0x1010 (isb ∷ [])) (To 2) ≡ Some (Unaligned 2)
unfolding class_of
unaligned_before_too_deep = refl

not_too_deep_at_first : check code 1 (at 0x1010 (isb ∷ [])) (To 2) ≡ Some (TooDeep 2 1) → ⊥
not_too_deep_at_first e = let differ : 6 ≡ 7 = sym (ap refusal unaligned_before_too_deep) ∙ ap refusal e in omega (arith, differ)

eret_unaligned_before_too_deep : check code 1 (at 0x1014 (isb ∷ [])) (event.Eret 0x1001 handler) ≡ Some (Unaligned 0x1001)
unfolding class_of
eret_unaligned_before_too_deep = refl

exception_unaligned_before_too_deep : check code 1 (at 0x1010 (isb ∷ [])) (event.Exc 3 2 handler) ≡ Some (Unaligned 2)
exception_unaligned_before_too_deep = refl

an_exception_looks_at_no_word : check code 1 (at 0x2002 []) (event.Exc 3 0x4000 handler) ≡ None
an_exception_looks_at_no_word = refl

-- ---- depth and window

too_deep : check code 1 (at 0x1010 (isb ∷ [])) (To 0x1000) ≡ Some (TooDeep 2 1)
unfolding class_of
too_deep = refl

an_exception_too_deep : check code 1 (at 0x2000 (isb ∷ [])) (event.Exc 3 0x4000 handler) ≡ Some (TooDeep 2 1)
an_exception_too_deep = refl

an_isb_too_deep : check code 1 (at 0x1004 (call ∷ nop ∷ [])) Step ≡ Some (TooDeep 2 1)
unfolding class_of
an_isb_too_deep = refl

a_plain_step_is_never_too_deep : check code 1 (at 0x1000 (call ∷ [])) Step ≡ None
unfolding class_of
a_plain_step_is_never_too_deep = refl

a_plain_step_is_not_too_deep_at_the_depth : check code 1 (at 0x1000 (call ∷ [])) Step ≡ Some (TooDeep 2 1) → ⊥
a_plain_step_is_not_too_deep_at_the_depth e = let differ : 0 ≡ 7 = sym (ap refusal a_plain_step_is_never_too_deep) ∙ ap refusal e in omega (arith, differ)

plain_steps_do_not_count : check code 1 (at 0x1004 (nop ∷ nop ∷ [])) Step ≡ None
unfolding class_of
plain_steps_do_not_count = refl

at_depth_0_none_is_too_deep : (held : List RunStep) (s : RunStep) → room_fault 0 held s
    ≡ unless (nat_lt (length held) window) WindowFull
at_depth_0_none_is_too_deep held s = refl

too_deep_before_window_full : (held : List RunStep) → length held ≡ 65535 → p0s held ≡ 4 → check code 4 (at 0x1008 held) Taken ≡ Some (TooDeep 5 4)
unfolding class_of
too_deep_before_window_full held full p0 = rw p0 refl

window_full : (held : List RunStep) → length held ≡ 65535 → check code 4 (at 0x1000 held) Step ≡ Some WindowFull
unfolding class_of
window_full held full = rw full refl

room_for_one : (held : List RunStep) → length held ≡ 65534 → check code 4 (at 0x1000 held) Step ≡ None
unfolding class_of
room_for_one held full = rw full refl

-- ---- what is asked of the steps that are held

no_more_retired_than_held : check code 4 (at 0x1008 (nop ∷ isb ∷ [])) (Retire 3) ≡ Some (RetireTooMany 3 2)
no_more_retired_than_held = refl

all_may_be_retired : check code 4 (at 0x1008 (nop ∷ isb ∷ [])) (Retire 2) ≡ None
all_may_be_retired = refl

no_more_cancelled_than_held : check code 4 (at 0x1008 (nop ∷ isb ∷ [])) (Cancel 3) ≡ Some (CancelTooMany 3 2)
no_more_cancelled_than_held = refl

an_older_branch_is_not_flipped : check code 4 (at 0x1000 (not_taken program ∷ call ∷ [])) Flip ≡ Some NoBranchToFlip
an_older_branch_is_not_flipped = refl

none_to_flip : check code 4 (at 0x1000 []) Flip ≡ Some NoBranchToFlip
none_to_flip = refl

the_newest_is_flipped : check code 4 (at 0x1010 (isb ∷ taken program ∷ [])) Flip ≡ None
the_newest_is_flipped = refl

no_branch_but_the_newest_is_flipped : check code 4 (at 0x1000 (not_taken program ∷ call ∷ [])) Flip ≡ None → ⊥
no_branch_but_the_newest_is_flipped e =
    let differ : 10 ≡ 0 = sym (ap refusal an_older_branch_is_not_flipped) ∙ ap refusal e in omega (arith, differ)

an_older_isb_is_no_place : check code 4 (at 0x1010 (isb ∷ taken program ∷ [])) (Context handler) ≡ Some ContextPlace
an_older_isb_is_no_place = refl

-- ---- what an event executes

an_exception_interrupts_a_context : effect_of code (at 0x1010 []) (event.Exc 3 0x4000 handler) ≡ Ran (step 0x1010 program (kind.Exc 3) 0x4000) handler
an_exception_interrupts_a_context = refl

not_its_own_context : effect_of code (at 0x1010 []) (event.Exc 3 0x4000 handler) ≡ Ran (step 0x1010 handler (kind.Exc 3) 0x4000) handler → ⊥
not_its_own_context e = let differ : 0 ≡ 1 = sym (ap level_in an_exception_interrupts_a_context) ∙ ap level_in e in omega (arith, differ)

an_eret_is_executed_in_the_old_context : effect_of code (at 0x1014 []) (event.Eret 0x1000 handler) ≡ Ran (step 0x1014 program kind.Eret 0x1000) handler
unfolding class_of
an_eret_is_executed_in_the_old_context = refl

a_call_links : effect_of code (at 0x100c []) Taken ≡ Ran call program
unfolding class_of
a_call_links = refl

a_branch_that_goes_on : effect_of code (at 0x1008 []) NotTaken ≡ Ran (not_taken program) program
unfolding class_of
a_branch_that_goes_on = refl

not_to_its_target : effect_of code (at 0x1008 []) NotTaken ≡ Ran (step 0x1008 program (kind.Cond false) 0x1010) program → ⊥
not_to_its_target e = let differ : 0x100c ≡ 0x1010 = sym (ap next_in a_branch_that_goes_on) ∙ ap next_in e in omega (arith, differ)

-- ---- lists of events

-- an ISB, the context changed behind it, and a branch there
abbrev front : List Event
front = On 0x1000 program ∷ Step ∷ Step ∷ Context handler ∷ Taken ∷ []

executed : run_after code 4 front ≡ running 0x1000 [] (nop ∷ isb ∷ taken handler ∷ []) 0x1010 handler
unfolding class_of
executed = refl

retire_0_changes_nothing : run_after code 4 (front ++ Retire 0 ∷ []) ≡ run_after code 4 front
unfolding class_of
retire_0_changes_nothing = refl

cancel_0_changes_nothing : run_after code 4 (front ++ Cancel 0 ∷ []) ≡ run_after code 4 front
unfolding class_of
cancel_0_changes_nothing = refl

retired : run_after code 4 (front ++ Retire 2 ∷ []) ≡ running 0x1000 (nop ∷ isb ∷ []) (taken handler ∷ []) 0x1010 handler
unfolding class_of
retired = refl

-- back to pc and context of the oldest of the two
cancelled : run_after code 4 (front ++ Cancel 2 ∷ []) ≡ running 0x1000 [] (nop ∷ []) 0x1004 program
unfolding class_of
cancelled = refl

the_pc_does_not_stay : run_after code 4 (front ++ Cancel 2 ∷ []) ≡ running 0x1000 [] (nop ∷ []) 0x1010 program → ⊥
the_pc_does_not_stay e = let differ : 0x1004 ≡ 0x1010 = sym (ap pc_of cancelled) ∙ ap pc_of e in omega (arith, differ)

the_context_does_not_stay : run_after code 4 (front ++ Cancel 2 ∷ []) ≡ running 0x1000 [] (nop ∷ []) 0x1004 handler → ⊥
the_context_does_not_stay e = let differ : 0 ≡ 1 = sym (ap level_of cancelled) ∙ ap level_of e in omega (arith, differ)

not_to_the_newest_that_went : run_after code 4 (front ++ Cancel 2 ∷ []) ≡ running 0x1000 [] (nop ∷ []) 0x1008 handler → ⊥
not_to_the_newest_that_went e = let differ : 0x1004 ≡ 0x1008 = sym (ap pc_of cancelled) ∙ ap pc_of e in omega (arith, differ)

-- the context that was changed stays where the ISB stays
cancelled_behind_the_change : run_after code 4 (front ++ Cancel 1 ∷ []) ≡ running 0x1000 [] (nop ∷ isb ∷ []) 0x1008 handler
unfolding class_of
cancelled_behind_the_change = refl

flipped : run_after code 4 (front ++ Flip ∷ []) ≡ running 0x1000 [] (nop ∷ isb ∷ not_taken handler ∷ []) 0x100c handler
unfolding class_of
flipped = refl

flipped_back : run_after code 4 (front ++ Flip ∷ Flip ∷ []) ≡ run_after code 4 front
unfolding class_of
flipped_back = refl

the_pc_is_flipped_too : run_after code 4 (front ++ Flip ∷ []) ≡ running 0x1000 [] (nop ∷ isb ∷ not_taken handler ∷ []) 0x1010 handler → ⊥
the_pc_is_flipped_too e = let differ : 0x100c ≡ 0x1010 = sym (ap pc_of flipped) ∙ ap pc_of e in omega (arith, differ)

a_retired_branch_is_not_flipped : run_after code 4 (front ++ Retire 3 ∷ Flip ∷ []) ≡ Err (6, NoBranchToFlip)
unfolding class_of
a_retired_branch_is_not_flipped = refl

the_first_refusal_is_told : run_after code 4 (front ++ Retire 4 ∷ Cancel 4 ∷ []) ≡ Err (5, RetireTooMany 4 3)
unfolding class_of
the_first_refusal_is_told = refl

-- the newest step, retired or not
context_behind_a_retired_isb : run_after code 4 (On 0x1000 program ∷ Step ∷ Step ∷ Retire 2 ∷ Context handler ∷ [])
    ≡ running 0x1000 (nop ∷ isb ∷ []) [] 0x1008 handler
unfolding class_of
context_behind_a_retired_isb = refl

context_after_a_cancel_to_a_retired_isb : run_after code 4 (front ++ Retire 2 ∷ Cancel 1 ∷ Context program ∷ [])
    ≡ running 0x1000 (nop ∷ isb ∷ []) [] 0x1008 program
unfolding class_of
context_after_a_cancel_to_a_retired_isb = refl

context_after_a_cancel_to_an_isb : run_after code 4 (front ++ Cancel 1 ∷ Context program ∷ []) ≡ running 0x1000 [] (nop ∷ isb ∷ []) 0x1008 program
unfolding class_of
context_after_a_cancel_to_an_isb = refl

no_context_at_first : run_after code 4 (On 0x1000 program ∷ Context handler ∷ []) ≡ Err (1, ContextPlace)
unfolding class_of
no_context_at_first = refl

no_context_behind_a_plain_step : run_after code 4 (On 0x1000 program ∷ Step ∷ Context handler ∷ []) ≡ Err (2, ContextPlace)
unfolding class_of
no_context_behind_a_plain_step = refl

no_context_behind_a_closed_isb : run_after code 4 (On 0x1000 program ∷ Step ∷ Step ∷ Retire 2 ∷ Off ∷ On 0x1000 program ∷ Context handler ∷ [])
    ≡ Err (6, ContextPlace)
unfolding class_of
no_context_behind_a_closed_isb = refl

an_exception_is_taken_back : run_after code 4 (On 0x1008 program ∷ Taken ∷ event.Exc 3 0x2000 handler ∷ Cancel 1 ∷ [])
    ≡ running 0x1008 [] (taken program ∷ []) 0x1010 program
unfolding class_of
an_exception_is_taken_back = refl

-- a retire makes room for P0 steps
retired_room : run_after code 1 (On 0x1004 program ∷ Step ∷ Retire 1 ∷ NotTaken ∷ Taken ∷ []) ≡ Err (4, TooDeep 2 1)
unfolding class_of
retired_room = refl

what_is_held_is_lost : run_after code 4 (front ++ Retire 2 ∷ Overflow ∷ On 0x1000 handler ∷ Step ∷ Off ∷ [])
    ≡ Ok (record { closed = (nop ∷ isb ∷ [], ByOverflow) ∷ ([], ByOff) ∷ []; current = None })
unfolding class_of
what_is_held_is_lost = refl

-- ---- depth 0: each step is retired as it is executed

retired_at_once : run_after code 0 (On 0x1004 program ∷ Step ∷ NotTaken ∷ Taken ∷ Step ∷ [])
    ≡ running 0x1004 (isb ∷ not_taken program ∷ call ∷ nop ∷ []) [] 0x1004 program
unfolding class_of
retired_at_once = refl

none_left_to_retire : run_after code 0 (On 0x1004 program ∷ Step ∷ Retire 1 ∷ []) ≡ Err (2, RetireTooMany 1 0)
unfolding class_of
none_left_to_retire = refl

none_left_to_cancel : run_after code 0 (On 0x1004 program ∷ Step ∷ Cancel 1 ∷ []) ≡ Err (2, CancelTooMany 1 0)
unfolding class_of
none_left_to_cancel = refl

none_left_to_flip : run_after code 0 (On 0x1008 program ∷ Taken ∷ Flip ∷ []) ≡ Err (2, NoBranchToFlip)
unfolding class_of
none_left_to_flip = refl

context_at_depth_0 : run_after code 0 (On 0x1004 program ∷ Step ∷ Context handler ∷ []) ≡ running 0x1004 (isb ∷ []) [] 0x1008 handler
unfolding class_of
context_at_depth_0 = refl
