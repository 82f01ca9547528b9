-- What each event executes, what it does, and what that leaves of a run in which everything is set; each kind of step and each refusal once.
use Rattle.std.proofs.Common.{◌≡◌, ℕ, Bool, true, false, List, [], ◌∷◌, map, Some, None, refl}
use Rattle.std.specs.Prelude.{neg_ℤ, pos}
use Rattle.a64_branches.specs.Classes.{class_of}
use Rattle.a64_branches.specs.declared.class.Class.TheVariants as class
use Rattle.etm_types.specs.declared.context.Ctx.{Ctx}
use Rattle.etm_types.specs.declared.item.Item.TheVariants as item
use Rattle.program_image.specs.Part.{Part}
use Rattle.spec_run.specs.Checks.{Situation, effect_of, executed}
use Rattle.spec_run.specs.Effects.{applied, done_of}
use Rattle.spec_run.specs.FaultNumbers.{fault_number}
use Rattle.spec_run.specs.Kinds.{is_cond, is_isb, is_p0_kind, took_of}
use Rattle.spec_run.specs.RetiredItems.{added_by, retired_of}
use Rattle.spec_run.specs.Runs.{ByOff, ByOverflow, Closing, Execution, Running, turned}
use Rattle.spec_run.specs.Stands.{begun_behind}
use Rattle.spec_run.specs.declared.effect.Effect.TheVariants as effect
use Rattle.spec_run.specs.declared.event.Done.TheVariants as done
use Rattle.spec_run.specs.declared.event.Event.TheVariants as event
use Rattle.spec_run.specs.declared.run_fault.RunFault.{RunFault}
use Rattle.spec_run.specs.declared.run_fault.RunFault.TheVariants as fault
use Rattle.spec_run.specs.declared.step.RunStep.{RunStep}
use Rattle.spec_run.specs.declared.step.StepKind.{StepKind}
use Rattle.spec_run.specs.declared.step.StepKind.TheVariants as kind

abbrev program : Ctx
program = record { el = 0; ns = true; vmid = 5; cid = 7 }

abbrev handler : Ctx
handler = record { el = 1; ns = false; vmid = 6; cid = 8 }

-- ---- kinds of steps, and refusals

abbrev kinds : List StepKind
kinds =
    kind.Plain ∷ kind.Isb ∷ kind.Jump ∷ kind.Cond true ∷ kind.Cond false ∷ kind.Ind true ∷ kind.Ind false ∷ kind.Eret ∷ kind.Exc 3 ∷ []

pub all_but_plain : map is_p0_kind kinds ≡ false ∷ true ∷ true ∷ true ∷ true ∷ true ∷ true ∷ true ∷ true ∷ []
all_but_plain = refl

pub one_isb : map is_isb kinds ≡ false ∷ true ∷ false ∷ false ∷ false ∷ false ∷ false ∷ false ∷ false ∷ []
one_isb = refl

pub two_conditional : map is_cond kinds ≡ false ∷ false ∷ false ∷ true ∷ true ∷ false ∷ false ∷ false ∷ false ∷ []
two_conditional = refl

pub one_taken : map took_of kinds ≡ false ∷ false ∷ false ∷ true ∷ false ∷ false ∷ false ∷ false ∷ false ∷ []
one_taken = refl

abbrev refusals : List RunFault
refusals =
    fault.NotOn ∷ fault.AlreadyOn ∷ fault.WrongKind 0 ∷ fault.NoCode 0 ∷ fault.Odd 0 ∷ fault.Unaligned 0 ∷ fault.TooDeep 0 0
    ∷ fault.RetireTooMany 0 0 ∷ fault.CancelTooMany 0 0 ∷ fault.NoBranchToFlip ∷ fault.ContextPlace ∷ fault.WindowFull ∷ []

pub numbers_of_refusals : map fault_number refusals ≡ 1 ∷ 2 ∷ 3 ∷ 4 ∷ 5 ∷ 6 ∷ 7 ∷ 8 ∷ 9 ∷ 10 ∷ 11 ∷ 12 ∷ []
numbers_of_refusals = refl

-- ---- what is executed at a word of each class

abbrev place : Situation
place = record { held = []; after_isb = false; pc = 0x2000; ctx = program }

abbrev step : StepKind → ℕ → Bool → RunStep
step kind next link = record { addr = 0x2000; ctx = program; kind = kind; next = next; link = link }

pub executed_so :
    executed (Some class.Plain) place event.Step
    ∷ executed (Some class.Isb) place event.Step
    ∷ executed (Some (class.Jump (pos 0x20) false)) place event.Taken
    ∷ executed (Some (class.Jump (neg_ℤ (pos 0x20)) true)) place event.Taken
    ∷ executed (Some (class.Cond (pos 8))) place event.Taken
    ∷ executed (Some (class.Cond (pos 8))) place event.NotTaken
    ∷ executed (Some (class.Ind false)) place (event.To 0x3000)
    ∷ executed (Some (class.Ind true)) place (event.To 0x3000)
    ∷ executed (Some class.Eret) place (event.Eret 0x3000 handler)
    ∷ []
    ≡ Some (step kind.Plain 0x2004 false, program)
    ∷ Some (step kind.Isb 0x2004 false, program)
    ∷ Some (step kind.Jump 0x2020 false, program)
    ∷ Some (step kind.Jump 0x1fe0 true, program)
    ∷ Some (step (kind.Cond true) 0x2008 false, program)
    ∷ Some (step (kind.Cond false) 0x2004 false, program)
    ∷ Some (step (kind.Ind false) 0x3000 false, program)
    ∷ Some (step (kind.Ind true) 0x3000 true, program)
    ∷ Some (step kind.Eret 0x3000 false, handler)
    ∷ []
executed_so = refl

-- an event of another kind executes nothing there, nor does any event at a branch that is not read, or where no code is
pub nothing_executed :
    executed (Some class.Plain) place event.Taken
    ∷ executed (Some class.Isb) place event.NotTaken
    ∷ executed (Some (class.Jump (pos 0x20) false)) place event.Step
    ∷ executed (Some (class.Jump (pos 0x20) false)) place event.NotTaken
    ∷ executed (Some (class.Cond (pos 8))) place event.Step
    ∷ executed (Some (class.Cond (pos 8))) place (event.To 0x3000)
    ∷ executed (Some (class.Ind false)) place event.Taken
    ∷ executed (Some (class.Ind false)) place (event.Eret 0x3000 handler)
    ∷ executed (Some class.Eret) place (event.To 0x3000)
    ∷ executed (Some class.Odd) place event.Step
    ∷ executed None place event.Step
    ∷ []
    ≡ None ∷ None ∷ None ∷ None ∷ None ∷ None ∷ None ∷ None ∷ None ∷ None ∷ None ∷ []
nothing_executed = refl

-- B.EQ to 2008
abbrev code : List Part
code = record { start = 0x2000; bytes = 0x40 ∷ 0x00 ∷ 0x00 ∷ 0x54 ∷ [] } ∷ []

pub done_at_a_branch :
    map (effect_of code (Some place))
    (event.Taken ∷ event.NotTaken ∷ event.Exc 3 0x8000 handler ∷ event.Context handler ∷ event.Retire 2 ∷ event.Cancel 3 ∷ event.Flip ∷ event.Sync
    ∷ event.Overflow ∷ event.Off ∷ [])
    ≡ effect.Ran (step (kind.Cond true) 0x2008 false) program
    ∷ effect.Ran (step (kind.Cond false) 0x2004 false) program
    ∷ effect.Ran (step (kind.Exc 3) 0x8000 false) handler
    ∷ effect.Contexted handler ∷ effect.Retired 2 ∷ effect.Cancelled 3 ∷ effect.Flipped ∷ effect.Synced ∷ effect.Overflowed ∷ effect.Stopped ∷ []
unfolding class_of
done_at_a_branch = refl

pub done_while_off : effect_of code None (event.On 0x2000 handler) ≡ effect.Began 0x2000 handler
done_while_off = refl

-- ---- what each effect leaves

-- a call in the handler, a plain step, the branch and an exception; and one step more
abbrev call : RunStep
call = record { addr = 0x1000; ctx = handler; kind = kind.Jump; next = 0x1ffc; link = true }

abbrev nop : RunStep
nop = record { addr = 0x1ffc; ctx = handler; kind = kind.Plain; next = 0x2000; link = false }

abbrev branch : RunStep
branch = record { addr = 0x2000; ctx = program; kind = kind.Cond true; next = 0x2008; link = false }

abbrev passed : RunStep
passed = record { addr = 0x2000; ctx = program; kind = kind.Cond false; next = 0x2004; link = false }

abbrev exception : RunStep
exception = record { addr = 0x8000; ctx = handler; kind = kind.Exc 3; next = 0x9000; link = false }

abbrev earlier : List (List RunStep × Closing)
earlier = (nop ∷ [], ByOverflow) ∷ (call ∷ [], ByOff) ∷ []

abbrev behind_earlier : Running → Execution
behind_earlier r = record { closed = earlier; current = Some r }

-- a run with closed ones before it, with retired steps and three held ones, whose newest is the branch
abbrev loud : Execution
loud = behind_earlier (record { start = 0x1000; retired = call ∷ nop ∷ []; held = exception ∷ call ∷ branch ∷ []; pc = 0x2008; ctx = program })

-- and the same while tracing is off
abbrev quiet : Execution
quiet = record { closed = earlier; current = None }

pub left_by_each :
    map (applied code 4 loud)
    (effect.Ran exception handler ∷ effect.Contexted handler ∷ effect.Retired 2 ∷ effect.Cancelled 2 ∷ effect.Flipped ∷ effect.Synced
    ∷ effect.Overflowed ∷ effect.Stopped ∷ effect.Began 0x4000 handler ∷ [])
    ≡ behind_earlier
    (record { start = 0x1000; retired = call ∷ nop ∷ []; held = exception ∷ call ∷ branch ∷ exception ∷ []; pc = 0x9000; ctx = handler })
    ∷ behind_earlier (record { start = 0x1000; retired = call ∷ nop ∷ []; held = exception ∷ call ∷ branch ∷ []; pc = 0x2008; ctx = handler })
    ∷ behind_earlier (record { start = 0x1000; retired = call ∷ nop ∷ exception ∷ call ∷ []; held = branch ∷ []; pc = 0x2008; ctx = program })
    ∷ behind_earlier (record { start = 0x1000; retired = call ∷ nop ∷ []; held = exception ∷ []; pc = 0x1000; ctx = handler })
    ∷ behind_earlier (record { start = 0x1000; retired = call ∷ nop ∷ []; held = exception ∷ call ∷ passed ∷ []; pc = 0x2004; ctx = program })
    ∷ loud
    ∷ record { closed = (nop ∷ [], ByOverflow) ∷ (call ∷ [], ByOff) ∷ (call ∷ nop ∷ [], ByOverflow) ∷ []; current = None }
    ∷ record { closed = (nop ∷ [], ByOverflow) ∷ (call ∷ [], ByOff) ∷ (call ∷ nop ∷ [], ByOff) ∷ []; current = None }
    ∷ loud ∷ []
unfolding class_of
left_by_each = refl

-- at depth 0 what is executed is retired behind what was, and at depth 1 it is held
pub retired_at_depth_0 :
    map (λ depth. applied code depth loud (effect.Ran exception handler)) (0 ∷ 1 ∷ [])
    ≡ behind_earlier
    (record { start = 0x1000; retired = call ∷ nop ∷ exception ∷ []; held = exception ∷ call ∷ branch ∷ []; pc = 0x9000; ctx = handler })
    ∷ behind_earlier
    (record { start = 0x1000; retired = call ∷ nop ∷ []; held = exception ∷ call ∷ branch ∷ exception ∷ []; pc = 0x9000; ctx = handler })
    ∷ []
retired_at_depth_0 = refl

-- while tracing is off it can begin, and nothing else
pub left_while_off :
    map (applied code 4 quiet)
    (effect.Began 0x4000 handler ∷ effect.Ran exception handler ∷ effect.Contexted handler ∷ effect.Retired 2 ∷ effect.Cancelled 2 ∷ effect.Flipped
    ∷ effect.Synced ∷ effect.Overflowed ∷ effect.Stopped ∷ [])
    ≡ behind_earlier (record { start = 0x4000; retired = []; held = []; pc = 0x4000; ctx = handler })
    ∷ quiet ∷ quiet ∷ quiet ∷ quiet ∷ quiet ∷ quiet ∷ quiet ∷ quiet ∷ []
left_while_off = refl

-- no step but a conditional branch goes another way
pub turned_each : map (turned code) (call ∷ nop ∷ branch ∷ passed ∷ exception ∷ []) ≡ call ∷ nop ∷ passed ∷ branch ∷ exception ∷ []
unfolding class_of
turned_each = refl

-- P0 steps are counted among those that are retired and taken back
pub answered :
    map (done_of (nop ∷ call ∷ branch ∷ nop ∷ []))
    (effect.Began 0x4000 handler ∷ effect.Ran exception handler ∷ effect.Contexted handler ∷ effect.Retired 3 ∷ effect.Retired 1 ∷ effect.Cancelled 2
    ∷ effect.Cancelled 1 ∷ effect.Flipped ∷ effect.Synced ∷ effect.Overflowed ∷ effect.Stopped ∷ [])
    ≡ done.Began ∷ done.Ran exception ∷ done.Contexted ∷ done.Retired 2 ∷ done.Retired 0 ∷ done.Cancelled 1 ∷ done.Cancelled 0 ∷ done.Flipped
    ∷ done.Synced ∷ done.Overflowed ∷ done.Stopped ∷ []
answered = refl

-- ---- the retired path

-- what was closed is shown first, each with its end
pub shown_in_order :
    retired_of loud
    ≡ item.Gap ∷ item.On ∷ item.Instr 0x1000 handler false ∷ item.Stop ∷ item.On ∷ item.Instr 0x1000 handler false ∷ []
shown_in_order = refl

abbrev running : Running
running = record { start = 0x1000; retired = call ∷ nop ∷ []; held = exception ∷ call ∷ branch ∷ []; pc = 0x2008; ctx = program }

pub added_by_each :
    map (added_by 4 (Some running))
    (effect.Retired 2 ∷ effect.Ran exception handler ∷ effect.Contexted handler ∷ effect.Cancelled 2 ∷ effect.Flipped ∷ effect.Synced ∷ effect.Overflowed
    ∷ effect.Stopped ∷ effect.Began 0x4000 handler ∷ [])
    ≡ (item.Instr 0x1ffc handler false ∷ item.Exc 3 0x8000 ∷ item.Instr 0x1000 handler false ∷ []) ∷ [] ∷ [] ∷ [] ∷ [] ∷ [] ∷ (item.Gap ∷ [])
    ∷ (item.Stop ∷ []) ∷ [] ∷ []
added_by_each = refl

pub added_at_depth_0 :
    map (λ depth. added_by depth (Some running) (effect.Ran exception handler)) (0 ∷ 1 ∷ [])
    ≡ (item.Instr 0x1ffc handler false ∷ item.Exc 3 0x8000 ∷ []) ∷ [] ∷ []
added_at_depth_0 = refl

pub added_while_off :
    map (added_by 0 None) (effect.Retired 0 ∷ effect.Ran exception handler ∷ effect.Overflowed ∷ effect.Stopped ∷ []) ≡ [] ∷ [] ∷ [] ∷ [] ∷ []
added_while_off = refl

-- what is begun behind a P0 step and behind a plain one, at the first step of a block and later
pub begun_so :
    begun_behind (record { first = true; start = 0x1ff8; plain = 1; ctx = handler }) branch
    ∷ begun_behind (record { first = true; start = 0x1ff8; plain = 1; ctx = handler }) nop
    ∷ begun_behind (record { first = false; start = 0x1000; plain = 0; ctx = program }) nop
    ∷ []
    ≡ record { first = false; start = 0x1ff8; plain = 0; ctx = handler }
    ∷ record { first = true; start = 0x1ff8; plain = 2; ctx = handler }
    ∷ record { first = false; start = 0x1ffc; plain = 1; ctx = handler }
    ∷ []
begun_so = refl
