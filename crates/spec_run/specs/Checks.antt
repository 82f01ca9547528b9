-- What a run asks of an event, and what the event does.
use Rattle.std.specs.Prelude.{ℕ, zero, suc, ◌+◌, ◌%◌, ◌==◌, nat_le, nat_lt, Bool, true, false, List, [], length, Option, Some, None}
use Rattle.a64_branches.specs.Offsets.{target}
use Rattle.a64_branches.specs.declared.class.Class.{Class}
use Rattle.a64_branches.specs.declared.class.Class.TheVariants as class
use Rattle.etm_types.specs.declared.context.Ctx.{Ctx}
use Rattle.program_image.specs.Blocks.{behind, class_at}
use Rattle.program_image.specs.declared.image.Image.{Image}
use Rattle.spec_run.specs.Runs.{Running}
use Rattle.spec_run.specs.Steps.{ends_in_cond, ends_in_isb, isb_behind, is_p0, p0s}
use Rattle.spec_run.specs.declared.effect.Effect.{Effect}
use Rattle.spec_run.specs.declared.effect.Effect.TheVariants as effect
use Rattle.spec_run.specs.declared.event.Event.{Event}
use Rattle.spec_run.specs.declared.event.Event.TheVariants as event
use Rattle.spec_run.specs.declared.run_fault.RunFault.{RunFault}
use Rattle.spec_run.specs.declared.run_fault.RunFault.TheVariants as fault
use Rattle.spec_run.specs.declared.step.RunStep.{RunStep}
use Rattle.spec_run.specs.declared.step.StepKind.{StepKind}
use Rattle.spec_run.specs.declared.step.StepKind.TheVariants.{Plain, Isb, Jump, Cond, Ind, Eret, Exc}

-- what an event looks at: the steps that are held, whether the newest retired step is an ISB, the pc and the context
pub record Situation : Type 0 where
  pub held : List RunStep
  pub after_isb : Bool
  pub pc : ℕ
  pub ctx : Ctx

abbrev pub place_of : Running → Situation
place_of r = record { held = r.held; after_isb = ends_in_isb r.retired; pc = r.pc; ctx = r.ctx }

abbrev pub held_at : Option Situation → List RunStep
held_at None = []
held_at (Some p) = p.held

-- ---- checks

-- the first of two checks that fails
abbrev pub or_else : Option RunFault → Option RunFault → Option RunFault
or_else None other = other
or_else (Some fault) other = Some fault

abbrev pub unless : Bool → RunFault → Option RunFault
unless true fault = None
unless false fault = Some fault

abbrev pub aligned_fault : ℕ → Option RunFault
aligned_fault addr = unless (addr % 4 == 0) (fault.Unaligned addr)

-- so many steps are held at most
abbrev pub window : ℕ
window = 65535

-- a P0 step that would make more P0 steps held than the depth; at depth 0 none is held
abbrev pub depth_fault : ℕ → Bool → ℕ → Option RunFault
depth_fault zero p0 held = None
depth_fault (suc depth) true held = unless (nat_le (held + 1) (suc depth)) (fault.TooDeep (held + 1) (suc depth))
depth_fault (suc depth) false held = None

-- one step more, where there is room for it
abbrev pub room_fault : ℕ → List RunStep → RunStep → Option RunFault
room_fault depth held s = or_else (depth_fault depth (is_p0 s) (p0s held)) (unless (nat_lt (length held) window) fault.WindowFull)

-- ---- steps

abbrev pub step_at : Situation → StepKind → ℕ → Bool → RunStep
step_at p kind next link = record { addr = p.pc; ctx = p.ctx; kind = kind; next = next; link = link }

-- the step that an event executes, by the class of the word at the pc, and the context behind it; none where the event is of another kind
abbrev pub executed : Option Class → Situation → Event → Option (RunStep × Ctx)
executed (Some class.Plain) p event.Step = Some (step_at p Plain (behind p.pc 1) false, p.ctx)
executed (Some class.Isb) p event.Step = Some (step_at p Isb (behind p.pc 1) false, p.ctx)
executed (Some (class.Jump offset link)) p event.Taken = Some (step_at p Jump (target p.pc offset) link, p.ctx)
executed (Some (class.Cond offset)) p event.Taken = Some (step_at p (Cond true) (target p.pc offset) false, p.ctx)
executed (Some (class.Cond offset)) p event.NotTaken = Some (step_at p (Cond false) (behind p.pc 1) false, p.ctx)
executed (Some (class.Ind link)) p (event.To addr) = Some (step_at p (Ind link) addr link, p.ctx)
executed (Some class.Eret) p (event.Eret addr ctx) = Some (step_at p Eret addr false, ctx)
executed class p e = None

-- an exception looks at no word
abbrev pub exception_at : Situation → ℕ → ℕ → RunStep
exception_at p kind addr = step_at p (Exc kind) addr false

abbrev pub word_fault : Option Class → ℕ → Option RunFault
word_fault None pc = Some (fault.NoCode pc)
word_fault (Some class.Odd) pc = Some (fault.Odd pc)
word_fault class pc = None

-- where an event gives an address to go to
abbrev pub aim_fault : Event → Option RunFault
aim_fault (event.To addr) = aligned_fault addr
aim_fault (event.Eret addr ctx) = aligned_fault addr
aim_fault e = None

abbrev pub executed_fault : ℕ → Situation → Event → Option (RunStep × Ctx) → Option RunFault
executed_fault depth p e None = Some (fault.WrongKind p.pc)
executed_fault depth p e (Some step) = or_else (aim_fault e) (room_fault depth p.held step.0)

abbrev pub step_fault : ℕ → Option Class → Situation → Event → Option RunFault
step_fault depth class p e = or_else (word_fault class p.pc) (executed_fault depth p e (executed class p e))

-- ---- the table of events

-- what an event asks at a depth, as the first check that fails; and what it does that passes them: of another this says nothing
pub record Row : Type 0 where
  pub fault : ℕ → Option RunFault
  pub effect : Effect

abbrev pub row : Option RunFault → Effect → Row
row fault effect = record { fault = λ depth. fault; effect = effect }

abbrev pub refused : RunFault → Row
refused fault = row (Some fault) effect.Synced

-- a step that looks at the word at the pc
abbrev pub ran_by : Option (RunStep × Ctx) → Effect
ran_by (Some step) = effect.Ran step.0 step.1
ran_by None = effect.Synced

abbrev pub step_row : Option Class → Situation → Event → Row
step_row class p e = record { fault = λ depth. step_fault depth class p e; effect = ran_by (executed class p e) }

-- a step that looks at no word
abbrev pub exception_row : Situation → ℕ → ℕ → Ctx → Row
exception_row p kind addr ctx =
    record {
      fault = λ depth. or_else (aligned_fault addr) (room_fault depth p.held (exception_at p kind addr));
      effect = effect.Ran (exception_at p kind addr) ctx;
    }

-- each event, where tracing is off and where it is on
abbrev pub row_of : Image → Option Situation → Event → Row
row_of image None (event.On addr ctx) = row (aligned_fault addr) (effect.Began addr ctx)
row_of image None e = refused fault.NotOn
row_of image (Some p) (event.On addr ctx) = refused fault.AlreadyOn
row_of image (Some p) (event.Exc kind addr ctx) = exception_row p kind addr ctx
row_of image (Some p) (event.Context ctx) = row (unless (isb_behind p.after_isb p.held) fault.ContextPlace) (effect.Contexted ctx)
row_of image (Some p) (event.Retire n) = row (unless (nat_le n (length p.held)) (fault.RetireTooMany n (length p.held))) (effect.Retired n)
row_of image (Some p) (event.Cancel n) = row (unless (nat_le n (length p.held)) (fault.CancelTooMany n (length p.held))) (effect.Cancelled n)
row_of image (Some p) event.Flip = row (unless (ends_in_cond p.held) fault.NoBranchToFlip) effect.Flipped
row_of image (Some p) event.Sync = row None effect.Synced
row_of image (Some p) event.Overflow = row None effect.Overflowed
row_of image (Some p) event.Off = row None effect.Stopped
row_of image (Some p) e = step_row (class_at image p.pc) p e

-- the first check of an event that fails
abbrev pub check : Image → ℕ → Option Situation → Event → Option RunFault
check image depth p e = (row_of image p e).fault depth

-- what an event does that passes its checks
abbrev pub effect_of : Image → Option Situation → Event → Effect
effect_of image p e = (row_of image p e).effect
