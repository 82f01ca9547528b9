-- What a core executed since its trace began, and what is changed of it while tracing is on. Which effect changes what is in Effects.antt.
use Rattle.std.specs.Prelude.{ℕ, zero, suc, ◌++◌, Bool, false, not, List, [], ◌∷◌, take, drop, Option, Some, None}
use Rattle.a64_branches.specs.Offsets.{target}
use Rattle.a64_branches.specs.declared.class.Class.{Class}
use Rattle.a64_branches.specs.declared.class.Class.TheVariants as class
use Rattle.etm_types.specs.declared.context.Ctx.{Ctx}
use Rattle.program_image.specs.Blocks.{behind, class_at}
use Rattle.program_image.specs.declared.image.Image.{Image}
use Rattle.spec_run.specs.Steps.{ctx_at, kept, newest, next_behind, pc_at}
use Rattle.spec_run.specs.declared.step.RunStep.{RunStep}
use Rattle.spec_run.specs.declared.step.StepKind.{StepKind}
use Rattle.spec_run.specs.declared.step.StepKind.TheVariants.{Cond}

-- All steps since tracing was turned on at an address: those that are retired, and those behind them that are held, which may still be
-- taken back. The core goes on at the pc, in the context.
pub record Running : Type 0 where
  pub start : ℕ
  pub retired : List RunStep
  pub held : List RunStep
  pub pc : ℕ
  pub ctx : Ctx

-- how tracing ended
pub data Closing : Type 0 where
  ByOverflow : Closing
  ByOff : Closing

-- the retired steps of each time that tracing was on and ended, with how it ended; and of now, where it is on
pub record Execution : Type 0 where
  pub closed : List (List RunStep × Closing)
  pub current : Option Running

abbrev pub at_first : Execution
at_first = record { closed = []; current = None }

-- ---- what each event changes while tracing is on

abbrev pub begins : ℕ → Ctx → Running
begins addr ctx = record { start = addr; retired = []; held = []; pc = addr; ctx = ctx }

-- at depth 0 a step is retired as it is executed
abbrev pub runs : ℕ → Running → RunStep → Ctx → Running
runs zero r s ctx = record r { retired = r.retired ++ s ∷ []; pc = s.next; ctx = ctx }
runs (suc depth) r s ctx = record r { held = r.held ++ s ∷ []; pc = s.next; ctx = ctx }

abbrev pub retires : Running → ℕ → Running
retires r n = record r { retired = r.retired ++ take n r.held; held = drop n r.held }

-- back to the oldest of the steps that are taken back
abbrev pub cancels : Running → ℕ → Running
cancels r n = record r { held = kept n r.held; pc = pc_at r.pc (newest n r.held); ctx = ctx_at r.ctx (newest n r.held) }

-- where a conditional branch goes if it does not go the way that it went
abbrev pub other_next : Option Class → Bool → ℕ → ℕ
other_next (Some (class.Cond offset)) false addr = target addr offset
other_next class taken addr = behind addr 1

abbrev pub turned_kind : StepKind → StepKind
turned_kind (Cond taken) = Cond (not taken)
turned_kind kind = kind

abbrev pub turned_next : Image → StepKind → RunStep → ℕ
turned_next image (Cond taken) s = other_next (class_at image s.addr) taken s.addr
turned_next image kind s = s.next

abbrev pub turned : Image → RunStep → RunStep
turned image s = record s { kind = turned_kind s.kind; next = turned_next image s.kind s }

abbrev pub turn_newest : Image → List RunStep → List RunStep
turn_newest image [] = []
turn_newest image (s ∷ []) = turned image s ∷ []
turn_newest image (s ∷ t ∷ steps) = s ∷ turn_newest image (t ∷ steps)

abbrev pub flips : Image → Running → Running
flips image r = record r { held = turn_newest image r.held; pc = next_behind r.pc (turn_newest image r.held) }

-- what is held is lost
abbrev pub closes : Execution → Running → Closing → Execution
closes x r closing = record { closed = x.closed ++ (r.retired, closing) ∷ []; current = None }
