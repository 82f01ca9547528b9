-- Steps that an image allows, one behind the other.
use Rattle.std.specs.Prelude.{◌≡◌, ℕ, ◌<◌, ◌%◌, ◌^◌, true, false, List, [], ◌∷◌, ◌++◌, Option, Some, None, ⊤}
use Rattle.a64_branches.specs.Offsets.{target}
use Rattle.a64_branches.specs.declared.class.Class.TheVariants as class
use Rattle.etm_types.specs.declared.context.Ctx.{Ctx}
use Rattle.program_image.specs.Blocks.{behind, class_at}
use Rattle.program_image.specs.declared.image.Image.{Image}
use Rattle.spec_run.specs.Blocks.{BegunBlock, begun, fresh, grown}
use Rattle.spec_run.specs.Runs.{Closing, Running}
use Rattle.spec_run.specs.declared.step.RunStep.{RunStep}
use Rattle.spec_run.specs.declared.step.StepKind.{StepKind}
use Rattle.spec_run.specs.declared.step.StepKind.TheVariants.{Plain, Isb, Jump, Cond, Ind, Eret, Exc}

-- what a step does is what the word at its address does
abbrev pub Executes : Image → StepKind → RunStep → Type 0
Executes image Plain s = (class_at image s.addr ≡ Some class.Plain) × (s.next ≡ behind s.addr 1) × (s.link ≡ false)
Executes image Isb s = (class_at image s.addr ≡ Some class.Isb) × (s.next ≡ behind s.addr 1) × (s.link ≡ false)
Executes image Jump s = (offset : _) × (class_at image s.addr ≡ Some (class.Jump offset s.link)) × (s.next ≡ target s.addr offset)
Executes image (Cond true) s = (offset : _) × (class_at image s.addr ≡ Some (class.Cond offset)) × (s.next ≡ target s.addr offset) × (s.link ≡ false)
Executes image (Cond false) s = (offset : _) × (class_at image s.addr ≡ Some (class.Cond offset)) × (s.next ≡ behind s.addr 1) × (s.link ≡ false)
Executes image (Ind link) s = (class_at image s.addr ≡ Some (class.Ind link)) × (s.link ≡ link)
Executes image Eret s = (class_at image s.addr ≡ Some class.Eret) × (s.link ≡ false)
Executes image (Exc kind) s = s.link ≡ false

-- an address at which an instruction may stand
abbrev pub IsPlace : ℕ → Type 0
IsPlace address = (address < 2 ^ 64) × (address % 4 ≡ 0)

-- The step goes on the begun block: it stands behind its plain steps, in their context where there are any.
pub record IsStep (image : Image) (o : BegunBlock) (context : Ctx) (s : RunStep) : Type 0 where
  pub there : s.addr ≡ behind o.start o.plain
  pub same : 0 < o.plain → s.ctx ≡ context
  pub does : Executes image s.kind s
  pub next : IsPlace s.next

abbrev pub AreSteps : Image → BegunBlock → Ctx → List RunStep → Type 0
AreSteps image o context [] = ⊤
AreSteps image o context (s ∷ steps) = IsStep image o context s × AreSteps image (grown o s) s.ctx steps

abbrev pub context_behind : Ctx → List RunStep → Ctx
context_behind context [] = context
context_behind context (s ∷ steps) = context_behind s.ctx steps

-- steps from where tracing was turned on
pub record IsStretch (image : Image) (steps : List RunStep) : Type 0 where
  pub start : ℕ
  pub first : Ctx
  pub place : IsPlace start
  pub are : AreSteps image (fresh start) first steps

-- All steps since tracing was turned on, and the core goes on behind them: in their context, where the begun block has a step.
pub record IsRunning (image : Image) (r : Running) : Type 0 where
  pub first : Ctx
  pub place : IsPlace r.start
  pub are : AreSteps image (fresh r.start) first (r.retired ++ r.held)
  pub pc : r.pc ≡ behind (begun (fresh r.start) (r.retired ++ r.held)).start (begun (fresh r.start) (r.retired ++ r.held)).plain
  pub ctx : 0 < (begun (fresh r.start) (r.retired ++ r.held)).plain → r.ctx ≡ context_behind first (r.retired ++ r.held)

abbrev pub IsRunningBy : Image → Option Running → Type 0
IsRunningBy image None = ⊤
IsRunningBy image (Some r) = IsRunning image r

abbrev pub AreStretches : Image → List (List RunStep × Closing) → Type 0
AreStretches image [] = ⊤
AreStretches image (c ∷ closed) = IsStretch image c.0 × AreStretches image closed
