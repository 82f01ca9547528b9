-- The blocks of steps that an image allows are blocks that it allows.
use Rattle.std.proofs.Common.{◌≡◌, ℕ, ◌+◌, ◌^◌, ◌<◌, List, [], ◌∷◌, Some, subst, inl, inr, arith}
use Rattle.std.proofs.lemmas.Bool.{cases_lt}
use Rattle.std.specs.Prelude.{◌≢◌, true, ⊤}
use Rattle.a64_branches.specs.declared.class.Class.TheVariants as class
use Rattle.program_image.specs.Blocks.{class_at, behind, IsPlainRun, HasGap}
use Rattle.program_image.specs.declared.image.Image.{Image}
use Rattle.etm_types.specs.declared.context.Ctx.{Ctx}
use Rattle.path_walker.proofs.Gap.{run_short}
use Rattle.spec_run.proofs.StepLists.{bools, plain_kind}
use Rattle.spec_run.specs.Blocks.{BegunBlock, Block, blocks, fresh}
use Rattle.spec_run.specs.Executed.{AreSteps, Executes, IsPlace}
use Rattle.spec_run.specs.Kinds.{is_p0_kind}
use Rattle.spec_run.specs.Steps.{is_p0}
use Rattle.spec_run.specs.declared.step.RunStep.{RunStep}
use Rattle.spec_run.specs.declared.step.StepKind.TheVariants.{Plain}

-- a block that the image allows
pub record IsRunBlock (image : Image) (b : Block) : Type 0 where
  pub run : IsPlainRun image b.start b.plain
  pub there : b.last.addr ≡ behind b.start b.plain
  pub early : (k : ℕ) → k < b.plain → behind b.start k ≢ behind b.start b.plain
  pub ends : is_p0_kind b.last.kind ≡ true
  pub does : Executes image b.last.kind b.last

abbrev pub AreRunBlocks : Image → List Block → Type 0
AreRunBlocks image [] = ⊤
AreRunBlocks image (b ∷ bs) = IsRunBlock image b × AreRunBlocks image bs

-- ---- plain words come to an end before they come round

far : (start k n : ℕ) → k < n → n < 2 ^ 62 → behind start k ≡ behind start n → ⊥
far start k n lt few e = omega (arith, lt, few, e)

comes_early : (image : Image) → HasGap image → (start n : ℕ) → IsPlace start → IsPlainRun image start n → (k : ℕ) → k < n
    → behind start k ≢ behind start n
comes_early image gap start n place run k lt e = far start k n lt (run_short image start n place.1 gap run) e

-- ---- blocks

grows_run : (image : Image) (start n : ℕ) → IsPlainRun image start n → class_at image (behind start n) ≡ Some class.Plain → IsPlainRun image start (n + 1)
grows_run image start n run here k lt = elim (cases_lt k n) [
  | inl l ↦ run k l
  | inr g ↦ subst (λ m. class_at image (behind start m) ≡ Some class.Plain) (omega (arith, lt, g)) here
]

no_run : (image : Image) (start : ℕ) → IsPlainRun image start 0
no_run image start k lt = absurd (omega (arith, lt))

pub run_blocks : (image : Image) → HasGap image → (o : BegunBlock) (context : Ctx) (steps : List RunStep) → IsPlace o.start → IsPlainRun image o.start o.plain
    → AreSteps image o context steps → AreRunBlocks image (blocks o steps)
run_blocks image gap o context [] place run are = tt
run_blocks image gap o context (s ∷ steps) place run are = elim (bools (is_p0 s)) [
  | inl p ↦
      let rest : AreSteps image (fresh s.next) s.ctx steps = simp p at are.1 in
      simp p (
        record { run = run; there = are.0.there; early = comes_early image gap o.start o.plain place run; ends = p; does = are.0.does },
        run_blocks image gap (fresh s.next) s.ctx steps are.0.next (no_run image s.next) rest,
      )
  | inr p ↦
      let o' : BegunBlock = record o { plain = o.plain + 1 } in
      let rest : AreSteps image o' s.ctx steps = simp p at are.1 in
      let does : Executes image Plain s = subst (λ k. Executes image k s) (plain_kind s.kind p) are.0.does in
      let here : class_at image (behind o.start o.plain) ≡ Some class.Plain = subst (λ a. class_at image a ≡ Some class.Plain) are.0.there does.0 in
      simp p (run_blocks image gap o' s.ctx steps place (grows_run image o.start o.plain run here) rest)
]

pub blocks_of_run : (image : Image) → HasGap image → (start : ℕ) (context : Ctx) (steps : List RunStep) → IsPlace start
    → AreSteps image (fresh start) context steps → AreRunBlocks image (blocks (fresh start) steps)
blocks_of_run image gap start context steps place are = run_blocks image gap (fresh start) context steps place (no_run image start) are
