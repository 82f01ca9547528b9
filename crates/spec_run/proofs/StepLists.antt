-- Steps of joined lists, their blocks, and what the image allows of them.
use Rattle.std.proofs.Common.{◌≡◌, ◌⊎◌, Bool, true, false, List, [], ◌∷◌, ◌++◌, refl, sym, ap, ◌∙◌, inl, inr, append_assoc}
use Rattle.etm_types.specs.declared.context.Ctx.{Ctx}
use Rattle.program_image.specs.declared.image.Image.{Image}
use Rattle.spec_run.specs.Blocks.{BegunBlock, begun, blocks, ended, grown}
use Rattle.spec_run.specs.Executed.{AreSteps, context_behind}
use Rattle.spec_run.specs.Kinds.{is_p0_kind}
use Rattle.spec_run.specs.declared.step.RunStep.{RunStep}
use Rattle.spec_run.specs.declared.step.StepKind.{StepKind}
use Rattle.spec_run.specs.declared.step.StepKind.TheVariants.{Plain, Isb, Jump, Cond, Ind, Eret, Exc}

pub bools : (b : Bool) → (b ≡ true) ⊎ (b ≡ false)
bools true = inl refl
bools false = inr refl

pub plain_kind : (kind : StepKind) → is_p0_kind kind ≡ false → kind ≡ Plain
plain_kind Plain e = refl
plain_kind Isb e = absurd cc
plain_kind Jump e = absurd cc
plain_kind (Cond taken) e = absurd cc
plain_kind (Ind link) e = absurd cc
plain_kind Eret e = absurd cc
plain_kind (Exc kind) e = absurd cc

-- ---- blocks

pub begun-append : (o : BegunBlock) (xs ys : List RunStep) → begun o (xs ++ ys) ≡ begun (begun o xs) ys
begun-append o [] ys = refl
begun-append o (x ∷ xs) ys = begun-append (grown o x) xs ys

pub blocks-append : (o : BegunBlock) (xs ys : List RunStep) → blocks o (xs ++ ys) ≡ blocks o xs ++ blocks (begun o xs) ys
blocks-append o [] ys = refl
blocks-append o (x ∷ xs) ys =
    ap (λ l. ended o x ++ l) (blocks-append (grown o x) xs ys)
    ∙ sym (append_assoc (ended o x) (blocks (grown o x) xs) (blocks (begun (grown o x) xs) ys))

-- ---- what the image allows

pub context_behind-append : (context : Ctx) (xs ys : List RunStep) → context_behind context (xs ++ ys) ≡ context_behind (context_behind context xs) ys
context_behind-append context [] ys = refl
context_behind-append context (x ∷ xs) ys = context_behind-append x.ctx xs ys

pub steps_front : (image : Image) (o : BegunBlock) (context : Ctx) (xs ys : List RunStep) → AreSteps image o context (xs ++ ys) → AreSteps image o context xs
steps_front image o context [] ys are = tt
steps_front image o context (x ∷ xs) ys are = (are.0, steps_front image (grown o x) x.ctx xs ys are.1)

pub steps_rest : (image : Image) (o : BegunBlock) (context : Ctx) (xs ys : List RunStep)
    → AreSteps image o context (xs ++ ys) → AreSteps image (begun o xs) (context_behind context xs) ys
steps_rest image o context [] ys are = are
steps_rest image o context (x ∷ xs) ys are = steps_rest image (grown o x) x.ctx xs ys are.1

pub steps_joined : (image : Image) (o : BegunBlock) (context : Ctx) (xs ys : List RunStep)
    → AreSteps image o context xs → AreSteps image (begun o xs) (context_behind context xs) ys → AreSteps image o context (xs ++ ys)
steps_joined image o context [] ys are more = more
steps_joined image o context (x ∷ xs) ys are more = (are.0, steps_joined image (grown o x) x.ctx xs ys are.1 more)
