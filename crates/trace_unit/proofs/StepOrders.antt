-- The orders of a P0 step: in both forms of an exception the same is told.
use Rattle.std.proofs.Common.{◌≡◌, ℕ, Bool, true, false, List, [], ◌∷◌, ◌++◌, refl, subst, sym, ap, ◌∙◌}
use Rattle.std.proofs.lemmas.Bool.{and_parts, eqb-true}
use Rattle.std.specs.Prelude.{◌==◌}
use Rattle.etm_types.specs.SameContext.{same_context}
use Rattle.etm_types.specs.declared.context.Ctx.{Ctx}
use Rattle.spec_run.specs.declared.step.RunStep.{RunStep}
use Rattle.spec_run.specs.declared.step.StepKind.{StepKind}
use Rattle.spec_run.specs.declared.step.StepKind.TheVariants.{Cond, Eret, Exc, Ind, Isb, Jump, Plain}
use Rattle.trace_unit.specs.Orders.{Exception, ExceptionAtTarget, Order, before, is_target, lacked, missing, p0_order, step_orders, step_orders_by}
use Rattle.trace_unit.specs.Places.{Places}
use Rattle.trace_unit.specs.Told.{all_told}

-- what is told of an exception at its target
abbrev pub target_orders : Places → RunStep → ℕ → List Order
target_orders p s kind = ExceptionAtTarget (lacked (same_context s.ctx p.reader_context) s.ctx) kind s.addr ∷ []

-- the block needs an address, and this is it
pub record AtTarget (p : Places) (addr : ℕ) : Type 0 where
  pub needs : p.needs ≡ true
  pub start : p.start ≡ addr

at_target : (p : Places) (addr : ℕ) → is_target p addr ≡ true → AtTarget p addr
at_target p addr e = let both = and_parts p.needs (p.start == addr) e in record { needs = both.0; start = eqb-true p.start addr both.1 }

-- what holds of both forms
pub in_both : (P : List Order → Type 0) (p : Places) (s : RunStep) → P (before p s.ctx ++ p0_order s.kind s.addr ∷ [])
    → ((kind : ℕ) → s.kind ≡ Exc kind → AtTarget p s.addr → P (target_orders p s kind)) → P (step_orders p s)
in_both P p s apart together = by (is_target p s.addr) s.kind refl (λ e. at_target p s.addr e)
  where
    by : (test : Bool) (kind : StepKind) → s.kind ≡ kind → (test ≡ true → AtTarget p s.addr) → P (step_orders_by test p s kind)
    by true (Exc kind) e is = together kind e (is refl)
    by true Plain e is = subst (λ k. P (before p s.ctx ++ p0_order k s.addr ∷ [])) e apart
    by true Isb e is = subst (λ k. P (before p s.ctx ++ p0_order k s.addr ∷ [])) e apart
    by true Jump e is = subst (λ k. P (before p s.ctx ++ p0_order k s.addr ∷ [])) e apart
    by true (Cond taken) e is = subst (λ k. P (before p s.ctx ++ p0_order k s.addr ∷ [])) e apart
    by true (Ind link) e is = subst (λ k. P (before p s.ctx ++ p0_order k s.addr ∷ [])) e apart
    by true Eret e is = subst (λ k. P (before p s.ctx ++ p0_order k s.addr ∷ [])) e apart
    by false kind e is = subst (λ k. P (before p s.ctx ++ p0_order k s.addr ∷ [])) e apart

-- no exception, or not at its target
abbrev pub IsApart : Places → RunStep → Type 0
IsApart p s = step_orders p s ≡ before p s.ctx ++ p0_order s.kind s.addr ∷ []

pub apart_elsewhere : (p : Places) (s : RunStep) → is_target p s.addr ≡ false → IsApart p s
apart_elsewhere p s e = ap (λ test. step_orders_by test p s s.kind) e

pub apart_by_kind : (p : Places) (s : RunStep) → ((kind : ℕ) → s.kind ≡ Exc kind → ⊥) → IsApart p s
apart_by_kind p s none = in_both (λ orders. orders ≡ before p s.ctx ++ p0_order s.kind s.addr ∷ []) p s refl (λ kind e is. absurd (none kind e))

together_alike : (same needs : Bool) (start addr kind : ℕ) (ctx : Ctx) → needs ≡ true → start ≡ addr
    → all_told (ExceptionAtTarget (lacked same ctx) kind addr ∷ []) ≡ all_told (missing same needs start ctx ++ Exception kind addr ∷ [])
together_alike true true start addr kind ctx is at = ap (λ a. all_told (missing true true a ctx ++ Exception kind addr ∷ [])) (sym at)
together_alike false true start addr kind ctx is at = ap (λ a. all_told (missing false true a ctx ++ Exception kind addr ∷ [])) (sym at)
together_alike same false start addr kind ctx is at = absurd cc

-- a reader is told the same by both
pub told_alike : (p : Places) (s : RunStep) → all_told (step_orders p s) ≡ all_told (before p s.ctx ++ p0_order s.kind s.addr ∷ [])
told_alike p s =
    in_both (λ orders. all_told orders ≡ all_told (before p s.ctx ++ p0_order s.kind s.addr ∷ [])) p s refl
    (λ kind e is. together_alike (same_context s.ctx p.reader_context) p.needs p.start s.addr kind s.ctx is.needs is.start
    ∙ ap (λ k. all_told (before p s.ctx ++ p0_order k s.addr ∷ [])) (sym e))
