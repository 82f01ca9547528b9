-- Contexts are the same exactly where the test says so.
use Rattle.std.proofs.Common.{◌≡◌, Bool, true, false, refl, ap, ◌∙◌}
use Rattle.std.proofs.lemmas.Bool.{and_parts, eq-eqb, eqb-true}
use Rattle.std.specs.Prelude.{◌==◌}
use Rattle.etm_types.specs.SameContext.{same_context, same_flag}
use Rattle.etm_types.specs.declared.context.Ctx.{Ctx}

flag_is : (a b : Bool) → same_flag a b ≡ true → a ≡ b
flag_is true true e = refl
flag_is true false e = absurd cc
flag_is false true e = absurd cc
flag_is false false e = refl

pub same_is : (a b : Ctx) → same_context a b ≡ true → a ≡ b
same_is a b e =
    let x = and_parts (a.el == b.el) _ e in
    let y = and_parts (same_flag a.ns b.ns) _ x.1 in
    let z = and_parts (a.vmid == b.vmid) _ y.1 in
    ap (λ l. record a { el = l }) (eqb-true a.el b.el x.0) ∙ ap (λ n. record a { el = b.el; ns = n }) (flag_is a.ns b.ns y.0)
    ∙ ap (λ v. record b { vmid = v; cid = a.cid }) (eqb-true a.vmid b.vmid z.0) ∙ ap (λ c. record b { cid = c }) (eqb-true a.cid b.cid z.1)

same_flag-refl : (b : Bool) → same_flag b b ≡ true
same_flag-refl true = refl
same_flag-refl false = refl

pub same_context-refl : (ctx : Ctx) → same_context ctx ctx ≡ true
same_context-refl ctx = simp (eq-eqb ctx.el ctx.el refl, same_flag-refl ctx.ns, eq-eqb ctx.vmid ctx.vmid refl, eq-eqb ctx.cid ctx.cid refl)
