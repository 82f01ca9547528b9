-- What comes of calls that may refuse.
use Rattle.std.proofs.Common.{◌≡◌, true, Option, Some, None, Result, Ok, Err, ap, ◌∙◌}
use Rattle.std.specs.Prelude.{MatchResult, OnOk, is_ok}
use Rattle.spec_run.proofs.OneEvent.{planned_as}
use Rattle.spec_run.specs.Stands.{refused_by}
use Rattle.spec_run.specs.Windows.{planned_by}
use Rattle.spec_run.specs.declared.effect.Effect.{Effect}
use Rattle.spec_run.specs.declared.run_fault.RunFault.{RunFault}

pub refused_as : (r : Result Effect RunFault) (refusal : Option RunFault) (does : Effect) → r ≡ planned_by refusal does → refused_by r ≡ refusal
refused_as r None does is = ap refused_by is
refused_as r (Some fault) does is = ap refused_by is

abbrev ok_of : {X E : Type 0} → X → Result X E
ok_of x = Ok x

same_ok : {X : Type 0} (E : Type 0) (x y : X) → ok_of {X = X} {E = E} x ≡ ok_of y → x ≡ y
same_ok E x y e = cc

-- what is mapped of a plan is what the event does, which passes its checks
pub as_planned : (F : Type 0) (r : Result Effect RunFault) (x : Effect) (P : RunFault → Type 0) (refusal : Option RunFault) (does : Effect)
    → MatchResult r (λ z. ok_of {X = Effect} {E = F} x ≡ Ok z) P → true ≡ is_ok r → r ≡ planned_by refusal does → (refusal ≡ None) × (x ≡ does)
as_planned F (Ok z) x P refusal does cases ok same = let p = planned_as refusal does z same in (p.0, same_ok F x z cases ∙ p.1)
as_planned F (Err f) x P refusal does cases ok same = absurd cc

pub on_ok : {X E : Type 0} (r : Result X E) (P : Type 0) → true ≡ is_ok r → OnOk r P → P
on_ok (Ok x) P ok on = on
on_ok (Err f) P ok on = absurd cc
