use Rattle.std.proofs.Common.{◌≡◌, ℕ, zero, suc, ◌+◌, List, [], ◌∷◌, ◌++◌, replicate, refl, sym, ap, subst, ◌∙◌, arith, append-nil, append_assoc}
use Rattle.etm_types.specs.Settings.{Sizes}
use Rattle.spec_run.specs.RunAfter.{IsEvent}
use Rattle.spec_run.specs.declared.event.Event.{Event}
use Rattle.trace_unit.specs.Kept.{StandsAt}
use Rattle.unit_speed.proofs.rounds.repeat.Goals as goal

one_more : (k : ℕ) (e : Event) → replicate k e ++ e ∷ [] ≡ replicate (suc k) e
one_more zero e = refl
one_more (suc k) e = ap (λ (es : List Event). e ∷ es) (one_more k e)

pub accept-requires : goal.accept-requires
accept-requires c = subst (λ (s : Sizes). IsEvent s c.args.event.now) (sym c.loop-done.invariant.settings) c.requires

pub loop-done-init : goal.loop-done-init
loop-done-init c =
    record {
      settings = refl;
      stands = λ events at. subst (λ (es : List Event). StandsAt c.args.image.now c.args.unit.now es) (sym (append-nil events)) at;
    }

pub loop-done-preserved : goal.loop-done-preserved
loop-done-preserved c =
    let image = c.args.image.now in let e = c.args.event.now in let k = c.loop-done._done in let now = c.accept.new.self in
    let more : suc k ≡ k + 1 = omega arith in
    record {
      settings = c.accept.ensures.settings.0 ∙ c.loop-done.invariant.settings;
      stands = λ events at.
          subst (λ (es : List Event). StandsAt image now es)
          (append_assoc events (replicate k e) (e ∷ []) ∙ ap (λ (es : List Event). events ++ es) (one_more k e)
          ∙ ap (λ (n : ℕ). events ++ replicate n e) more)
          (c.in_ok-accept.ensures.stands (events ++ replicate k e) (c.loop-done.invariant.stands events at) refl);
    }

pub returns-clause-stands : goal.returns-clause-stands
returns-clause-stands c events at ok =
    let all : c.loop-done._done ≡ c.args.times = omega arith in
    subst (λ (n : ℕ). StandsAt c.args.image.now c.loop-done.unit (events ++ replicate n c.args.event.now)) all (c.loop-done.invariant.stands events at)
