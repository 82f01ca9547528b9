use Rattle.std.proofs.Common.{◌≡◌, arith, refl, subst, sym, ◌∙◌}
use Rattle.std.proofs.lemmas.Result.{err_from_is_err_and}
use Rattle.spec_run.specs.Stands.{StandsAt}
use Rattle.retired_paths.proofs.Refused.{refuses_line}
use Rattle.retired_paths.proofs.RetiredEvents.{once_more}
use Rattle.retired_paths.specs.Retiring.{RefusesLine, events_with}
use Rattle.retired_paths.proofs.retired.run_line.Goals as goal

pub loop-init : goal.loop-init
loop-init c = record { stands = c.run_plain-done.ensures.stands; within = c.run_plain-done.ensures.few }

pub loop-preserved : goal.loop-preserved
loop-preserved c = record {
  stands = λ s events at.
      let line = c.args.line.now in
      subst (StandsAt c.args.image.now s c.apply.new.self) (once_more events line.event c.loop.counter)
      (c.in_ok-apply.ensures.stands s (events_with events c.loop.counter line.event) (c.loop.invariant.stands s events at) refl);
  within = omega arith;
}

pub returns-in_err-apply-clause-refused : goal.returns-in_err-apply-clause-refused
returns-in_err-apply-clause-refused c s events at fault is =
    let p = err_from_is_err_and c.from_residual.result c.from_residual.ensures.1 in
    let same : c.in_err-apply.field-0.0 ≡ fault = let e = sym p.1 ∙ is in let f = p.2 in cc in
    let line = c.args.line.now in
    let k = c.loop.counter in
    subst (RefusesLine c.args.image.now s events line) same
    (refuses_line c.args.image.now s events line k c.in_err-apply.field-0.0 (omega arith)
    (c.in_err-apply.ensures.refused s (events_with events k line.event) (c.loop.invariant.stands s events at) c.in_err-apply.field-0.0 refl))

pub returns-clause-stands : goal.returns-clause-stands
returns-clause-stands c s events at ok =
    let line = c.args.line.now in
    let all : c.loop.counter ≡ line.times = omega (arith, c.loop.invariant.within) in
    subst (λ n. StandsAt c.args.image.now s c.loop.run (events_with events n line.event)) all (c.loop.invariant.stands s events at)
