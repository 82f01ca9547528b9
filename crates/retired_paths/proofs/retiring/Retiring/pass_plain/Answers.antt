use Rattle.std.proofs.Common.{arith, subst, sym}
use Rattle.spec_run.specs.declared.event.Event.{Event}
use Rattle.retired_paths.specs.Retiring.{AddsNothing, CanGoOn, events_with}
use Rattle.retired_paths.proofs.RetiredMany.{adds_none}
use Rattle.retired_paths.proofs.retiring.Retiring.pass_plain.Goals as goal

pub returns-in-Step-clause-nothing : goal.returns-in-Step-clause-nothing
returns-in-Step-clause-nothing c s events can =
    let image = c.args.image.now in
    let t = c.args.self.now in
    let line = c.args.line.now in
    let steps = subst (λ (e : Event). CanGoOn image s t events (events_with events line.times e)) c.in-Step.is can in
    subst (λ (e : Event). AddsNothing image s t events c.step_many.new.self (events_with events c.step_many.result e)) (sym c.in-Step.is)
    (c.step_many.ensures.nothing s events steps)

pub returns-in_default : goal.returns-in_default
returns-in_default c = record {
  nothing = λ s events can. adds_none c.args.image.now s c.args.self.now events can.stands;
  few = omega arith;
}
