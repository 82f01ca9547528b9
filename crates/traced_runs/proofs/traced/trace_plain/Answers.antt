use Rattle.std.proofs.Common.{ap, replicate, subst, sym}
use Rattle.spec_run.specs.declared.event.Event.{Event}
use Rattle.spec_run.specs.declared.event.Event.TheVariants as event
use Rattle.retired_paths.specs.Retiring.{events_with}
use Rattle.trace_unit.specs.Kept.{Kept}
use Rattle.traced_runs.proofs.Tracing.{more_traced}
use Rattle.traced_runs.specs.Tracing.{IsTracing}
use Rattle.traced_runs.proofs.traced.trace_plain.Goals as goal

pub returns-in-Step-clause-traces : goal.returns-in-Step-clause-traces
returns-in-Step-clause-traces c bytes events t =
    let e = c.step_many.ensures in
    let unit = c.args.unit.now in
    let n = c.step_many.result in
    subst (λ (e : Event). IsTracing c.args.image.now c.step_many.new.self bytes (events_with events n e)) (sym c.in-Step.is)
    (more_traced c.args.image.now unit c.step_many.new.self bytes events (replicate n event.Step) t (e.stands events t.stands)
    (ap (λ (k : Kept). k.settings) e.rest) (ap (λ (k : Kept). k.stack_depth) e.rest) (e.written events t.stands))
