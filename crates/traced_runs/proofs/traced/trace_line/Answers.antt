use Rattle.std.proofs.Common.{◌≡◌, Err, ap, arith, refl, subst, sym, ◌∙◌}
use Rattle.std.proofs.lemmas.Result.{err_from_is_err_and}
use Rattle.etm_types.specs.Settings.{Sizes}
use Rattle.spec_run.specs.RunAfter.{IsEvent}
use Rattle.retired_paths.proofs.RetiredEvents.{once_more}
use Rattle.traced_runs.proofs.Tracing.{line_refused, one_traced}
use Rattle.retired_paths.specs.Retiring.{events_with}
use Rattle.traced_runs.specs.Tracing.{IsTracing}
use Rattle.trace_unit.specs.declared.unit.UnitFault.TheVariants.{Run}
use Rattle.traced_runs.proofs.traced.trace_line.Goals as goal

pub loop-init : goal.loop-init
loop-init c = record {
  settings = c.trace_plain-done.ensures.settings;
  so_far = λ events t. c.trace_plain-done.ensures.traces c.args.bytes.now.items events t;
  within = c.trace_plain-done.ensures.few;
}

pub accept-requires : goal.accept-requires
accept-requires c = subst (λ (s : Sizes). IsEvent s c.args.line.now.event) (sym c.loop.invariant.settings.0) c.requires

pub loop-preserved : goal.loop-preserved
loop-preserved c = record {
  settings = (c.in_ok-accept.ensures.settings.0 ∙ c.loop.invariant.settings.0, c.in_ok-accept.ensures.settings.1 ∙ c.loop.invariant.settings.1);
  so_far = λ events t.
      let line = c.args.line.now in
      let front = events_with events c.loop.counter line.event in
      let here = c.loop.invariant.so_far events t in
      subst (IsTracing c.args.image.now c.accept.new.self c.accept.new.bytes.items) (once_more events line.event c.loop.counter)
      (one_traced c.args.image.now c.loop.unit c.accept.new.self c.loop.bytes.items c.accept.new.bytes.items front line.event here
      (c.in_ok-accept.ensures.stands front here.stands refl) c.in_ok-accept.ensures.settings.0 c.in_ok-accept.ensures.settings.1
      (c.in_ok-accept.ensures.written front here.stands refl));
  within = omega arith;
}

pub returns-in_err-accept-clause-refused : goal.returns-in_err-accept-clause-refused
returns-in_err-accept-clause-refused c events t fault is =
    let p = err_from_is_err_and c.from_residual.result c.from_residual.ensures.1 in
    let same : c.in_err-accept.field-0.0 ≡ Run fault = let e = sym p.1 ∙ is in let f = p.2 in cc in
    let line = c.args.line.now in
    let k = c.loop.counter in
    line_refused c.args.image.now c.loop.unit c.args.unit.now.settings events line k fault (omega arith) (c.loop.invariant.so_far events t).stands
    c.loop.invariant.settings.0 ((c.in_err-accept.ensures.refused fault).0 (ap Err same))

pub returns-clause-traces : goal.returns-clause-traces
returns-clause-traces c events t ok =
    let line = c.args.line.now in
    let all : c.loop.counter ≡ line.times = omega (arith, c.loop.invariant.within) in
    subst (λ n. IsTracing c.args.image.now c.loop.unit c.loop.bytes.items (events_with events n line.event)) all (c.loop.invariant.so_far events t)
