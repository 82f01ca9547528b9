use Rattle.std.proofs.Common.{◌≡◌, Err, ap, arith, refl, subst, sym, take, ◌∙◌}
use Rattle.std.proofs.lemmas.Option.{slice_get_within}
use Rattle.std.specs.Prelude.{slice_get}
use Rattle.etm_types.specs.Settings.{Sizes}
use Rattle.retired_paths.proofs.Refused.{events_next, looked_up, refused_there, some_line}
use Rattle.run_file.specs.Parts.{events_of}
use Rattle.traced_runs.proofs.Tracing.{all_traced, line_is}
use Rattle.retired_paths.specs.Retiring.{RefusesLine}
use Rattle.traced_runs.specs.Tracing.{IsTracing, refused_at}
use Rattle.traced_runs.proofs.traced.trace_lines.Goals as goal

pub trace_line-requires : goal.trace_line-requires
trace_line-requires c =
    line_is c.args.bench.now c.loop-line.unit.settings c.args.s c.loop-line.k c.in-Some.line c.requires.parts
    (λ stream there. c.loop-line.invariant.settings.0 ∙ c.requires.settings stream there) c.in-Some.ensures.value

pub loop-line-smaller : goal.loop-line-smaller
loop-line-smaller c =
    let found = some_line (slice_get c.args.bench.now.streams c.args.s) c.loop-line.k c.in-Some.line c.in-Some.ensures.value in
    let lt = slice_get_within _ c.loop-line.k c.in-Some.line found in
    omega (arith, lt)

pub loop-line-preserved : goal.loop-line-preserved
loop-line-preserved c = record {
  settings = (
    c.in-Ok.ensures.settings.0 ∙ c.loop-line.invariant.settings.0,
    c.in-Ok.ensures.settings.1 ∙ c.loop-line.invariant.settings.1,
  );
  so_far = λ stream there t.
      let k = c.loop-line.k in
      let line = c.in-Some.line in
      let found = sym (c.in-Some.ensures.value ∙ looked_up c.args.bench.now.streams c.args.s k stream there) in
      subst (IsTracing c.args.image.now c.trace_line.new.unit c.trace_line.new.bytes.items) (sym (events_next stream.lines k line found))
      (c.in-Ok.ensures.traces (events_of (take k stream.lines)) (c.loop-line.invariant.so_far stream there t) refl);
}

pub returns-in-Err-Run-clause-refused : goal.returns-in-Err-Run-clause-refused
returns-in-Err-Run-clause-refused c stream there t line fault is =
    let image = c.args.image.now in
    let settings = stream.settings in
    let k = c.loop-line.k in
    let at = c.in-Some.line in
    let same : c.loop-line.unit.settings ≡ settings = c.loop-line.invariant.settings.0 ∙ c.requires.settings stream there in
    let found = sym (c.in-Some.ensures.value ∙ looked_up c.args.bench.now.streams c.args.s k stream there) in
    let refuses = c.in-Err-Run.ensures.refused (events_of (take k stream.lines)) (c.loop-line.invariant.so_far stream there t) c.in-Err-Run.fault
    (ap Err c.in-Err-Run.field-0-is) in
    let refused = refused_there image settings stream.lines k at c.in-Err-Run.fault found
    (subst (λ (s : Sizes). RefusesLine image s (events_of (take k stream.lines)) at c.in-Err-Run.fault) same refuses) in
    let number : at.line ≡ line = cc in
    let why : c.in-Err-Run.fault ≡ fault = cc in
    refused ∙ ap (λ n. refused_at n c.in-Err-Run.fault) number ∙ ap (refused_at line) why

pub returns-clause-traces : goal.returns-clause-traces
returns-clause-traces c stream there t ok =
    let k = c.loop-line.k in
    let none = sym (c.in_default.ensures.value ∙ looked_up c.args.bench.now.streams c.args.s k stream there) in
    all_traced c.args.image.now c.loop-line.unit c.loop-line.bytes.items stream k none
    (c.loop-line.invariant.settings.0 ∙ c.requires.settings stream there) (c.loop-line.invariant.so_far stream there t)
