use Rattle.std.proofs.Common.{ap, arith, refl, subst, sym, take, ◌∙◌}
use Rattle.std.proofs.lemmas.Option.{slice_get_within}
use Rattle.std.specs.Prelude.{slice_get}
use Rattle.run_file.specs.Parts.{events_of}
use Rattle.run_file.specs.Refusals.{refused_line}
use Rattle.spec_run.specs.Stands.{StandsAt}
use Rattle.retired_paths.proofs.Refused.{all_lines, events_next, looked_up, refused_there, some_line}
use Rattle.retired_paths.proofs.retired.stream_refusal.Goals as goal

pub returns-in-Err : goal.returns-in-Err
returns-in-Err c stream there at =
    let k = c.loop-line.k in
    let line = c.in-Some.line in
    let found = sym (c.in-Some.ensures.value ∙ looked_up c.args.bench.now.streams c.args.s k stream there) in
    sym (refused_there c.args.image.now stream.settings stream.lines k line c.in-Err.fault found
    (c.in-Err.ensures.refused stream.settings (events_of (take k stream.lines)) (c.loop-line.invariant stream there at) c.in-Err.fault refl))

pub loop-line-smaller : goal.loop-line-smaller
loop-line-smaller c =
    let found = some_line (slice_get c.args.bench.now.streams c.args.s) c.loop-line.k c.in-Some.line c.in-Some.ensures.value in
    let lt = slice_get_within _ c.loop-line.k c.in-Some.line found in
    omega (arith, lt)

pub loop-line-preserved : goal.loop-line-preserved
loop-line-preserved c = λ stream there at.
    let k = c.loop-line.k in
    let line = c.in-Some.line in
    let found = sym (c.in-Some.ensures.value ∙ looked_up c.args.bench.now.streams c.args.s k stream there) in
    subst (StandsAt c.args.image.now stream.settings c.run_line.new.run) (sym (events_next stream.lines k line found))
    (c.in_default-run_line.ensures.stands stream.settings (events_of (take k stream.lines)) (c.loop-line.invariant stream there at) refl)

pub returns : goal.returns
returns c stream there at =
    let k = c.loop-line.k in
    let none = sym (c.in_default.ensures.value ∙ looked_up c.args.bench.now.streams c.args.s k stream there) in
    let st = subst (λ l. StandsAt c.args.image.now stream.settings c.loop-line.run (events_of l)) (all_lines stream.lines k none)
    (c.loop-line.invariant stream there at) in
    sym (ap (refused_line stream.lines) st.after)
