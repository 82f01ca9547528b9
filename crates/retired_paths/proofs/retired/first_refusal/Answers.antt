use Rattle.std.proofs.Common.{◌+◌, ◌<◌, [], length, arith, drop, subst, sym, ◌∙◌}
use Rattle.run_file.specs.Refusals.{refusal_among, stream_refusal}
use Rattle.spec_run.specs.Stands.{StandsAt}
use Rattle.retired_paths.proofs.Refused.{among_next, there_is, bad_line_none, bad_line_some, settings_found}
use Rattle.retired_paths.proofs.retired.first_refusal.Goals as goal

pub returns-then-is_some : goal.returns-then-is_some
returns-then-is_some c =
    let image = c.args.image.now in
    let bench = c.args.bench.now in
    let s = c.loop-s.s in
    let lt : s < length bench.streams = omega (arith, c.streams-s-end.ensures) in
    let found = there_is bench.streams s lt in
    let same = settings_found bench.streams s c.in-Some.settings found.0 found.1 c.in-Some.ensures in
    let at = subst (λ sizes. StandsAt image sizes c.restart.new.self []) same (c.restart.ensures.stands image) in
    let value = c.stream_refusal-refusal.ensures found.0 found.1 at in
    bad_line_some c.stream_refusal-refusal.result (stream_refusal image found.0) (refusal_among image (drop (s + 1) bench.streams)) value
    (sym c.is_some.ensures ∙ c.if-is_some.true)
    ∙ sym (c.loop-s.invariant ∙ among_next image bench.streams s found.0 found.1)

pub loop-s-preserved : goal.loop-s-preserved
loop-s-preserved c =
    let image = c.args.image.now in
    let bench = c.args.bench.now in
    let s = c.loop-s.s in
    let lt : s < length bench.streams = omega (arith, c.streams-s-end.ensures) in
    let found = there_is bench.streams s lt in
    let same = settings_found bench.streams s c.in-Some.settings found.0 found.1 c.in-Some.ensures in
    let at = subst (λ sizes. StandsAt image sizes c.restart.new.self []) same (c.restart.ensures.stands image) in
    let value = c.stream_refusal-refusal.ensures found.0 found.1 at in
    c.loop-s.invariant ∙ among_next image bench.streams s found.0 found.1
    ∙ bad_line_none c.stream_refusal-refusal.result (stream_refusal image found.0) (refusal_among image (drop (s + 1) bench.streams)) value
    (sym c.is_some.ensures ∙ c.if-is_some.false)
