use Rattle.std.proofs.Common.{◌+◌, ◌<◌, ap, arith, drop, length, ◌∙◌}
use Rattle.retired_paths.proofs.Refused.{there_is}
use Rattle.traced_runs.proofs.TracedTables.{one_more}
use Rattle.traced_runs.specs.Traced.{with_streams}
use Rattle.traced_runs.proofs.selftest.table_of.Goals as goal

pub loop-s-preserved : goal.loop-s-preserved
loop-s-preserved c =
    let bench = c.args.bench.now in
    let s = c.loop-s.s in
    let lt : s < length bench.streams = omega (arith, c.streams-s-end.ensures) in
    let found = there_is bench.streams s lt in
    ap (with_streams (drop (s + 1) bench.streams)) c.set.ensures.list
    ∙ one_more bench c.loop-s.table s c.in-Some-Some.id c.in-Some-Some.settings found.0 found.1 c.in-Some-Some.ensures c.in-Some-Some.ensures'
    c.loop-s.invariant
