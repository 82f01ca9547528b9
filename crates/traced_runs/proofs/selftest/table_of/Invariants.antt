use Rattle.std.proofs.Common.{◌≡◌, drop}
use Rattle.traced_runs.specs.Traced.{table_of, with_streams}
use Rattle.traced_runs.proofs.selftest.table_of.Given as goal

abbrev pub invariant-loop-s : goal.invariant-loop-s
invariant-loop-s l = with_streams (drop l.s l.bench.streams) l.table ≡ table_of l.bench
