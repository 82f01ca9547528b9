use Rattle.std.proofs.Common.{◌-◌, arith}
use Rattle.bench_gen.specs.Bench.{stream_lines}
use Rattle.bench_gen.proofs.Added.{added_lines}
use Rattle.bench_gen.proofs.streams.push_streams.Goals as goal

pub loop-i-preserved : goal.loop-i-preserved
loop-i-preserved c =
    added_lines (stream_lines c.args.n) _ _ _ 1 (c.loop-i.i - 1) c.loop-i.i _ (omega arith) (omega arith) c.loop-i.invariant c.in_ok-push_stream.ensures

pub returns-in_ok-push_stream : goal.returns-in_ok-push_stream
returns-in_ok-push_stream c =
    added_lines (stream_lines c.args.n) _ _ _ 1 (c.loop-i.i - 1) c.loop-i.i _ (omega arith) (omega arith) c.loop-i.invariant c.in_ok-push_stream.ensures
