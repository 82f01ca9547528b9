use Rattle.std.proofs.Common.{◌≡◌, ◌++◌, ◌-◌}
use Rattle.std.specs.List.{flat_map, range_with_len}
use Rattle.bench_gen.specs.Bench.{stream_lines}
use Rattle.bench_gen.specs.Texts.{text}
use Rattle.bench_gen.proofs.streams.push_streams.Given as goal

-- the streams so far
abbrev pub invariant-loop-i : goal.invariant-loop-i
invariant-loop-i l = l.out.items ≡ l.fn.out.items ++ text (flat_map (stream_lines l.n) (range_with_len 1 (l.i - 1)))
