use Rattle.std.proofs.Common.{◌≡◌, ◌++◌, ◌*◌, ◌+◌}
use Rattle.std.specs.Fn.{iterate}
use Rattle.std.specs.List.{flat_map, range_with_len}
use Rattle.bench_gen.specs.Bench.{round_of}
use Rattle.bench_gen.specs.Round.{next}
use Rattle.bench_gen.specs.Texts.{text}
use Rattle.bench_gen.proofs.streams.push_rounds.Given as goal

-- the rounds so far, and the state of the last
abbrev pub invariant-loop-j : goal.invariant-loop-j
invariant-loop-j l = record {
  lines : l.out.items ≡ l.fn.out.items ++ text (flat_map (round_of l.n l.i) (range_with_len 0 l.j));
  state : l.x ≡ iterate next l.j (l.n * 111 + l.i);
}
