use Rattle.std.proofs.Common.{◌≡◌, ◌++◌, replicate}
use Rattle.bench_gen.specs.Bench.{weave_line}
use Rattle.bench_gen.specs.Texts.{text}
use Rattle.bench_gen.proofs.weaves.push_weaves.Given as goal

-- the lines so far
abbrev pub invariant-loop : goal.invariant-loop
invariant-loop l = l.out.items ≡ l.fn.out.items ++ text (replicate l.counter (weave_line l.n))
