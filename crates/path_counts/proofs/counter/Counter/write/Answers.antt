use Rattle.std.proofs.Common.{ap, arith, length}
use Rattle.path_counts.specs.Counts.{Counting}
use Rattle.path_counts.proofs.LevelSums.{length_sums}
use Rattle.path_counts.proofs.counter.Counter.write.Goals as goal

pub write_counts-requires-clause-taken : goal.write_counts-requires-clause-taken
write_counts-requires-clause-taken g c =
    omega (arith, c.requires, ap (λ (v : Counting). length v.visits) c.self.view_is, c.self.invariant.0, length_sums 0 c.self.inside.visits)
