use Rattle.std.proofs.Math.Nat.{mod-add-mod}
use Rattle.bench_gen.specs.Round.{next}
use Rattle.bench_gen.proofs.round.next.Goals as goal

pub returns : goal.returns
unfolding next
returns c = mod-add-mod _ _ _
