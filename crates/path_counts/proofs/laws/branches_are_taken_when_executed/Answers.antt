use Rattle.path_counts.proofs.Counted.{taken_few}
use Rattle.path_counts.proofs.laws.branches_are_taken_when_executed.Goals as goal

pub returns : goal.returns
returns c = taken_few
