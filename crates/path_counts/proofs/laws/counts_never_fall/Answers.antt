use Rattle.path_counts.proofs.Counted.{times-append}
use Rattle.path_counts.proofs.laws.counts_never_fall.Goals as goal

pub returns : goal.returns
returns c = times-append
