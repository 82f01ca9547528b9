use Rattle.path_text.proofs.Pairs.{pair_at}
use Rattle.path_text.proofs.digits.pair.Goals as goal

pub returns : goal.returns
returns c = pair_at c.args.n c.requires
