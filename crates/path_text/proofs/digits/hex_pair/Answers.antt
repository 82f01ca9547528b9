use Rattle.std.proofs.Common.{arith}
use Rattle.path_text.proofs.Pairs.{hex_pair_at}
use Rattle.path_text.proofs.digits.hex_pair.Goals as goal

pub returns : goal.returns
returns c = hex_pair_at c.args.n (omega arith)
