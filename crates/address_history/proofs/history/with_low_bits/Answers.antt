use Rattle.std.proofs.Common.{rules}
use Rattle.address_history.proofs.LowBits.{put_together}
use Rattle.address_history.proofs.history.with_low_bits.Goals as goal

pub returns : goal.returns
returns c = put_together c.args.bits c.args.value c.args.base (search rules) (search rules)
