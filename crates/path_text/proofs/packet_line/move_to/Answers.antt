use Rattle.std.proofs.Common.{length, ap, arith}
use Rattle.path_text.proofs.PacketHeads.{head_length, head_short}
use Rattle.path_text.proofs.packet_line.move_to.Goals as goal

pub put_last_digits-requires : goal.put_last_digits-requires
put_last_digits-requires c =
    let (old, fits, hundreds, is) = c.requires in
    (omega (arith, ap length is, head_length c.args.id old), omega (arith, ap length is, head_short c.args.id old fits))
