use Rattle.std.proofs.Common.{length, ap, arith}
use Rattle.path_text.proofs.PacketHeads.{head_short}
use Rattle.path_text.proofs.packet_line.PacketLine.write_address.Goals as goal

pub add_address-requires : goal.add_address-requires
add_address-requires g c = omega (arith, ap length c.move_to.ensures.head, head_short c.self.inside.id c.args.at (omega arith))

pub end-requires-clause-room : goal.end-requires-clause-room
end-requires-clause-room g c =
    omega (arith, ap length c.move_to.ensures.head, head_short c.self.inside.id c.args.at (omega arith), c.add_address.ensures.short)
