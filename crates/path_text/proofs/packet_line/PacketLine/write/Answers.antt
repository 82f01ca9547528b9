use Rattle.std.proofs.Common.{length, ap, arith}
use Rattle.path_text.proofs.PacketHeads.{head_short}
use Rattle.path_text.proofs.packet_line.PacketLine.write.Goals as goal

pub add_packet-requires-clause-room : goal.add_packet-requires-clause-room
add_packet-requires-clause-room g c = omega (arith, ap length c.move_to.ensures.head, head_short c.self.inside.id c.args.at (omega arith))

pub end-requires-clause-room : goal.end-requires-clause-room
end-requires-clause-room g c =
    omega (arith, ap length c.move_to.ensures.head, head_short c.self.inside.id c.args.at (omega arith), c.add_packet.ensures.short)
