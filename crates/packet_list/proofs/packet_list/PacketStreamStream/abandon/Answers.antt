use Rattle.packet_list.proofs.PacketLists.{some_end}
use Rattle.packet_list.proofs.packet_list.PacketStreamStream.abandon.Goals as goal

pub returns-clause-ends : goal.returns-clause-ends
returns-clause-ends c shared id bytes stands = some_end c.args.self.reader.settings id bytes stands.read.packets stands.read.ending stands.read.stream
