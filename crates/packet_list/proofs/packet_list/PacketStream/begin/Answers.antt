use Rattle.std.proofs.Common.{refl}
use Rattle.packet_list.proofs.PacketLists.{nothing_read, reads_first}
use Rattle.packet_list.proofs.packet_list.PacketStream.begin.Goals as goal

pub invariant_of-result : goal.invariant_of-result
invariant_of-result c = (reads_first c.new.result c.new.ensures.within c.new.ensures.stands, c.new-2.ensures)

pub returns-clause-stands : goal.returns-clause-stands
returns-clause-stands c = record { whole = refl; read = nothing_read c.new.result c.new.ensures.stands }
