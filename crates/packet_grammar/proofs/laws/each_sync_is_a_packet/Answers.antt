use Rattle.packet_grammar.proofs.Found.{each_sync_is_a_packet, last_bytes_are_a_stream}
use Rattle.packet_grammar.proofs.laws.each_sync_is_a_packet.Goals as goal

pub returns-clause-packet : goal.returns-clause-packet
returns-clause-packet c = each_sync_is_a_packet

pub returns-clause-last_bytes : goal.returns-clause-last_bytes
returns-clause-last_bytes c = last_bytes_are_a_stream
