use Rattle.packet_writer.proofs.Streams.{written_is_read}
use Rattle.packet_writer.proofs.laws.written_packets_are_read.Goals as goal

pub returns : goal.returns
returns c = written_is_read
