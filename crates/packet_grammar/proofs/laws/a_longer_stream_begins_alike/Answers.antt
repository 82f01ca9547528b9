use Rattle.packet_grammar.proofs.Longer.{begins_alike, fault_ends_both}
use Rattle.packet_grammar.proofs.laws.a_longer_stream_begins_alike.Goals as goal

pub returns-clause-packets : goal.returns-clause-packets
returns-clause-packets c = begins_alike

pub returns-clause-fault : goal.returns-clause-fault
returns-clause-fault c = fault_ends_both
