use Rattle.packet_grammar.proofs.GoesOn.{goes_on_by_a_packet, goes_on_by_a_fault, fault_stays_there}
use Rattle.packet_grammar.proofs.laws.a_stream_goes_on_by_one_spelling.Goals as goal

pub returns-clause-packet : goal.returns-clause-packet
returns-clause-packet c = goes_on_by_a_packet

pub returns-clause-fault : goal.returns-clause-fault
returns-clause-fault c = goes_on_by_a_fault

pub returns-clause-stays : goal.returns-clause-stays
returns-clause-stays c = fault_stays_there
