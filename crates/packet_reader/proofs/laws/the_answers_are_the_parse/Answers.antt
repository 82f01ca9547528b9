use Rattle.packet_reader.proofs.Adds.{add_up}
use Rattle.packet_reader.proofs.laws.the_answers_are_the_parse.Goals as goal

pub returns : goal.returns
returns c = add_up
