use Rattle.packet_reader.proofs.OneAnswer.{each_has_its_answer}
use Rattle.packet_reader.proofs.laws.each_byte_has_its_answer.Goals as goal

pub returns : goal.returns
returns c = each_has_its_answer
