use Rattle.packet_reader.proofs.Told.{each_spelling_is_told}
use Rattle.packet_reader.proofs.laws.each_spelling_is_told.Goals as goal

pub returns : goal.returns
returns c = each_spelling_is_told
