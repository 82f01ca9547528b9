use Rattle.packet_grammar.proofs.AllLaws.{at_most}
use Rattle.packet_grammar.proofs.laws.spellings_are_short.Goals as goal

pub returns : goal.returns
returns c = at_most
