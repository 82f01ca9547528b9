use Rattle.packet_grammar.proofs.InRange.{values_fit}
use Rattle.packet_grammar.proofs.laws.spelled_values_are_in_range.Goals as goal

pub returns : goal.returns
returns c = values_fit
