use Rattle.packet_grammar.proofs.AllLaws.{none_begins_another, one_outcome}
use Rattle.packet_grammar.proofs.laws.spellings_are_told_apart.Goals as goal

pub returns-clause-none_begins_another : goal.returns-clause-none_begins_another
returns-clause-none_begins_another c = none_begins_another

pub returns-clause-one_outcome : goal.returns-clause-one_outcome
returns-clause-one_outcome c = one_outcome
