use Rattle.packet_grammar.proofs.AllLaws.{spelled_or_begun, not_both}
use Rattle.packet_grammar.proofs.laws.bytes_spell_or_begin.Goals as goal

pub returns-clause-either : goal.returns-clause-either
returns-clause-either c = spelled_or_begun

pub returns-clause-not_both : goal.returns-clause-not_both
returns-clause-not_both c = not_both
