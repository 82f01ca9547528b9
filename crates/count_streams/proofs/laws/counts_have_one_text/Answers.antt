use Rattle.count_streams.proofs.OneText.{one_text_of_counts, some_text_of_counts}
use Rattle.count_streams.proofs.laws.counts_have_one_text.Goals as goal

pub returns-clause-one : goal.returns-clause-one
returns-clause-one c = one_text_of_counts

pub returns-clause-some : goal.returns-clause-some
returns-clause-some c = some_text_of_counts
