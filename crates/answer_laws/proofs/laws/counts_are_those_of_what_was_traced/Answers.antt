use Rattle.answer_laws.proofs.TracedCounts.{prints_counts}
use Rattle.answer_laws.proofs.laws.counts_are_those_of_what_was_traced.Goals as goal

pub returns : goal.returns
returns c calls old new status image b bench none asks answer = prints_counts calls old new image b bench none asks status answer
