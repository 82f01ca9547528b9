use Rattle.answer_laws.proofs.TracedCalls.{prints_traces}
use Rattle.answer_laws.proofs.laws.path_prints_what_was_traced.Goals as goal

pub returns : goal.returns
returns c calls old new status image b bench none asks answer = prints_traces calls old new image b bench none asks status answer
