use Rattle.element_queue.proofs.Counted.{committed_at_first, made_at_first}
use Rattle.element_queue.proofs.laws.a_tally_counts_what_is_resolved.Goals as goal

pub returns-clause-made : goal.returns-clause-made
returns-clause-made c = made_at_first

pub returns-clause-committed : goal.returns-clause-committed
returns-clause-committed c = committed_at_first
