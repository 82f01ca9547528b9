use Rattle.run_file.proofs.WrittenOut.{among_first, among_next}
use Rattle.run_file.proofs.laws.streams_are_run_in_order.Goals as goal

pub returns-clause-next : goal.returns-clause-next
returns-clause-next c = among_next

pub returns-clause-first : goal.returns-clause-first
returns-clause-first c = among_first
