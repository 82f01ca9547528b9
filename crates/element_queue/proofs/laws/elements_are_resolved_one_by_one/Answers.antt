use Rattle.element_queue.proofs.Joined.{one_by_one}
use Rattle.element_queue.proofs.laws.elements_are_resolved_one_by_one.Goals as goal

pub returns : goal.returns
returns c = one_by_one
