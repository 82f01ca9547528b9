use Rattle.element_queue.proofs.Runs.{at_once, packets_alike}
use Rattle.element_queue.proofs.laws.packed_atoms_are_taken_one_by_one.Goals as goal

pub returns-clause-packets : goal.returns-clause-packets
returns-clause-packets c = packets_alike

pub returns-clause-at_once : goal.returns-clause-at_once
returns-clause-at_once c = at_once
