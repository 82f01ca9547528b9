use Rattle.element_queue.proofs.Runs.{conditions, reaches_too_far, vanish}
use Rattle.element_queue.proofs.laws.cancelled_atoms_vanish.Goals as goal

pub returns-clause-vanish : goal.returns-clause-vanish
returns-clause-vanish c = vanish

pub returns-clause-refused : goal.returns-clause-refused
returns-clause-refused c = reaches_too_far

pub returns-clause-conditions : goal.returns-clause-conditions
returns-clause-conditions c = conditions
