use Rattle.element_queue.proofs.Deferred.{brought_forward, deferred, spared}
use Rattle.element_queue.proofs.laws.a_commit_may_be_deferred.Goals as goal

pub returns-clause-later : goal.returns-clause-later
returns-clause-later c = deferred

pub returns-clause-spares : goal.returns-clause-spares
returns-clause-spares c = spared

pub returns-clause-earlier : goal.returns-clause-earlier
returns-clause-earlier c = brought_forward
