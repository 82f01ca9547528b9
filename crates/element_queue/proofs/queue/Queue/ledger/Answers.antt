use Rattle.std.proofs.Common.{subst}
use Rattle.element_queue.specs.Queued.{IsQueued}
use Rattle.element_queue.proofs.Held.{queued}
use Rattle.element_queue.proofs.queue.Queue.ledger.Goals as goal

pub returns-clause-queued : goal.returns-clause-queued
returns-clause-queued c = let i = c.self.invariant in subst IsQueued c.self.view_is (queued _ _ _ _ _ i.1 i.3)
