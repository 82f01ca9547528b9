use Rattle.std.proofs.Common.{arith, length, ap}
use Rattle.element_queue.proofs.Balanced.{committed_one}
use Rattle.element_queue.proofs.Held.{queued}
use Rattle.element_queue.proofs.queue.Queue.commit_one.Goals as goal

pub returns-then-self-gt0-clause-queued : goal.returns-then-self-gt0-clause-queued
returns-then-self-gt0-clause-queued c = let i = c.self.invariant in queued _ _ _ _ _ (omega arith) i.3

pub returns-in-Some-clause-queued : goal.returns-in-Some-clause-queued
returns-in-Some-clause-queued c =
    let i = c.self.invariant in
    let left = ap length c.in-Some.ensures.order in
    queued _ _ _ _ _ (omega (arith, left)) (committed_one _ _ _ _ c.commit.ensures.committed (omega (arith, left)) i.3)
