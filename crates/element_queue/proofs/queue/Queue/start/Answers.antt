use Rattle.std.proofs.Common.{ap, arith, ◌∙◌}
use Rattle.element_queue.proofs.Held.{none_held, queued}
use Rattle.element_queue.proofs.queue.Queue.start.Goals as goal

pub returns-clause-queued : goal.returns-clause-queued
returns-clause-queued c =
    let i = c.self.invariant in
    let none = none_held _ _ (ap (λ q. q.held) c.self.view_is ∙ c.requires) in
    queued _ _ _ _ _ (omega arith) i.3
