use Rattle.std.proofs.Common.{ap, ◌∙◌}
use Rattle.element_queue.specs.Queued.{Queued}
use Rattle.element_queue.proofs.queue.Queue.passing.Goals as goal

pub returns-clause-some : goal.returns-clause-some
returns-clause-some c addr depth is = c.only_addr.ensures.some addr (ap (λ (q : Queued). q.pre) c.self.view_is ∙ is)
