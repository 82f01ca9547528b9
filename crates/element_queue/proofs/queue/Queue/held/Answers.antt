use Rattle.std.proofs.Common.{arith}
use Rattle.element_queue.proofs.queue.Queue.held.Goals as goal

pub overflow_add-result : goal.overflow_add-result
overflow_add-result c = let i = c.self.invariant in omega arith
