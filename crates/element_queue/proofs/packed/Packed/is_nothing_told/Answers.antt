use Rattle.std.proofs.Common.{None}
use Rattle.element_queue.proofs.Held.{none_there}
use Rattle.element_queue.proofs.packed.Packed.is_nothing_told.Goals as goal

pub returns-in-None : goal.returns-in-None
returns-in-None c = (λ is. absurd cc, λ is. absurd (none_there _ c.in-None.is (c.only_addr.ensures.some None is)))
