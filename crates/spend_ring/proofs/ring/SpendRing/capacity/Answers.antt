use Rattle.spend_ring.proofs.Laid.{items-within}
use Rattle.spend_ring.proofs.ring.SpendRing.capacity.Goals as goal

pub returns-clause-bounded : goal.returns-clause-bounded
returns-clause-bounded g c = let r = c.self.inside in rw (← c.self.view_is) (items-within r.start r.count r.capacity r.cells.held c.self.invariant.1)
