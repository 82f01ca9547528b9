use Rattle.std.proofs.Common.{arith}
use Rattle.spend_ring.proofs.Laid.{count-within}
use Rattle.spend_ring.proofs.ring.SpendRing.len.Goals as goal

pub returns-clause-bounded : goal.returns-clause-bounded
returns-clause-bounded g c = let r = c.self.inside in rw (← c.self.view_is) (count-within r.start r.count r.capacity r.cells.held c.self.invariant.1)

pub returns-clause-small : goal.returns-clause-small
returns-clause-small g c = let r = c.self.inside in let h = c.self.invariant.1 in omega
    (arith, count-within r.start r.count r.capacity r.cells.held h, h.small)
