use Rattle.std.proofs.Common.{arith}
use Rattle.element_queue.proofs.Parts.{gone-length, held-length}
use Rattle.element_queue.proofs.outlook.Outlook.tries.Goals as goal

pub returns-clause-balanced : goal.returns-clause-balanced
returns-clause-balanced c =
    let o = c.self.inside in
    let gone = gone-length o.committed o.count o.bits c.self.invariant.2 in
    let held = held-length o.committed o.count o.bits in
    rw (← c.self.view_is) (omega (arith, gone, held, c.self.invariant.2, c.self.invariant.3))
