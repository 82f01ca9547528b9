use Rattle.std.proofs.Common.{◌≤◌, ◌<◌, arith}
use Rattle.element_queue.proofs.Parts.{gone-length, oldest-gone}
use Rattle.element_queue.proofs.outlook.Outlook.oldest.Goals as goal

pub returns-clause-atoms : goal.returns-clause-atoms
returns-clause-atoms c =
    let o = c.self.inside in
    let n = c.min-count.result in
    let few : n ≤ o.committed = omega (arith, c.min-count.ensures) in
    let small : n < 64 = omega (arith, c.min-count.ensures) in
    rw (← c.self.view_is) (oldest-gone n o.committed o.count o.bits few c.self.invariant.2 small)

pub returns-clause-within : goal.returns-clause-within
returns-clause-within c =
    let o = c.self.inside in
    let gone = gone-length o.committed o.count o.bits c.self.invariant.2 in
    rw (← c.self.view_is) (omega (arith, gone, c.min-count.ensures))

pub returns-clause-all : goal.returns-clause-all
returns-clause-all c less =
    let o = c.self.inside in
    let gone = gone-length o.committed o.count o.bits c.self.invariant.2 in
    rw (← c.self.view_is) (omega (arith, less, gone, c.min-count.ensures))
