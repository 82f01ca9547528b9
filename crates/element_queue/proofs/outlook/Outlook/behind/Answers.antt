use Rattle.std.proofs.Common.{◌≤◌, arith, length, ap}
use Rattle.element_queue.specs.Outlooks.{Outlook}
use Rattle.element_queue.proofs.LowBits.{rest_fits}
use Rattle.element_queue.proofs.Parts.{behind-oldest, gone-length}
use Rattle.element_queue.proofs.outlook.Outlook.behind.Goals as goal

pub overflow_sub-result : goal.overflow_sub-result
overflow_sub-result c =
    let o = c.self.inside in
    let gone = gone-length o.committed o.count o.bits c.self.invariant.2 in
    omega (arith, c.requires.within, c.self.invariant.2, gone, ap (λ (t : Outlook). length t.gone) c.self.view_is)

pub returns-clause-atoms : goal.returns-clause-atoms
returns-clause-atoms c =
    let o = c.self.inside in
    let gone = gone-length o.committed o.count o.bits c.self.invariant.2 in
    let within : c.args.n ≤ o.count =
    omega (arith, c.requires.within, c.self.invariant.2, gone, ap (λ (t : Outlook). length t.gone) c.self.view_is) in
    rw (← c.self.view_is) (behind-oldest c.args.n o.committed o.count o.bits within)

pub returns-clause-bits : goal.returns-clause-bits
returns-clause-bits c =
    let o = c.self.inside in
    let gone = gone-length o.committed o.count o.bits c.self.invariant.2 in
    let within : c.args.n ≤ o.count =
    omega (arith, c.requires.within, c.self.invariant.2, gone, ap (λ (t : Outlook). length t.gone) c.self.view_is) in
    (omega (arith, c.self.invariant.0), rest_fits c.args.n o.count o.bits within c.self.invariant.1)
