use Rattle.std.proofs.Common.{◌≤◌, arith, length, ap, sym}
use Rattle.element_queue.proofs.LowBits.{low_bits-drop, low_bits-length, rest_fits}
use Rattle.element_queue.proofs.plain_atoms.PlainAtoms.drop_front.Goals as goal

pub overflow_sub-self : goal.overflow_sub-self
overflow_sub-self c =
    let size = low_bits-length c.self.inside.count c.self.inside.bits in
    omega (arith, c.requires.within, size, ap length c.self.view_is)

pub invariant_of-self : goal.invariant_of-self
invariant_of-self c =
    let q = c.self.inside in
    let size = low_bits-length q.count q.bits in
    let within : c.args.n ≤ q.count = omega (arith, c.requires.within, size, ap length c.self.view_is) in
    (omega (arith, c.self.invariant.0), rest_fits c.args.n q.count q.bits within c.self.invariant.1)

pub returns : goal.returns
returns c =
    let q = c.self.inside in
    let size = low_bits-length q.count q.bits in
    let within : c.args.n ≤ q.count = omega (arith, c.requires.within, size, ap length c.self.view_is) in
    rw (← c.self.view_is) (sym (low_bits-drop c.args.n q.count q.bits within))
