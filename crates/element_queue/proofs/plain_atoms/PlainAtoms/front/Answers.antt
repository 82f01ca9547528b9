use Rattle.std.proofs.Common.{◌≤◌, ◌%◌, arith, length, ap, sym, ◌∙◌}
use Rattle.std.proofs.lemmas.Nat.{one_shl}
use Rattle.etm_types.specs.Atoms.{low_bits}
use Rattle.element_queue.proofs.LowBits.{low_bits-length, low_bits-take}
use Rattle.element_queue.proofs.plain_atoms.PlainAtoms.front.Goals as goal

pub returns-clause-atoms : goal.returns-clause-atoms
returns-clause-atoms c =
    let q = c.self.inside in
    let n = c.min-count.result in
    let within : n ≤ q.count = omega (arith, c.min-count.ensures) in
    let mask = one_shl n 64 (omega (arith, c.min-count.ensures)) in
    rw (← c.self.view_is) (ap (λ k. low_bits n (q.bits % k)) mask ∙ sym (low_bits-take n q.count q.bits within))

pub returns-clause-within : goal.returns-clause-within
returns-clause-within c =
    let size = low_bits-length c.self.inside.count c.self.inside.bits in
    omega (arith, c.min-count.ensures, size, ap length c.self.view_is)

pub returns-clause-all : goal.returns-clause-all
returns-clause-all c less =
    let size = low_bits-length c.self.inside.count c.self.inside.bits in
    omega (arith, less, c.min-count.ensures, size, ap length c.self.view_is)
