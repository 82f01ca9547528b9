use Rattle.std.proofs.Common.{arith, sym}
use Rattle.std.proofs.lemmas.Option.{slice_get_past}
use Rattle.etm_types.specs.Atoms.{low_bits}
use Rattle.element_queue.proofs.LowBits.{low_bits-at, low_bits-length}
use Rattle.element_queue.proofs.plain_atoms.PlainAtoms.get.Goals as goal

pub returns-then-index-self : goal.returns-then-index-self
returns-then-index-self c =
    let q = c.self.inside in
    let size = low_bits-length q.count q.bits in
    rw (← c.self.view_is) (sym (slice_get_past (low_bits q.count q.bits) c.args.index (omega (arith, size, c.if-index-self.true))))

pub returns : goal.returns
returns c =
    let q = c.self.inside in rw (← c.self.view_is) (sym (low_bits-at q.count q.bits c.args.index c.if-index-self.false))
