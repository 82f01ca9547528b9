use Rattle.std.proofs.Common.{◌≡◌, length, arith, ap, sym, ◌∙◌}
use Rattle.element_queue.proofs.LowBits.{low_bits-length, one_more}
use Rattle.element_queue.proofs.plain_atoms.PlainAtoms.push.Goals as goal

pub returns : goal.returns
returns c =
    let q = c.self.inside in
    let size : q.count ≡ length c.args.self.now = sym (low_bits-length q.count q.bits) ∙ ap length c.self.view_is in
    rw (← c.self.view_is) (one_more q.count q.bits c.from.result c.args.taken c.self.invariant.1 (omega (arith, size, c.requires.room)) c.from.ensures)
