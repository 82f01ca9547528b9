use Rattle.std.proofs.Common.{length, ap, sym, ◌∙◌}
use Rattle.element_queue.proofs.LowBits.{low_bits-length}
use Rattle.element_queue.proofs.plain_atoms.PlainAtoms.len.Goals as goal

pub returns-clause-len : goal.returns-clause-len
returns-clause-len c = sym (low_bits-length c.self.inside.count c.self.inside.bits) ∙ ap length c.self.view_is
