use Rattle.std.proofs.Common.{None, subst}
use Rattle.std.specs.Prelude.{IsSome}
use Rattle.element_queue.proofs.packed.Packed.plain_atom.Goals as goal

pub returns-in_default-2-clause-some : goal.returns-in_default-2-clause-some
returns-in_default-2-clause-some c taken is = subst IsSome c.in_default.is (c.atom.ensures.some (record { addr = None; taken = taken }) is)
