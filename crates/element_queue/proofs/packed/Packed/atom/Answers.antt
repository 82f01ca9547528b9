use Rattle.std.proofs.Common.{ap}
use Rattle.etm_types.specs.declared.element.Entry.{Entry}
use Rattle.element_queue.proofs.Held.{none_there}
use Rattle.element_queue.proofs.packed.Packed.atom.Goals as goal

pub returns-in_err-addr-clause-some : goal.returns-in_err-addr-clause-some
returns-in_err-addr-clause-some c atom is =
    absurd (none_there _ c.in_err-addr.was (c.only_addr.ensures.some atom.addr (ap (λ (e : Entry). e.pre) is)))
