use Rattle.std.proofs.Common.{inr}
use Rattle.etm_types.specs.Atoms.{atoms_in}
use Rattle.element_queue.proofs.ManyAtoms.{no_plain_atom, oldest_held}
use Rattle.element_queue.proofs.queue.Queue.oldest_plain.Goals as goal

pub returns-clause-atoms : goal.returns-clause-atoms
returns-clause-atoms c =
    let q = c.self.inside in
    let run = c.oldest_plain.result in
    rw (← c.self.view_is) (oldest_held run.count q.unseen q.entries.items (atoms_in run) (inr c.if-self-gt0.false) c.oldest_plain.ensures.atoms)

pub returns-clause-all : goal.returns-clause-all
returns-clause-all c less =
    let q = c.self.inside in
    let run = c.oldest_plain.result in
    rw (← c.self.view_is) (no_plain_atom run.count q.unseen q.entries.items c.if-self-gt0.false (c.oldest_plain.ensures.all less))
