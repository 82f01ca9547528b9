use Rattle.std.proofs.Common.{subst, sym, arith}
use Rattle.element_queue.specs.Packed.{pre_of_packed}
use Rattle.element_queue.specs.Queued.{Queued, TakesPre}
use Rattle.element_queue.proofs.Balanced.{same_counts}
use Rattle.element_queue.proofs.Held.{queued, things}
use Rattle.element_queue.proofs.Noted.{takes_noted}
use Rattle.element_queue.proofs.queue.Queue.note.Goals as goal

pub returns-clause-takes : goal.returns-clause-takes
returns-clause-takes c =
    let q = c.self.inside in
    let was : Queued = record { held = things q.unseen q.entries.items; pre = pre_of_packed q.next; depth = q.depth; counts = q.ledger } in
    rw (← c.self.view_is)
    (subst (λ pre. TakesPre was c.args.elem (record was { pre = pre })) (sym c.note.ensures)
    (takes_noted was c.args.elem (same_counts _ _ (omega arith) (omega arith) (omega arith) (omega arith))))

pub returns-clause-queued : goal.returns-clause-queued
returns-clause-queued c = let i = c.self.invariant in queued _ _ _ _ _ i.1 i.3
