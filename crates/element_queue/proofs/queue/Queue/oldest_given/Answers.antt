use Rattle.element_queue.specs.Queued.{entry_of}
use Rattle.element_queue.proofs.GivenFronts.{begins_first, from_first, things_seen}
use Rattle.element_queue.proofs.Held.{which}
use Rattle.element_queue.proofs.queue.Queue.oldest_given.Goals as goal

pub returns-clause-some : goal.returns-clause-some
returns-clause-some c =
    let q = c.self.inside in
    rw (← c.self.view_is) (
      λ some.
          let told = which c.oldest_given.result _ c.oldest_given.ensures.value some in
          let first = begins_first told.0 _ told.1 in
          rw (things_seen q.unseen q.entries.items c.if-self-gt0.false) (record { addr = (told.0).addr; taken = first.0 }, first.1),
      λ told. c.oldest_given.ensures.some told.0 (from_first q.unseen q.entries.items (entry_of told.0) c.if-self-gt0.false told.1),
    )
