use Rattle.std.proofs.Common.{◌≡◌, ◌+◌, ◌%◌, ◌^◌, List, ◌++◌, length}
use Rattle.etm_types.specs.declared.element.Entry.{Entry}
use Rattle.element_queue.specs.Packed.{pre_of_packed}
use Rattle.element_queue.specs.Queued.{given_since}
use Rattle.element_queue.proofs.queue.Queue.cancel_each.Given as goal

abbrev pub invariant-loop : goal.invariant-loop
invariant-loop l =
    let q = l.self-inside in let was = l.initial.self-inside in (gone : List Entry) × record {
      unseen : q.unseen ≡ was.unseen;
      depth : q.depth ≡ was.depth;
      capacity : q.entries.capacity ≡ was.entries.capacity;
      made : q.ledger.made ≡ was.ledger.made;
      committed : q.ledger.committed ≡ was.ledger.committed;
      cancelled : q.ledger.cancelled ≡ (was.ledger.cancelled + l.counter) % 2 ^ 64;
      lost : q.ledger.lost ≡ was.ledger.lost;
      split : q.entries.items ++ gone ≡ was.entries.items;
      count : length gone ≡ l.counter;
      next : pre_of_packed q.next ≡ given_since (pre_of_packed was.next) gone;
    }
