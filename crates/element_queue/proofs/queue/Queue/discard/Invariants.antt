use Rattle.std.proofs.Common.{◌≡◌, ◌<◌, ◌+◌, ◌%◌, ◌^◌, length}
use Rattle.element_queue.proofs.queue.Queue.discard.Given as goal

abbrev pub invariant-loop-oldest : goal.invariant-loop-oldest
invariant-loop-oldest l =
    let q = l.self-inside in let was = l.initial.self-inside in record {
      depth : q.depth ≡ was.depth;
      capacity : q.entries.capacity ≡ was.entries.capacity;
      made : q.ledger.made ≡ was.ledger.made;
      committed : q.ledger.committed ≡ was.ledger.committed;
      cancelled : q.ledger.cancelled ≡ was.ledger.cancelled;
      lost : (q.ledger.lost + length q.entries.items) % 2 ^ 64 ≡ (was.ledger.lost + length was.entries.items) % 2 ^ 64;
      small : q.ledger.lost < 2 ^ 64;
    }

abbrev pub decreases-loop-oldest : goal.decreases-loop-oldest
decreases-loop-oldest l = length l.self-inside.entries.items
