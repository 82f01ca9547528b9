use Rattle.std.proofs.Common.{◌≡◌, ◌<◌, ◌+◌, ◌%◌, ◌^◌, length}
use Rattle.trace_unit.proofs.window.Window.lose.Given as goal

abbrev pub invariant-loop-oldest : goal.invariant-loop-oldest
invariant-loop-oldest l =
    let w = l.self-inside in let was = l.initial.self-inside in record {
      capacity : w.ring.capacity ≡ was.ring.capacity;
      emptied : w.emptied ≡ was.emptied;
      made : w.ledger.made ≡ was.ledger.made;
      committed : w.ledger.committed ≡ was.ledger.committed;
      cancelled : w.ledger.cancelled ≡ was.ledger.cancelled;
      lost : (w.ledger.lost + length w.ring.items) % 2 ^ 64 ≡ (was.ledger.lost + length was.ring.items) % 2 ^ 64;
      small : w.ledger.lost < 2 ^ 64;
    }

abbrev pub decreases-loop-oldest : goal.decreases-loop-oldest
decreases-loop-oldest l = length l.self-inside.ring.items
