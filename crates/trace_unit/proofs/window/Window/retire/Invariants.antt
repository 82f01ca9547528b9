use Rattle.std.proofs.Common.{◌≡◌, ◌+◌, ◌%◌, ◌^◌, drop}
use Rattle.trace_unit.proofs.window.Window.retire.Given as goal

abbrev pub invariant-loop : goal.invariant-loop
invariant-loop l =
    let w = l.self-inside in let was = l.initial.self-inside in record {
      items : w.ring.items ≡ drop l.counter was.ring.items;
      capacity : w.ring.capacity ≡ was.ring.capacity;
      emptied : w.emptied ≡ was.emptied;
      made : w.ledger.made ≡ was.ledger.made;
      committed : w.ledger.committed ≡ (was.ledger.committed + l.counter) % 2 ^ 64;
      cancelled : w.ledger.cancelled ≡ was.ledger.cancelled;
      lost : w.ledger.lost ≡ was.ledger.lost;
    }
