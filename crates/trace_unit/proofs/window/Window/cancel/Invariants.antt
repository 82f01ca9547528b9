use Rattle.std.proofs.Common.{◌≡◌, ◌+◌, ◌-◌, ◌%◌, ◌^◌, length, take}
use Rattle.trace_unit.proofs.window.Window.cancel.Given as goal

abbrev pub invariant-loop : goal.invariant-loop
invariant-loop l =
    let w = l.self-inside in let was = l.initial.self-inside in record {
      items : w.ring.items ≡ take (length was.ring.items - l.counter) was.ring.items;
      capacity : w.ring.capacity ≡ was.ring.capacity;
      emptied : w.emptied ≡ was.emptied;
      made : w.ledger.made ≡ was.ledger.made;
      committed : w.ledger.committed ≡ was.ledger.committed;
      cancelled : w.ledger.cancelled ≡ (was.ledger.cancelled + l.counter) % 2 ^ 64;
      lost : w.ledger.lost ≡ was.ledger.lost;
    }
