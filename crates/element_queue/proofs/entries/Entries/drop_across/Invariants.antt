use Rattle.std.proofs.Common.{◌≡◌, drop}
use Rattle.element_queue.specs.Kept.{kept}
use Rattle.element_queue.proofs.entries.Entries.drop_across.Given as goal

abbrev pub invariant-loop : goal.invariant-loop
invariant-loop l = l.self ≡ kept (drop l.counter l.fn.self.items) l.fn.self.capacity
