use Rattle.std.proofs.Common.{◌≡◌, length}
use Rattle.element_queue.proofs.entries.Entries.replace_all.Given as goal

abbrev pub invariant-loop-slot : goal.invariant-loop-slot
invariant-loop-slot l = l.self.capacity ≡ l.fn.self.capacity

abbrev pub decreases-loop-slot : goal.decreases-loop-slot
decreases-loop-slot l = length l.self.items
