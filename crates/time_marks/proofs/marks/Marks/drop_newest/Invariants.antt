use Rattle.std.proofs.Common.{◌≡◌, ◌≤◌, ◌-◌, ◌+◌, length, take}
use Rattle.time_marks.proofs.marks.Marks.drop_newest.Given as goal

abbrev pub invariant-loop-left : goal.invariant-loop-left
invariant-loop-left l = record {
  within : l.left ≤ length l.self.items;
  count : length l.self.items ≡ l.left + (length l.fn.self.items - l.n);
  items : l.self.items ≡ take (length l.self.items) l.fn.self.items;
  capacity : l.self.capacity ≡ l.fn.self.capacity;
}

abbrev pub decreases-loop-left : goal.decreases-loop-left
decreases-loop-left l = l.left
