use Rattle.std.proofs.Common.{◌-◌, ◌≡◌, ◌≤◌, ◌+◌, length}
use Rattle.stream_decoder.specs.Waiting.{DropsDue, IsWaiting}
use Rattle.stream_decoder.proofs.machine.oldest.drop_each.Given as goal

abbrev pub decreases-loop-k : goal.decreases-loop-k
decreases-loop-k l = l.n - l.k

abbrev pub invariant-loop-k : goal.invariant-loop-k
invariant-loop-k l =
    record {
      drops : DropsDue l.fn.waiting l.k l.waiting;
      due : l.k + length l.waiting.due ≡ length l.fn.waiting.due;
      most : l.k ≤ l.n;
      holds : IsWaiting l.waiting;
    }
