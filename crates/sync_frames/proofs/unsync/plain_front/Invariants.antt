use Rattle.std.proofs.Common.{◌≡◌, ◌+◌, ◌-◌, ◌≤◌, length, drop}
use Rattle.sync_frames.specs.Unsyncing.{plain_length}
use Rattle.sync_frames.proofs.unsync.plain_front.Given as goal

abbrev pub decreases-loop-count : goal.decreases-loop-count
decreases-loop-count l = length l.bytes - l.count

abbrev pub invariant-loop-count : goal.invariant-loop-count
invariant-loop-count l = record {
  within : l.count ≤ length l.bytes;
  plain : plain_length l.bytes ≡ l.count + plain_length (drop l.count l.bytes);
}
