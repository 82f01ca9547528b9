use Rattle.std.proofs.Common.{◌≡◌, ℕ, ◌-◌, ◌<◌, ◌≤◌, slice_index_or}
use Rattle.formatter_frames.proofs.unpacked.FrameBytes.run_at.Given as goal

abbrev pub invariant-loop-end : goal.invariant-loop-end
invariant-loop-end l =
    record {
      first : l.i < l.end;
      last : l.end ≤ l.self-inside.count;
      each : (j : ℕ) → l.i ≤ j → j < l.end → slice_index_or l.self-inside.ids j 0 ≡ l.id;
    }

abbrev pub decreases-loop-end : goal.decreases-loop-end
decreases-loop-end l = l.self-inside.count - l.end
