use Rattle.std.proofs.Common.{◌-◌, ◌*◌, ◌/◌, ◌≡◌, ◌≤◌, ℕ, List, ◌++◌, length, drop}
use Rattle.formatter_frames.specs.Pieces.{pieces}
use Rattle.sync_frames.specs.Synced.{synced_frames}
use Rattle.trace_io.specs.Bytes.{AppendsAll, ShowsAsBefore}
use Rattle.trace_io.specs.Causes.{KeepsFaults}
use Rattle.sync_frames.proofs.write.write_synced.Given as goal

abbrev pub invariant-loop-k : goal.invariant-loop-k
invariant-loop-k g l = record {
  within : l.k ≤ l.count;
  count : l.count ≡ length l.frames / 16;
  done : List ℕ;
  wrote : AppendsAll (g.K.Sink.state l.fn.sink) (g.K.Sink.state l.sink) done;
  all : synced_frames l.every 0 (pieces 16 l.count l.frames) ≡ done ++ synced_frames l.every l.k (pieces 16 (l.count - l.k) (drop (16 * l.k) l.frames));
  shows : ShowsAsBefore (g.K.Sink.state l.fn.sink) (g.K.Sink.state l.sink);
  kept : KeepsFaults (g.K.Sink.state l.fn.sink) (g.K.Sink.state l.sink);
}

abbrev pub decreases-loop-k : goal.decreases-loop-k
decreases-loop-k g l = l.count - l.k
