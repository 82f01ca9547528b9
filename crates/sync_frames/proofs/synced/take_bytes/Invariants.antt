use Rattle.std.proofs.Common.{◌≡◌, ◌+◌, ◌-◌, ◌≤◌, ℕ, List, ◌++◌, length, take, false}
use Rattle.capture_streams.specs.Texts.{by_sizes}
use Rattle.etm_types.specs.Settings.{Sizes}
use Rattle.capture_streams.proofs.Writing.{Gained}
use Rattle.sync_frames.specs.Laid.{synced_pairs}
use Rattle.sync_frames.specs.Synchronised.{HaveTaken}
use Rattle.sync_frames.proofs.synced.take_bytes.Given as goal
use Rattle.trace_io.specs.Bytes.{ShowsAsBefore}
use Rattle.trace_io.specs.Causes.{KeepsFaults}

abbrev pub decreases-loop-at : goal.decreases-loop-at
decreases-loop-at g l = length l.piece - l.at

abbrev pub invariant-loop-at : goal.invariant-loop-at
invariant-loop-at g l =
    let state = g.K.Sink.state in let there = g.S.Stream.stands l.shared in
    record {
      within : l.at ≤ length l.piece;
      stands : (t : ℕ → Sizes) (bytes : List ℕ) → HaveTaken there g.S.Stream.sizes (g.S.Stream.sums l.shared) (g.S.Stream.listing l.shared) t l.fn.unsync l.fn.demux bytes
          → HaveTaken there g.S.Stream.sizes (g.S.Stream.sums l.shared) (g.S.Stream.listing l.shared) t l.unsync l.demux (bytes ++ take l.at l.piece);
      gained : (t : ℕ → Sizes) (bytes : List ℕ) → HaveTaken there g.S.Stream.sizes (g.S.Stream.sums l.shared) (g.S.Stream.listing l.shared) t l.fn.unsync l.fn.demux bytes
          → Gained synced_pairs (by_sizes (g.S.Stream.listing l.shared) t) bytes (take l.at l.piece) (state l.fn.sink) (state l.sink);
      kept : KeepsFaults (state l.fn.sink) (state l.sink);
      shows : ShowsAsBefore (state l.fn.sink) (state l.sink);
      room : l.demux.offset + length l.unsync.held ≤ l.fn.demux.offset + length l.fn.unsync.held + l.at;
      whole : l.demux.broken ≡ false;
    }
