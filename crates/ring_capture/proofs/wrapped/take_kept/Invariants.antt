use Rattle.std.proofs.Common.{◌≡◌, ◌+◌, ◌-◌, ◌*◌, ◌≤◌, ℕ, List, ◌++◌, length, take, false}
use Rattle.capture_streams.specs.Demuxed.{StandsAt}
use Rattle.capture_streams.specs.Texts.{by_sizes}
use Rattle.etm_types.specs.Settings.{Sizes}
use Rattle.formatter_frames.specs.Unframed.{unframed}
use Rattle.capture_streams.proofs.Writing.{Gained}
use Rattle.trace_io.specs.Bytes.{ShowsAsBefore}
use Rattle.trace_io.specs.Causes.{KeepsFaults}
use Rattle.ring_capture.specs.Rotated.{later_frames}
use Rattle.ring_capture.specs.Wrapped.{HaveTaken}
use Rattle.ring_capture.proofs.wrapped.take_kept.Given as goal

abbrev pub decreases-loop-frame : goal.decreases-loop-frame
decreases-loop-frame g l = length l.unwrap.kept - 16 * l.j

abbrev pub invariant-loop-frame : goal.invariant-loop-frame
invariant-loop-frame g l =
    let state = g.K.Sink.state in let there = g.S.Stream.stands l.shared in
    record {
      within : 16 * l.j ≤ length l.unwrap.kept;
      stands : (t : ℕ → Sizes) (bytes : List ℕ) → HaveTaken there g.S.Stream.sizes (g.S.Stream.sums l.shared) (g.S.Stream.listing l.shared) t l.unwrap l.fn.demux bytes
          → StandsAt there g.S.Stream.sizes (g.S.Stream.sums l.shared) (g.S.Stream.listing l.shared) t l.demux (later_frames l.unwrap.frames bytes ++ take (16 * l.j) l.unwrap.kept);
      gained : (t : ℕ → Sizes) (bytes : List ℕ) → HaveTaken there g.S.Stream.sizes (g.S.Stream.sums l.shared) (g.S.Stream.listing l.shared) t l.unwrap l.fn.demux bytes
          → Gained unframed (by_sizes (g.S.Stream.listing l.shared) t) (later_frames l.unwrap.frames bytes) (take (16 * l.j) l.unwrap.kept)
          (state l.fn.sink) (state l.sink);
      kept : KeepsFaults (state l.fn.sink) (state l.sink);
      shows : ShowsAsBefore (state l.fn.sink) (state l.sink);
      offset : l.demux.offset ≡ l.fn.demux.offset + 16 * l.j;
      whole : l.demux.broken ≡ false;
    }
