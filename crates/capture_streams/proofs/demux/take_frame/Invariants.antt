use Rattle.std.proofs.Common.{◌≡◌, ◌+◌, ◌-◌, ◌≤◌, ℕ, List, ◌++◌, length, map, take}
use Rattle.std.specs.Prelude.{All}
use Rattle.capture_streams.specs.Streams.{AllStand, HoldsToDepth, IsReady}
use Rattle.capture_streams.specs.Texts.{by_sizes}
use Rattle.etm_types.specs.Settings.{Sizes}
use Rattle.capture_streams.proofs.Writing.{Written}
use Rattle.capture_streams.proofs.demux.take_frame.Given as goal
use Rattle.trace_io.specs.Bytes.{ShowsAsBefore}
use Rattle.trace_io.specs.Causes.{KeepsFaults}

abbrev pub decreases-loop-id : goal.decreases-loop-id
decreases-loop-id g l = length l.frame - l.place

abbrev pub invariant-loop-id : goal.invariant-loop-id
invariant-loop-id g l =
    let state = g.K.Sink.state in let at = g.S.Stream.stands l.shared in
    record {
      within : l.place ≤ length l.frame;
      stands : (t : ℕ → Sizes) (pairs : List (ℕ × ℕ)) → AllStand at g.S.Stream.sizes (g.S.Stream.sums l.shared) (g.S.Stream.listing l.shared) t l.fn.sources pairs
          → AllStand at g.S.Stream.sizes (g.S.Stream.sums l.shared) (g.S.Stream.listing l.shared) t l.sources (pairs ++ take l.place l.frame);
      written : (t : ℕ → Sizes) (pairs : List (ℕ × ℕ)) → AllStand at g.S.Stream.sizes (g.S.Stream.sums l.shared) (g.S.Stream.listing l.shared) t l.fn.sources pairs
          → Written (by_sizes (g.S.Stream.listing l.shared) t) pairs (take l.place l.frame) (state l.fn.sink) (state l.sink);
      kept : KeepsFaults (state l.fn.sink) (state l.sink);
      shows : ShowsAsBefore (state l.fn.sink) (state l.sink);
      ready : (most : ℕ) → All (IsReady g.S.Stream.broken g.S.Stream.offset most) l.fn.sources.streams
          → All (IsReady g.S.Stream.broken g.S.Stream.offset (most + l.place)) l.sources.streams;
      sizes : map g.S.Stream.sizes l.sources.streams ≡ map g.S.Stream.sizes l.fn.sources.streams;
      held : All (HoldsToDepth g.S.Stream.held g.S.Stream.sizes) l.fn.sources.streams → All (HoldsToDepth g.S.Stream.held g.S.Stream.sizes) l.sources.streams;
    }
