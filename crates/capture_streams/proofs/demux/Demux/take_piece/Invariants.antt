use Rattle.std.proofs.Common.{◌≡◌, ◌+◌, ◌-◌, ◌*◌, ◌≤◌, ℕ, List, ◌++◌, length, map, take, false}
use Rattle.std.specs.Prelude.{All}
use Rattle.capture_streams.specs.Demuxed.{Demuxed, StandsAt}
use Rattle.capture_streams.specs.Streams.{HoldsToDepth, IsReady}
use Rattle.capture_streams.specs.Texts.{by_sizes}
use Rattle.etm_types.specs.Settings.{Sizes}
use Rattle.formatter_frames.specs.Unframed.{unframed}
use Rattle.capture_streams.proofs.Writing.{Gained}
use Rattle.capture_streams.proofs.demux.Demux.take_piece.Given as goal
use Rattle.trace_io.specs.Bytes.{ShowsAsBefore}
use Rattle.trace_io.specs.Causes.{KeepsFaults}

abbrev pub decreases-loop-at : goal.decreases-loop-at
decreases-loop-at g l = length l.piece - l.at

abbrev pub invariant-loop-at : goal.invariant-loop-at
invariant-loop-at g l =
    let state = g.K.Sink.state in let there = g.S.Stream.stands l.shared in
    let d : Demuxed g.row.S.Denot g.row.S-Sum.Denot =
    record { frames = l.self-inside.frames; sources = l.self-inside.sources; offset = l.self-inside.offset; broken = l.self-inside.broken } in
    record {
      within : l.at ≤ length l.piece;
      stands : (t : ℕ → Sizes) (bytes : List ℕ) → StandsAt there g.S.Stream.sizes (g.S.Stream.sums l.shared) (g.S.Stream.listing l.shared) t l.fn.self bytes
          → StandsAt there g.S.Stream.sizes (g.S.Stream.sums l.shared) (g.S.Stream.listing l.shared) t d (bytes ++ take l.at l.piece);
      gained : (t : ℕ → Sizes) (bytes : List ℕ) → StandsAt there g.S.Stream.sizes (g.S.Stream.sums l.shared) (g.S.Stream.listing l.shared) t l.fn.self bytes
          → Gained unframed (by_sizes (g.S.Stream.listing l.shared) t) bytes (take l.at l.piece) (state l.fn.sink) (state l.sink);
      kept : KeepsFaults (state l.fn.sink) (state l.sink);
      shows : ShowsAsBefore (state l.fn.sink) (state l.sink);
      offset : l.self-inside.offset ≡ l.fn.self.offset + l.at;
      whole : l.self-inside.broken ≡ false;
      ready : All (IsReady g.S.Stream.broken g.S.Stream.offset (15 * l.self-inside.offset)) l.self-inside.sources.streams;
      sizes : map g.S.Stream.sizes l.self-inside.sources.streams ≡ map g.S.Stream.sizes l.fn.self.sources.streams;
      most : All (HoldsToDepth g.S.Stream.held g.S.Stream.sizes) l.self-inside.sources.streams;
    }
