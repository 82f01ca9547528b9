use Rattle.std.proofs.Common.{◌≡◌, ◌+◌, ◌≤◌, ℕ, List, length}
use Rattle.std.specs.Prelude.{All}
use Rattle.capture_streams.specs.Streams.{IsReady, StandFrom}
use Rattle.capture_streams.specs.Texts.{by_sizes}
use Rattle.etm_types.specs.Settings.{Sizes}
use Rattle.capture_streams.proofs.Ending.{EndedTo}
use Rattle.capture_streams.proofs.sources.finish_all.Given as goal
use Rattle.trace_io.specs.Bytes.{ShowsAsBefore}
use Rattle.trace_io.specs.Causes.{KeepsFaults}

abbrev pub invariant-loop-stream : goal.invariant-loop-stream
invariant-loop-stream g l =
    let state = g.K.Sink.state in
    record {
      count : l.id + length l.ring.items ≡ 112;
      stands : (shared : g.row.S-Shared.Denot) (t : ℕ → Sizes) (pairs : List (ℕ × ℕ)) → StandFrom (g.S.Stream.stands shared) g.S.Stream.sizes t 1 l.fn.ring.items pairs
          → StandFrom (g.S.Stream.stands shared) g.S.Stream.sizes t l.id l.ring.items pairs;
      ended : (shared : g.row.S-Shared.Denot) (t : ℕ → Sizes) (pairs : List (ℕ × ℕ)) → StandFrom (g.S.Stream.stands shared) g.S.Stream.sizes t 1 l.fn.ring.items pairs
          → EndedTo (by_sizes (g.S.Stream.listing shared) t) pairs 1 l.id l.whole (state l.fn.sink) (state l.sink);
      kept : KeepsFaults (state l.fn.sink) (state l.sink);
      shows : ShowsAsBefore (state l.fn.sink) (state l.sink);
      ready : (most : ℕ) × All (IsReady g.S.Stream.broken g.S.Stream.offset most) l.ring.items;
      from : 1 ≤ l.id;
    }

abbrev pub decreases-loop-stream : goal.decreases-loop-stream
decreases-loop-stream g l = length l.ring.items
