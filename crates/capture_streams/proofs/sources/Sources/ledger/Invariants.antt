use Rattle.std.proofs.Common.{◌≡◌, ◌-◌, ◌≤◌, ℕ, List, length, map, take}
use Rattle.etm_types.specs.Settings.{Sizes}
use Rattle.capture_streams.specs.Streams.{StandFrom, TalliedFrom, total}
use Rattle.element_queue.specs.Counting.{no_counts}
use Rattle.capture_streams.proofs.sources.Sources.ledger.Given as goal

abbrev pub invariant-loop-stream : goal.invariant-loop-stream
invariant-loop-stream g l =
    record {
      value : l.sum ≡ total no_counts (map g.S.Stream.counts (take l.place l.self-inside.ring.items));
      tallied : (shared : g.row.S-Shared.Denot) (t : ℕ → Sizes) (pairs : List (ℕ × ℕ))
          → StandFrom (g.S.Stream.stands shared) g.S.Stream.sizes t 1 l.self-inside.ring.items pairs
          → TalliedFrom (g.S.Stream.tallies shared) t 1 (map g.S.Stream.counts (take l.place l.self-inside.ring.items)) pairs;
      within : l.place ≤ length l.self-inside.ring.items;
    }

abbrev pub decreases-loop-stream : goal.decreases-loop-stream
decreases-loop-stream g l = length l.self-inside.ring.items - l.place
