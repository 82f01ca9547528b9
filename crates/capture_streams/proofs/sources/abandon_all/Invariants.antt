use Rattle.std.proofs.Common.{◌≡◌, ℕ, List, length, map}
use Rattle.capture_streams.specs.Streams.{StandFrom, total}
use Rattle.capture_streams.specs.Texts.{by_sizes}
use Rattle.element_queue.specs.Counting.{Balances, no_counts}
use Rattle.etm_types.specs.Settings.{Sizes}
use Rattle.capture_streams.proofs.Ending.{Remaining}
use Rattle.capture_streams.proofs.sources.abandon_all.Given as goal

abbrev pub invariant-loop-stream : goal.invariant-loop-stream
invariant-loop-stream g l =
    record {
      value : total l.ledger (map g.S.Stream.counts_left l.ring.items) ≡ total no_counts (map g.S.Stream.counts_left l.fn.ring.items);
      balanced : Balances l.ledger 0;
      left : (shared : g.row.S-Shared.Denot) (t : ℕ → Sizes) (pairs : List (ℕ × ℕ)) (id : ℕ)
          → StandFrom (g.S.Stream.stands shared) g.S.Stream.sizes t id l.fn.ring.items pairs
          → Remaining (g.S.Stream.stands shared) g.S.Stream.sizes t (by_sizes (g.S.Stream.listing shared) t) pairs id l.fn.ring.items l.ring.items;
    }

abbrev pub decreases-loop-stream : goal.decreases-loop-stream
decreases-loop-stream g l = length l.ring.items
