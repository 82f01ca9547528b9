use Rattle.std.proofs.Common.{◌≡◌, ◌+◌, ◌-◌, ◌≤◌, [], length}
use Rattle.std.specs.Prelude.{All}
use Rattle.capture_streams.specs.Streams.{HoldsToDepth, IsReady, StandFrom, source_count}
use Rattle.etm_types.specs.SettingsTable.{sizes_at}
use Rattle.capture_streams.proofs.sources.new_streams.Given as goal

abbrev pub invariant-loop-id : goal.invariant-loop-id
invariant-loop-id g l =
    record {
      capacity : l.ring.capacity ≡ source_count;
      place : l.next ≡ 1 + length l.ring.items;
      few : length l.ring.items ≤ source_count;
      stands : (shared : g.row.S-Shared.Denot) → StandFrom (g.S.Stream.stands shared) g.S.Stream.sizes (sizes_at l.fn.table) 1 l.ring.items [];
      ready : All (IsReady g.S.Stream.broken g.S.Stream.offset 0) l.ring.items;
      most : All (HoldsToDepth g.S.Stream.held g.S.Stream.sizes) l.ring.items;
    }

abbrev pub decreases-loop-id : goal.decreases-loop-id
decreases-loop-id g l = source_count - length l.ring.items
