use Rattle.capture_streams.proofs.Sums.{nothing_stands}
use Rattle.capture_streams.proofs.sources.Sources.new.Goals as goal
use Rattle.etm_types.specs.SettingsTable.{sizes_at}

pub returns-clause-stands : goal.returns-clause-stands
returns-clause-stands g c =
    let shared = c.args.shared.now in
    record {
      count = c.in_ok-ring.ensures.count;
      each = c.in_ok-ring.ensures.stands shared;
      sum = nothing_stands (g.S.Stream.sums shared) (g.S.Stream.listing shared) (sizes_at c.args.table.now) c.in_ok-sum.sum c.in_ok-sum.ensures;
    }
