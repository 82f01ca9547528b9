use Rattle.std.proofs.Common.{sym, subst}
use Rattle.capture_streams.specs.Demuxed.{StandsAt}
use Rattle.etm_types.specs.SettingsTable.{sizes_at}
use Rattle.ring_capture.specs.Laid.{later_none}
use Rattle.ring_capture.proofs.wrapped.WrappedDemux.new.Goals as goal

pub returns-clause-stands : goal.returns-clause-stands
returns-clause-stands g c =
    let shared = c.args.shared.now in
    record {
      unwrap = c.in_ok-unwrap.ensures.stands;
      demux = subst (StandsAt (g.S.Stream.stands shared) g.S.Stream.sizes (g.S.Stream.sums shared) (g.S.Stream.listing shared)
          (sizes_at c.args.table.now) c.in_ok-new.field-0) (sym (later_none c.in_ok-unwrap.unwrap.frames)) c.in_ok-new.ensures.stands;
    }
