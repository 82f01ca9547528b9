use Rattle.std.proofs.Common.{[], ◌∙◌}
use Rattle.sync_frames.proofs.synced.SyncedDemux.new.Goals as goal

pub returns : goal.returns
returns g c =
    record {
      stands = (
        record { given = []; unsync = c.new-2.ensures.stands; demux = c.in_ok-demux.ensures.stands },
        c.offset.ensures.value ∙ (c.in_ok-demux.ensures.stands).offset,
      );
    }
