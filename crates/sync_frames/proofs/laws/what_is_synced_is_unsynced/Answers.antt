use Rattle.sync_frames.proofs.Written.{later_frames_back}
use Rattle.sync_frames.proofs.laws.what_is_synced_is_unsynced.Goals as goal

pub returns : goal.returns
returns c = later_frames_back
