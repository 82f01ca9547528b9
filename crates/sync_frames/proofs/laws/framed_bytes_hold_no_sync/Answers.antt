use Rattle.sync_frames.proofs.Even.{framed_not_ff}
use Rattle.sync_frames.proofs.laws.framed_bytes_hold_no_sync.Goals as goal

pub returns : goal.returns
returns c = framed_not_ff
