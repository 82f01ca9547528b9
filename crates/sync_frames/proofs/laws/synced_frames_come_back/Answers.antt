use Rattle.formatter_frames.specs.Framed.{framed}
use Rattle.sync_frames.proofs.Back.{come_back}
use Rattle.sync_frames.proofs.Even.{framed_not_ff}
use Rattle.sync_frames.proofs.Written.{written_is}
use Rattle.sync_frames.proofs.laws.synced_frames_come_back.Goals as goal

pub returns-clause-back : goal.returns-clause-back
returns-clause-back c = come_back

pub returns-clause-framed : goal.returns-clause-framed
returns-clause-framed c = λ pairs bytes sources synced. come_back (framed pairs) bytes (framed_not_ff pairs sources) synced

pub returns-clause-written : goal.returns-clause-written
returns-clause-written c = written_is
