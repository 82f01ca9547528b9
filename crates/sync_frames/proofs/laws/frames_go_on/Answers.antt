use Rattle.sync_frames.specs.Laid.{synced_grows, synced_laid_is}
use Rattle.sync_frames.proofs.Standing.{held_back}
use Rattle.sync_frames.proofs.laws.frames_go_on.Goals as goal

pub returns-clause-laid : goal.returns-clause-laid
returns-clause-laid c = synced_laid_is

pub returns-clause-grows : goal.returns-clause-grows
returns-clause-grows c = synced_grows

pub returns-clause-held : goal.returns-clause-held
returns-clause-held c = held_back
