use Rattle.std.proofs.Common.{refl}
use Rattle.sync_frames.proofs.Back.{behind_earliest}
use Rattle.sync_frames.proofs.Dropped.{none_synced, others_kept}
use Rattle.sync_frames.proofs.laws.syncs_are_dropped.Goals as goal

pub returns-clause-first : goal.returns-clause-first
returns-clause-first c = behind_earliest

pub returns-clause-none : goal.returns-clause-none
returns-clause-none c = none_synced

pub returns-clause-full : goal.returns-clause-full
returns-clause-full c bytes = refl

pub returns-clause-half : goal.returns-clause-half
returns-clause-half c place bytes = refl

pub returns-clause-others : goal.returns-clause-others
returns-clause-others c = others_kept

pub returns-clause-last : goal.returns-clause-last
returns-clause-last c place byte = (refl, refl)
