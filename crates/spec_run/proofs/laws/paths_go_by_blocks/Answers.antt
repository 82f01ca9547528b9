use Rattle.spec_run.proofs.Shown.{blocks_show}
use Rattle.spec_run.proofs.StepLists.{blocks-append}
use Rattle.spec_run.proofs.laws.paths_go_by_blocks.Goals as goal

pub returns-clause-items : goal.returns-clause-items
returns-clause-items c = blocks_show

pub returns-clause-joined : goal.returns-clause-joined
returns-clause-joined c = blocks-append
