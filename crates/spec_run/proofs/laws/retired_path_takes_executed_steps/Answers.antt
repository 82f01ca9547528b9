use Rattle.spec_run.proofs.PathFollows.{few, follows}
use Rattle.spec_run.proofs.laws.retired_path_takes_executed_steps.Goals as goal

pub returns-clause-follows : goal.returns-clause-follows
returns-clause-follows c = follows

pub returns-clause-few : goal.returns-clause-few
returns-clause-few c = few
