use Rattle.spec_run.proofs.EventsKept.{executed_so}
use Rattle.spec_run.proofs.laws.steps_are_executed.Goals as goal

pub returns : goal.returns
returns c = executed_so
