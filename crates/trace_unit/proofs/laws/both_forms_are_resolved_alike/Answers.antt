use Rattle.trace_unit.proofs.AllOrders.{alike}
use Rattle.trace_unit.proofs.RunOrders.{run_takes}
use Rattle.trace_unit.proofs.laws.both_forms_are_resolved_alike.Goals as goal

pub returns-clause-alike : goal.returns-clause-alike
returns-clause-alike c = alike

pub returns-clause-taken : goal.returns-clause-taken
returns-clause-taken c = run_takes
