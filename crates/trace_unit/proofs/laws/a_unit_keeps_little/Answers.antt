use Rattle.trace_unit.proofs.PlacesFew.{keeps_little}
use Rattle.trace_unit.proofs.Sizes.{waits_little}
use Rattle.trace_unit.proofs.laws.a_unit_keeps_little.Goals as goal

pub returns-clause-places : goal.returns-clause-places
returns-clause-places c = keeps_little

pub returns-clause-waiting : goal.returns-clause-waiting
returns-clause-waiting c = waits_little
