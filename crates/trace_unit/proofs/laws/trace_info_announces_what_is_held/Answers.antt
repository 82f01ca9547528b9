use Rattle.trace_unit.proofs.Announced.{announced}
use Rattle.trace_unit.proofs.laws.trace_info_announces_what_is_held.Goals as goal

pub returns : goal.returns
returns c = announced
