use Rattle.trace_unit.proofs.AllEvents.{told_shows}
use Rattle.trace_unit.proofs.laws.told_elements_show_the_retired_path.Goals as goal

pub returns : goal.returns
returns c = told_shows
