use Rattle.trace_unit.proofs.RunOrders.{whole_shows}
use Rattle.trace_unit.proofs.laws.whole_elements_show_the_retired_path.Goals as goal

pub returns : goal.returns
returns c = whole_shows
