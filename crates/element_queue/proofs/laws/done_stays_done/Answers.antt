use Rattle.element_queue.proofs.Joined.{stays_done}
use Rattle.element_queue.proofs.laws.done_stays_done.Goals as goal

pub returns : goal.returns
returns c = stays_done
