use Rattle.element_queue.proofs.Joined.{no_more_held}
use Rattle.element_queue.proofs.laws.no_more_than_the_depth_is_held.Goals as goal

pub returns : goal.returns
returns c = no_more_held
