use Rattle.path_elements.proofs.Taken.{in_range, spelled}
use Rattle.path_elements.proofs.laws.spelled_packets_can_be_taken.Goals as goal

pub returns-clause-in_range : goal.returns-clause-in_range
returns-clause-in_range c = in_range

pub returns-clause-spelled : goal.returns-clause-spelled
returns-clause-spelled c = spelled
