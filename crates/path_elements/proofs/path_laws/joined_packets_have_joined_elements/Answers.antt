use Rattle.path_elements.proofs.Joined.{elements_join, offsets_do_not_count}
use Rattle.path_elements.proofs.path_laws.joined_packets_have_joined_elements.Goals as goal

pub returns-clause-joined : goal.returns-clause-joined
returns-clause-joined c = elements_join

pub returns-clause-offsets : goal.returns-clause-offsets
returns-clause-offsets c = offsets_do_not_count
