use Rattle.path_walker.proofs.Joined.{parts_join, fault_stays, each_has_parts, rest_goes_on}
use Rattle.path_walker.proofs.laws.joined_things_have_joined_walks.Goals as goal

pub returns-clause-join : goal.returns-clause-join
returns-clause-join c = parts_join

pub returns-clause-parts : goal.returns-clause-parts
returns-clause-parts c = each_has_parts

pub returns-clause-rest : goal.returns-clause-rest
returns-clause-rest c = rest_goes_on

pub returns-clause-fault : goal.returns-clause-fault
returns-clause-fault c = fault_stays
