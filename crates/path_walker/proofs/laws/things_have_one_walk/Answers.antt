use Rattle.path_walker.proofs.OneTrail.{one_trail, some_trail}
use Rattle.path_walker.proofs.laws.things_have_one_walk.Goals as goal

pub returns-clause-one : goal.returns-clause-one
returns-clause-one c = one_trail

pub returns-clause-some : goal.returns-clause-some
returns-clause-some c = some_trail
