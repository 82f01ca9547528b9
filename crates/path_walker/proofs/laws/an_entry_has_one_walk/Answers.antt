use Rattle.path_walker.proofs.OneWalk.{one_walk}
use Rattle.path_walker.proofs.SomeWalk.{some_walk}
use Rattle.path_walker.proofs.laws.an_entry_has_one_walk.Goals as goal

pub returns-clause-one : goal.returns-clause-one
returns-clause-one c = one_walk

pub returns-clause-some : goal.returns-clause-some
returns-clause-some c = some_walk
