use Rattle.path_elements.proofs.BytePaths.{one_path, some_path}
use Rattle.path_elements.proofs.path_laws.bytes_have_one_path.Goals as goal

pub returns-clause-one : goal.returns-clause-one
returns-clause-one c = one_path

pub returns-clause-some : goal.returns-clause-some
returns-clause-some c = some_path
