use Rattle.path_elements.proofs.BytePaths.{fault_is_last, fault_stays, path_grows}
use Rattle.path_elements.proofs.path_laws.a_path_grows.Goals as goal

pub returns-clause-items : goal.returns-clause-items
returns-clause-items c = path_grows

pub returns-clause-fault : goal.returns-clause-fault
returns-clause-fault c = fault_is_last

pub returns-clause-stays : goal.returns-clause-stays
returns-clause-stays c = fault_stays
