use Rattle.program_image.proofs.First.{first_fault}
use Rattle.program_image.proofs.laws.a_fault_is_that_of_the_first_line.Goals as goal

pub returns : goal.returns
returns c = first_fault
