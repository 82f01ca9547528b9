use Rattle.program_image.proofs.Placed.{image_read}
use Rattle.program_image.proofs.Spelled.{image_spelled}
use Rattle.program_image.proofs.laws.reads_what_is_spelled.Goals as goal

pub returns-clause-image : goal.returns-clause-image
returns-clause-image c = image_read

pub returns-clause-spelled : goal.returns-clause-spelled
returns-clause-spelled c = image_spelled
