use Rattle.elf_image.proofs.First.{is_first, not_refused}
use Rattle.elf_image.proofs.laws.a_refusal_is_the_first.Goals as goal

pub returns-clause-refused : goal.returns-clause-refused
returns-clause-refused c = is_first

pub returns-clause-good : goal.returns-clause-good
returns-clause-good c = not_refused
