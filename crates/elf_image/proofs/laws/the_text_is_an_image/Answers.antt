use Rattle.elf_image.proofs.Words.{image_of_file, word_of_each}
use Rattle.elf_image.proofs.laws.the_text_is_an_image.Goals as goal

pub returns-clause-image : goal.returns-clause-image
returns-clause-image c = image_of_file

pub returns-clause-each : goal.returns-clause-each
returns-clause-each c = word_of_each
