use Rattle.program_image.proofs.WordLaws.{part_of_word, word_fits, word_of_part}
use Rattle.program_image.proofs.laws.words_are_of_their_parts.Goals as goal

pub returns-clause-part : goal.returns-clause-part
returns-clause-part c = λ image addr word is. (part_of_word image addr word, word_of_part image addr word is)

pub returns-clause-fits : goal.returns-clause-fits
returns-clause-fits c = word_fits
