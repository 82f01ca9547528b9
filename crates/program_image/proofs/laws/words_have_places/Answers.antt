use Rattle.program_image.proofs.WordPlaces.{below_more, length_addresses, place_of_word, word_of_place}
use Rattle.program_image.proofs.laws.words_have_places.Goals as goal

pub returns-clause-count : goal.returns-clause-count
returns-clause-count c = λ image is. length_addresses image is.parts

pub returns-clause-each : goal.returns-clause-each
returns-clause-each c = λ image place addr is. (word_of_place image place addr is, place_of_word image place addr is)

pub returns-clause-ascend : goal.returns-clause-ascend
returns-clause-ascend c = below_more
