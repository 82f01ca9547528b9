use Rattle.count_streams.proofs.WordsAlone.{only_words_are_counted}
use Rattle.count_streams.proofs.laws.only_words_are_counted.Goals as goal

pub returns : goal.returns
returns c = only_words_are_counted
