use Rattle.command_words.proofs.WordLists.{cut_is}
use Rattle.command_words.proofs.lists.cut_in_two.Goals as goal

pub returns : goal.returns
returns c = cut_is c.args.text.now c.split_once.result c.split_once.ensures.cases
