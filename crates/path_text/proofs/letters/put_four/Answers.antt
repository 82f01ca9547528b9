use Rattle.path_text.proofs.Fours.{set_four}
use Rattle.path_text.proofs.letters.put_four.Goals as goal

pub returns : goal.returns
returns c = rw c.four.ensures (set_four c.args.at c.args.text.now _ _ _ _ c.requires)
