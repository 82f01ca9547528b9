use Rattle.std.proofs.Common.{◌∙◌, sym}
use Rattle.program_image.proofs.WordPlaces.{word_at}
use Rattle.count_streams.proofs.Walking.{left_elsewhere}
use Rattle.count_streams.proofs.branches.last_of.Goals as goal

pub last_branch-requires-clause-some : goal.last_branch-requires-clause-some
last_branch-requires-clause-some c = c.requires.words.1.some

pub last_branch-requires-clause-cond : goal.last_branch-requires-clause-cond
last_branch-requires-clause-cond c = c.requires.words.0.cond

pub returns-then-not-stretch : goal.returns-then-not-stretch
returns-then-not-stretch c ctx left =
    let image = c.args.image.now in let s = c.args.stretch.now in let placed = c.requires.words.1 in
    let first = word_at image s.place s.start c.requires.image placed.place in
    sym (left_elsewhere image ctx s.start s.count s.took left placed.some first.small (sym placed.last ∙ c.if-not-stretch.true))
