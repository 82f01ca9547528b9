use Rattle.path_counts.proofs.Counted.{counts_then}
use Rattle.path_counts.proofs.counter.Counter.add_walked.Goals as goal

pub returns-clause-counted : goal.returns-clause-counted
returns-clause-counted c = λ are.
    counts_then c.args.image.now _ _ _ _ _
    (counts_then c.args.image.now _ _ _ _ _ (c.add_on.ensures.counted c.args.image.now) (c.add_block.ensures.counted are))
    (c.add_exception.ensures.counted c.args.image.now)
