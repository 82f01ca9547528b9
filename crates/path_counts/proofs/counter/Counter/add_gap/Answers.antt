use Rattle.std.proofs.Common.{refl}
use Rattle.etm_types.specs.declared.item.Item.TheVariants.{Gap}
use Rattle.path_counts.proofs.counter.Counter.add_gap.Goals as goal

pub returns-clause-counted : goal.returns-clause-counted
returns-clause-counted c = λ image. c.add_mark.ensures.counted image Gap (λ n. refl)
