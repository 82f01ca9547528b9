use Rattle.std.proofs.Common.{refl}
use Rattle.etm_types.specs.declared.item.Item.TheVariants.{Stop}
use Rattle.path_counts.proofs.counter.Counter.add_stop.Goals as goal

pub returns-clause-counted : goal.returns-clause-counted
returns-clause-counted c = λ image. c.add_mark.ensures.counted image Stop (λ n. refl)
