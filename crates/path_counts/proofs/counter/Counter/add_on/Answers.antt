use Rattle.std.proofs.Common.{[], ◌∷◌, refl, subst, sym}
use Rattle.std.specs.Prelude.{if◌then◌else◌}
use Rattle.etm_types.specs.declared.item.Item.TheVariants.{On}
use Rattle.path_counts.specs.Counts.{Counts}
use Rattle.path_counts.proofs.Counted.{counts_nothing}
use Rattle.path_counts.proofs.counter.Counter.add_on.Goals as goal

pub returns-then-on-clause-counted : goal.returns-then-on-clause-counted
returns-then-on-clause-counted c = λ image.
    subst (λ b. Counts image c.args.self.now c.add_mark.new.self (if b then On ∷ [] else [])) (sym c.if-on.true)
    (c.add_mark.ensures.counted image On (λ n. refl))

pub returns-else-on-clause-counted : goal.returns-else-on-clause-counted
returns-else-on-clause-counted c = λ image.
    subst (λ b. Counts image c.args.self.now c.args.self.now (if b then On ∷ [] else [])) (sym c.if-on.false) (counts_nothing image c.args.self.now)
