use Rattle.std.proofs.Common.{refl, subst, sym}
use Rattle.etm_types.specs.Walked.{exception}
use Rattle.etm_types.specs.declared.item.Item.TheVariants.{Exc}
use Rattle.path_counts.specs.Counts.{Counts}
use Rattle.path_counts.proofs.Counted.{counts_nothing}
use Rattle.path_counts.proofs.counter.Counter.add_exception.Goals as goal

pub returns-in-Some-clause-counted : goal.returns-in-Some-clause-counted
returns-in-Some-clause-counted c = λ image.
    subst (λ e. Counts image c.args.self.now c.add_mark.new.self (exception e)) (sym c.in-Some.is)
    (c.add_mark.ensures.counted image (Exc c.in-Some.mark.kind c.in-Some.mark.ret) (λ n. refl))

pub returns-in-None-clause-counted : goal.returns-in-None-clause-counted
returns-in-None-clause-counted c = λ image.
    subst (λ e. Counts image c.args.self.now c.args.self.now (exception e)) (sym c.in-None.is) (counts_nothing image c.args.self.now)
