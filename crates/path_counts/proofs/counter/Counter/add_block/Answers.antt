use Rattle.std.proofs.Common.{[], ◌∷◌, refl, subst, sym}
use Rattle.std.specs.Prelude.{if◌then◌else◌}
use Rattle.etm_types.specs.Walked.{instructions}
use Rattle.etm_types.specs.declared.item.Item.TheVariants.{Unknown}
use Rattle.path_counts.specs.Counts.{Counts}
use Rattle.path_counts.proofs.counter.Counter.add_block.Goals as goal

pub returns-then-walked-clause-counted : goal.returns-then-walked-clause-counted
returns-then-walked-clause-counted c = λ are.
    let w = c.args.walked.now in
    subst (λ b. Counts c.args.image.now c.args.self.now c.add_mark.new.self (if b then Unknown ∷ [] else instructions w.ctx w.start w.count w.took))
    (sym c.if-walked.true) (c.add_mark.ensures.counted c.args.image.now Unknown (λ n. refl))

pub returns-else-walked-clause-counted : goal.returns-else-walked-clause-counted
returns-else-walked-clause-counted c = λ are.
    let w = c.args.walked.now in
    subst (λ b. Counts c.args.image.now c.args.self.now c.add_run.new.self (if b then Unknown ∷ [] else instructions w.ctx w.start w.count w.took))
    (sym c.if-walked.false) (c.add_run.ensures.counted (are c.if-walked.false) w.ctx)
