use Rattle.std.proofs.Common.{◌≡◌, ◌≤◌, ◌∙◌, [], length, subst, sym}
use Rattle.spec_run.specs.Checks.{held_at, window}
use Rattle.spec_run.specs.Stands.{Kept}
use Rattle.spec_run.proofs.ManySteps.{Moved, moved}
use Rattle.spec_run.proofs.Windows.{held_there}
use Rattle.spec_run.proofs.run.Run.step_many.Goals as goal
use Rattle.spec_run.proofs.run.Run.step_many.Goals.{After-hold_plain, After-pass_plain}

passed : (c : After-pass_plain) → Moved c.args.image.now c.args.self.now c.pass_plain.new.self c.plain_steps-count.result
passed c =
    let r = c.self.inside in
    let held = held_there r.standing r.held.items c.self.invariant.off in
    moved c.args.image.now c.args.self.now c.pass_plain.new.self c.args.n c.plain_steps-count.result c.plain_steps-count.ensures
    (subst (λ (k : Kept). k.depth ≡ 0 → held_at k.place ≡ []) c.self.view_is (λ flat. held ∙ c.self.invariant.flat flat))
    (subst (λ (k : Kept). length (held_at k.place) ≤ window) c.self.view_is (subst (λ l. length l ≤ window) (sym held) c.self.invariant.within))
    c.pass_plain.ensures.depth c.pass_plain.ensures.place

held : (c : After-hold_plain) → Moved c.args.image.now c.args.self.now c.hold_plain.new.self c.plain_steps-count.result
held c =
    let r = c.self.inside in
    let held = held_there r.standing r.held.items c.self.invariant.off in
    moved c.args.image.now c.args.self.now c.hold_plain.new.self c.args.n c.plain_steps-count.result c.plain_steps-count.ensures
    (subst (λ (k : Kept). k.depth ≡ 0 → held_at k.place ≡ []) c.self.view_is (λ flat. held ∙ c.self.invariant.flat flat))
    (subst (λ (k : Kept). length (held_at k.place) ≤ window) c.self.view_is (subst (λ l. length l ≤ window) (sym held) c.self.invariant.within))
    c.hold_plain.ensures.depth c.hold_plain.ensures.place

pub returns-then-self-eq0-clause-stands : goal.returns-then-self-eq0-clause-stands
returns-then-self-eq0-clause-stands c = (passed c).stands

pub returns-then-self-eq0-clause-accepted : goal.returns-then-self-eq0-clause-accepted
returns-then-self-eq0-clause-accepted c = (passed c).pass

pub returns-then-self-eq0-clause-place : goal.returns-then-self-eq0-clause-place
returns-then-self-eq0-clause-place c = (passed c).there

pub returns-else-self-eq0-clause-stands : goal.returns-else-self-eq0-clause-stands
returns-else-self-eq0-clause-stands c = (held c).stands

pub returns-else-self-eq0-clause-accepted : goal.returns-else-self-eq0-clause-accepted
returns-else-self-eq0-clause-accepted c = (held c).pass

pub returns-else-self-eq0-clause-place : goal.returns-else-self-eq0-clause-place
returns-else-self-eq0-clause-place c = (held c).there
