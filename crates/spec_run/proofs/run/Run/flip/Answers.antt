use Rattle.std.proofs.Common.{◌∙◌, ap, arith, subst, sym}
use Rattle.spec_run.specs.Windows.{IsWindow}
use Rattle.spec_run.proofs.Windows.{flipped_place, nothing_flipped, nothing_popped, put_back, window_flipped}
use Rattle.spec_run.proofs.run.Run.flip.Goals as goal

pub invariant_of-self : goal.invariant_of-self
invariant_of-self c =
    let r = c.self.inside in
    let i = c.self.invariant in
    let newest = c.in-Some-pop_back.newest in
    let last = sym c.pop_back.ensures.value ∙ c.in-Some-pop_back.is in
    let back = put_back r.held c.pop_back.new.self c.push_back.new.self newest c.turned-step.result c.pop_back.ensures.items c.push_back.ensures.items last
    (omega (arith, i.within, i.room)) in
    window_flipped c.args.image.now r.depth r.p0 r.held c.push_back.new.self newest c.turned-step.result r.standing _ i last c.turned-step.ensures back

pub invariant_of-self-in_default-pop_back : goal.invariant_of-self-in_default-pop_back
invariant_of-self-in_default-pop_back c =
    let r = c.self.inside in
    let last = sym c.pop_back.ensures.value ∙ c.in_default-pop_back.is in
    subst (λ b. IsWindow r.depth b r.p0 r.standing) (nothing_popped r.held c.pop_back.new.self c.pop_back.ensures.items last) c.self.invariant

pub returns-in-Some-pop_back-clause-place : goal.returns-in-Some-pop_back-clause-place
returns-in-Some-pop_back-clause-place c =
    let r = c.self.inside in
    let i = c.self.invariant in
    let newest = c.in-Some-pop_back.newest in
    let last = sym c.pop_back.ensures.value ∙ c.in-Some-pop_back.is in
    let back = put_back r.held c.pop_back.new.self c.push_back.new.self newest c.turned-step.result c.pop_back.ensures.items c.push_back.ensures.items last
    (omega (arith, i.within, i.room)) in
    rw (← c.self.view_is)
    (flipped_place c.args.image.now r.standing c.in-Some.standing r.held.items c.push_back.new.self.items newest c.turned-step.result c.in-Some.is last
    c.turned-step.ensures (ap (λ b. b.items) back))

pub returns-in_default-pop_back-clause-place : goal.returns-in_default-pop_back-clause-place
returns-in_default-pop_back-clause-place c =
    let r = c.self.inside in
    let last = sym c.pop_back.ensures.value ∙ c.in_default-pop_back.is in
    rw (← c.self.view_is)
    (nothing_flipped c.args.image.now r.standing r.held.items c.pop_back.new.self.items
    (ap (λ b. b.items) (nothing_popped r.held c.pop_back.new.self c.pop_back.ensures.items last)) last)
