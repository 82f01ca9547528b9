use Rattle.std.proofs.Common.{◌≡◌, ◌∙◌, Some, ap, sym}
use Rattle.spec_run.specs.Checks.{held_at, room_fault}
use Rattle.spec_run.specs.Windows.{place_by, place_of_standing, planned, planned_by}
use Rattle.spec_run.specs.declared.effect.Effect.TheVariants as effect
use Rattle.spec_run.proofs.OneEvent.{planned_exception}
use Rattle.spec_run.proofs.run.Run.plan.Goals as goal

pub returns-in_default : goal.returns-in_default
returns-in_default c =
    let r = c.self.inside in
    rw (← c.self.view_is)
    (c.plan_off.ensures c.args.image.now r.depth
    ∙ ap (λ standing. planned c.args.image.now r.depth (place_by standing r.held.items) c.args.event.now) (sym c.in_default.is))

pub returns-in_ok-check_aligned-in-Exc : goal.returns-in_ok-check_aligned-in-Exc
returns-in_ok-check_aligned-in-Exc c =
    let r = c.self.inside in
    let depth = c.args.self.now.depth in
    let p = place_of_standing c.in-Some.standing r.held.items in
    let s = c.step.result in
    let place : c.args.self.now.place ≡ Some p =
    ap (λ v. v.place) (sym c.self.view_is) ∙ ap (λ standing. place_by standing r.held.items) c.in-Some.is in
    c.plan_step.ensures ∙ ap (λ there. planned_by (room_fault depth (held_at there) s) (effect.Ran s c.in-Exc.ctx)) place
    ∙ planned_exception c.args.image.now depth p c.args.event.now c.in-Exc.kind c.in-Exc.addr c.in-Exc.ctx s c.in-Exc.is
    c.in_ok-check_aligned-in-Exc.ensures (c.step.ensures r.held.items)
    ∙ ap (λ there. planned c.args.image.now depth there c.args.event.now) (sym place)
