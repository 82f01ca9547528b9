use Rattle.std.proofs.Common.{◌<◌, ◌∙◌, ap, arith, length, subst, sym}
use mir.Val.{bool_byte}
use Rattle.spec_run.specs.Checks.{held_at, window}
use Rattle.spec_run.proofs.Held.{byte_within, p0s_within}
use Rattle.spec_run.proofs.Windows.{held_there, window_ran}
use Rattle.spec_run.proofs.run.Run.run_step.Goals as goal

pub overflow_add-self : goal.overflow_add-self
overflow_add-self c =
    let i = c.self.invariant in
    let few = p0s_within c.self.inside.held.items in
    omega (arith, i.counted, i.within, few, c.from.ensures, byte_within c.is_p0.result)

pub invariant_of-self-2 : goal.invariant_of-self-2
invariant_of-self-2 c =
    let held = held_there c.self.inside.standing c.self.inside.held.items c.self.invariant.off in
    let here = subst (λ v. length (held_at v.place) < window) (sym c.self.view_is) c.requires.room in
    let room : length c.self.inside.held.items < window = omega (arith, here, ap length held) in
    window_ran _ _ _ c.self.inside.held c.push_back.new.self c.args.step c.self.inside.standing _ c.self.invariant c.push_back.ensures.items room
    (c.from.ensures ∙ ap bool_byte c.is_p0.ensures) c.if-self-eq0.false
