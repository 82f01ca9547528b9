use Rattle.std.proofs.Common.{◌∙◌, ap, sym}
use Rattle.spec_run.specs.Steps.{ends_in_cond}
use Rattle.spec_run.proofs.Held.{cond_newest, no_newest}
use Rattle.spec_run.proofs.Windows.{held_there}
use Rattle.spec_run.proofs.run.Run.ends_in_cond.Goals as goal

pub returns-in-Some : goal.returns-in-Some
returns-in-Some c =
    let held = held_there c.self.inside.standing c.self.inside.held.items c.self.invariant.off in
    let newest = cond_newest c.self.inside.held.items c.in-Some.newest.now (sym c.in-Some.ensures) in
    rw (← c.self.view_is) (c.is_cond.ensures ∙ sym newest ∙ ap ends_in_cond (sym held))

pub returns-in-None : goal.returns-in-None
returns-in-None c =
    let held = held_there c.self.inside.standing c.self.inside.held.items c.self.invariant.off in
    rw (← c.self.view_is) (ap ends_in_cond (sym (no_newest _ (sym c.in-None.ensures)) ∙ sym held))
