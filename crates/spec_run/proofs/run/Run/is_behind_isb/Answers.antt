use Rattle.std.proofs.Common.{◌∙◌, ap, sym}
use Rattle.spec_run.specs.Steps.{isb_behind}
use Rattle.spec_run.proofs.Held.{isb_newest, no_newest}
use Rattle.spec_run.proofs.Windows.{held_there}
use Rattle.spec_run.proofs.run.Run.is_behind_isb.Goals as goal

pub returns-in-Some : goal.returns-in-Some
returns-in-Some c =
    let held = held_there c.self.inside.standing c.self.inside.held.items c.self.invariant.off in
    let before = c.args.standing.now.after_isb in
    let newest = isb_newest before c.self.inside.held.items c.in-Some.newest.now (sym c.in-Some.ensures) in
    rw (← c.self.view_is) (c.is_isb.ensures ∙ sym newest ∙ ap (isb_behind before) (sym held))

pub returns-in-None : goal.returns-in-None
returns-in-None c =
    let held = held_there c.self.inside.standing c.self.inside.held.items c.self.invariant.off in
    rw (← c.self.view_is) (ap (isb_behind c.args.standing.now.after_isb) (sym (no_newest _ (sym c.in-None.ensures)) ∙ sym held))
