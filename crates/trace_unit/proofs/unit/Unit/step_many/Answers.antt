use Rattle.std.proofs.Common.{◌≡◌, List, ◌++◌, subst, sym}
use Rattle.std.specs.Prelude.{replicate}
use Rattle.spec_run.specs.declared.event.Event.{Event}
use Rattle.spec_run.specs.declared.event.Event.TheVariants as event
use Rattle.trace_unit.proofs.ManySteps.{Moves, many_agree, many_move}
use Rattle.trace_unit.specs.Kept.{Kept, StandsAt}
use Rattle.trace_unit.specs.Written.{written}
use Rattle.trace_unit.proofs.unit.Unit.step_many.Goals as goal
use Rattle.trace_unit.proofs.unit.Unit.step_many.Goals.{After-step_many}

pub invariant_of-self : goal.invariant_of-self
invariant_of-self c =
    let e = c.step_many.ensures in
    many_agree c.args.image.now c.self.inside.run c.step_many.new.self c.self.inside.follower c.args.n c.step_many.result c.self.invariant e.count e.accepted
    e.depth e.place

moves_here : (c : After-step_many) (events : List Event) → StandsAt c.args.image.now c.args.self.now events
    → Moves c.args.image.now c.self.inside.follower c.self.inside.run c.step_many.new.self c.step_many.result events
moves_here c events st =
    let e = c.step_many.ensures in
    many_move c.args.image.now c.self.inside.run c.step_many.new.self c.self.inside.follower c.args.n c.step_many.result events c.self.invariant e.count
    e.accepted e.depth e.place (subst (λ (k : Kept). StandsAt c.args.image.now k events) (sym c.self.view_is) st)

pub returns-clause-stands : goal.returns-clause-stands
returns-clause-stands c events st = (moves_here (goal.at.returns-clause-stands c).After-step_many events st).stands

pub returns-clause-written : goal.returns-clause-written
returns-clause-written c events st =
    let image = c.args.image.now in
    let more = events ++ replicate c.step_many.result event.Step in
    subst (λ (k : Kept). written image k.settings k.stack_depth more ≡ written image k.settings k.stack_depth events) c.self.view_is
    (moves_here (goal.at.returns-clause-written c).After-step_many events st).wrote
