use Rattle.std.proofs.Common.{ap, ◌∙◌}
use Rattle.path_walker.specs.Steps.{linked}
use Rattle.path_walker.proofs.Stacks.{state_by}
use Rattle.path_walker.proofs.walker.Walker.leave.Goals as goal

pub invariant_of-self : goal.invariant_of-self
invariant_of-self c =
    let leg = c.args.leg.now in let inside = c.self.inside in (
      state_by inside.pc inside.stack.addresses inside.ctx c.args.stack leg.link inside.pc inside.ctx c.push_link.new.stack.addresses c.self.invariant.0
          c.requires.link c.self.invariant.0.pc
          (c.push_link.ensures.addresses ∙ ap (linked leg.link) c.apply.ensures.addresses),
      c.push_link.ensures.depth ∙ c.apply.ensures.depth ∙ c.self.invariant.1,
    )

pub returns-clause-state : goal.returns-clause-state
returns-clause-state c = (invariant_of-self c).0
