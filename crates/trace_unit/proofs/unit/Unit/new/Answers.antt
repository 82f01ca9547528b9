use Rattle.std.proofs.Common.{[]}
use Rattle.trace_unit.proofs.UnitBegins.{first_agrees, first_stands}
use Rattle.trace_unit.proofs.unit.Unit.new.Goals as goal

pub invariant_of-result : goal.invariant_of-result
invariant_of-result c =
    first_agrees c.args.settings.now c.args.stack_depth c.in_ok-run.run' c.in_ok-follower.follower c.new-2.ensures.settings (c.in_ok-run.ensures.stands [])
    c.in_ok-follower.ensures.first

pub returns-clause-stands : goal.returns-clause-stands
returns-clause-stands c image =
    first_stands image c.args.settings.now c.args.stack_depth c.in_ok-run.run' c.in_ok-follower.follower c.requires (c.in_ok-run.ensures.stands image)
    c.in_ok-follower.ensures.first
