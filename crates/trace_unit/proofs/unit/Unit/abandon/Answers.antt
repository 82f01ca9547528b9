use Rattle.std.proofs.Common.{◌∙◌}
use Rattle.trace_unit.proofs.UnitStands.{lost_of}
use Rattle.trace_unit.proofs.unit.Unit.abandon.Goals as goal

pub returns-clause-ledger : goal.returns-clause-ledger
returns-clause-ledger c image events x st ran =
    c.close.ensures.value ∙ lost_of image c.self.inside.run c.self.inside.follower c.args.self events x c.self.invariant c.self.view_is st ran
