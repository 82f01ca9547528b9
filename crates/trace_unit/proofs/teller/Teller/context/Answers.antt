use Rattle.trace_unit.proofs.CanTell.{notice_can}
use Rattle.trace_unit.specs.Orders.{Context}
use Rattle.trace_unit.proofs.teller.Teller.context.Goals as goal

pub context-requires-clause-spelled : goal.context-requires-clause-spelled
context-requires-clause-spelled c = notice_can c.args.self.now (Context c.args.ctx) c.requires.can
