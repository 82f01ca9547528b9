use Rattle.trace_unit.proofs.CanTell.{notice_can}
use Rattle.trace_unit.specs.Orders.{Start}
use Rattle.trace_unit.proofs.teller.Teller.start.Goals as goal

pub start-requires-clause-spelled : goal.start-requires-clause-spelled
start-requires-clause-spelled c = notice_can c.args.self.now (Start c.args.addr c.args.ctx) c.requires.can
