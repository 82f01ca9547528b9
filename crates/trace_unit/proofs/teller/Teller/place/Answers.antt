use Rattle.trace_unit.proofs.CanTell.{notice_can}
use Rattle.trace_unit.specs.Orders.{Place}
use Rattle.trace_unit.proofs.teller.Teller.place.Goals as goal

pub place-requires-clause-spelled : goal.place-requires-clause-spelled
place-requires-clause-spelled c = notice_can c.args.self.now (Place c.args.addr c.args.ctx) c.requires.can
