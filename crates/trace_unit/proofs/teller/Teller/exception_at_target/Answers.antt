use Rattle.trace_unit.proofs.CanTell.{notice_can_by, target_can}
use Rattle.trace_unit.specs.Orders.{target_notice}
use Rattle.trace_unit.proofs.teller.Teller.exception_at_target.Goals as goal

pub except-requires-clause-commits : goal.except-requires-clause-commits
except-requires-clause-commits c =
    (target_can c.args.self.now c.args.ctx c.args.kind c.args.addr c.write_out.new.self c.write_out.ensures.waiting c.requires.can).0

pub except-requires-clause-affords : goal.except-requires-clause-affords
except-requires-clause-affords c =
    (target_can c.args.self.now c.args.ctx c.args.kind c.args.addr c.write_out.new.self c.write_out.ensures.waiting c.requires.can).1

pub exception_at_target-requires-clause-spelled : goal.exception_at_target-requires-clause-spelled
exception_at_target-requires-clause-spelled c =
    notice_can_by c.args.self.now (target_notice c.args.ctx c.args.addr) c.requires.can.unretired c.requires.can.ready c.requires.can.fits.1
