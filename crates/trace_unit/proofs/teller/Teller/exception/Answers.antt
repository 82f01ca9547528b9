use Rattle.trace_unit.proofs.CanTell.{except_can}
use Rattle.trace_unit.proofs.teller.Teller.exception.Goals as goal

pub except-requires-clause-commits : goal.except-requires-clause-commits
except-requires-clause-commits c = (except_can c.args.self.now c.args.kind c.args.ret c.write_out.new.self c.write_out.ensures.waiting c.requires.can).0

pub except-requires-clause-affords : goal.except-requires-clause-affords
except-requires-clause-affords c = (except_can c.args.self.now c.args.kind c.args.ret c.write_out.new.self c.write_out.ensures.waiting c.requires.can).1
