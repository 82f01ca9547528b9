use Rattle.std.proofs.Common.{arith}
use Rattle.trace_unit.proofs.WaitingSpelled.{cancel_has}
use Rattle.trace_unit.proofs.put_off.PutOff.cancel_out.Goals as goal

pub put-requires-clause-spelled : goal.put-requires-clause-spelled
put-requires-clause-spelled c = cancel_has c.args.settings.now c.self.inside.cancels (omega arith)
