use Rattle.std.proofs.Common.{arith}
use Rattle.trace_unit.proofs.WaitingSpelled.{commit_has}
use Rattle.trace_unit.proofs.put_off.PutOff.commit_out.Goals as goal

pub put-requires-clause-spelled : goal.put-requires-clause-spelled
put-requires-clause-spelled c = commit_has c.args.settings.now c.self.inside.commits (omega arith)
