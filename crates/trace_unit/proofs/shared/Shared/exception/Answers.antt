use Rattle.std.proofs.Common.{false}
use Rattle.trace_unit.proofs.SharedSpelled.{exception_has}
use Rattle.trace_unit.proofs.shared.Shared.exception.Goals as goal

pub put-requires-clause-spelled : goal.put-requires-clause-spelled
put-requires-clause-spelled c = exception_has c.args.settings.now c.args.kind false c.requires.kind
