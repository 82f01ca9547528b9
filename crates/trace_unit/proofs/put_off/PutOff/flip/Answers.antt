use Rattle.std.proofs.Common.{sym, subst, arith}
use Rattle.packet_writer.specs.Fitting.{HasSpelling}
use Rattle.trace_unit.proofs.WaitingSpelled.{flip_has}
use Rattle.trace_unit.proofs.put_off.PutOff.flip.Goals as goal

pub put-requires-clause-spelled : goal.put-requires-clause-spelled
put-requires-clause-spelled c =
    subst (HasSpelling c.args.settings.now) (sym c.mispredict_behind.ensures) (flip_has c.args.settings.now c.self.inside.cancels (omega arith))
