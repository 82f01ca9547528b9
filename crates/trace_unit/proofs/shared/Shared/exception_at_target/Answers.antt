use Rattle.std.proofs.Common.{true, subst, All}
use Rattle.packet_writer.specs.Fitting.{HasSpelling}
use Rattle.trace_unit.proofs.SharedSpelled.{exception_has}
use Rattle.trace_unit.specs.Orders.{target_notice}
use Rattle.trace_unit.specs.Packets.{notice_packets}
use Rattle.trace_unit.proofs.shared.Shared.exception_at_target.Goals as goal

pub put-requires-clause-spelled : goal.put-requires-clause-spelled
put-requires-clause-spelled c = exception_has c.args.settings.now c.args.kind true c.requires.kind

pub place-requires-clause-spelled : goal.place-requires-clause-spelled
place-requires-clause-spelled c =
    subst (λ context. All (HasSpelling c.args.settings.now) (notice_packets c.args.self.now (target_notice context c.args.addr))) c.in-Some.is
    c.requires.spelled
