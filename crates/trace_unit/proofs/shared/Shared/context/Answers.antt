use Rattle.trace_unit.proofs.SharedSpelled.{one_has}
use Rattle.trace_unit.specs.Packets.{context_packet}
use Rattle.trace_unit.proofs.shared.Shared.context.Goals as goal

pub put-requires-clause-spelled : goal.put-requires-clause-spelled
put-requires-clause-spelled c =
    one_has c.args.settings.now (context_packet c.args.self.now c.args.ctx) c.context_packet.result c.context_packet.ensures c.requires.spelled
