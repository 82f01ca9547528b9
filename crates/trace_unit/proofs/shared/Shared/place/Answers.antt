use Rattle.std.proofs.Common.{ap}
use Rattle.trace_unit.proofs.SharedSpelled.{one_has}
use Rattle.trace_unit.specs.Packets.{long_form, with_context}
use Rattle.trace_unit.proofs.shared.Shared.place.Goals as goal

pub with_context-requires-clause-spelled : goal.with_context-requires-clause-spelled
with_context-requires-clause-spelled c =
    let shared = c.args.self.now in
    one_has c.args.settings.now (with_context shared (long_form shared.history c.args.addr) c.args.ctx)
    (with_context shared c.long_form-form.result c.args.ctx) (ap (λ form. with_context shared form c.args.ctx) c.long_form-form.ensures) c.requires.spelled
