use Rattle.std.proofs.Common.{◌∙◌}
use Rattle.trace_unit.proofs.SharedSpelled.{announced_is, info_has}
use Rattle.trace_unit.proofs.shared.Shared.sync.Goals as goal

pub put-requires-2-clause-spelled : goal.put-requires-2-clause-spelled
put-requires-2-clause-spelled c =
    info_has c.args.settings.now c.args.announced c.then_some.result c.ranges.announced.fits (c.then_some.ensures ∙ announced_is c.args.announced)
