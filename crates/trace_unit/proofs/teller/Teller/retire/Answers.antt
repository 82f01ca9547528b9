use Rattle.std.proofs.Common.{ap}
use Rattle.trace_unit.specs.Whole.{PutOff}
use Rattle.trace_unit.proofs.teller.Teller.retire.Goals as goal

pub returns : goal.returns
returns c = ap (λ (u : PutOff). record (c.args.self.now) { waiting = u }) (c.retire.ensures c.args.self.now.settings.depth)
