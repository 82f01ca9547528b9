use Rattle.std.proofs.Common.{ap}
use Rattle.trace_unit.specs.Whole.{PutOff}
use Rattle.trace_unit.proofs.teller.Teller.cancel.Goals as goal

pub returns : goal.returns
returns c = ap (λ (u : PutOff). record (c.args.self.now) { waiting = u }) (c.cancel.ensures c.args.self.now.settings.depth)
