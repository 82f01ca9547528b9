use Rattle.std.proofs.Common.{refl}
use Rattle.spec_run.specs.Runs.{at_first}
use Rattle.spec_run.proofs.run.Run.new.Goals as goal

pub returns : goal.returns
returns c = record { stands = λ image. record { depth = c.depth.ensures.value; execution = at_first; after = refl; place = refl } }
