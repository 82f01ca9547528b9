use Rattle.std.proofs.Common.{◌∙◌, ap, refl}
use Rattle.spec_run.specs.Runs.{at_first}
use Rattle.spec_run.specs.Stands.{Kept}
use Rattle.spec_run.proofs.run.Run.restart.Goals as goal

pub returns : goal.returns
returns c =
    let off = ap (λ (r : Kept). r.place) c.self.view_is ∙ c.close.ensures.place in
    record { stands = λ image. record { depth = c.depth-depth.ensures.value; execution = at_first; after = refl; place = off } }
