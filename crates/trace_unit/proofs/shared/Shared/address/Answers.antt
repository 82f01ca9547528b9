use Rattle.trace_unit.proofs.SharedSpelled.{form_alone}
use Rattle.trace_unit.proofs.shared.Shared.address.Goals as goal

pub put-requires-clause-spelled : goal.put-requires-clause-spelled
put-requires-clause-spelled c =
    form_alone c.args.settings.now c.self.inside.history c.choose-form.result c.args.addr c.ranges.addr.fits c.choose-form.ensures.within
    c.choose-form.ensures.gives_it
