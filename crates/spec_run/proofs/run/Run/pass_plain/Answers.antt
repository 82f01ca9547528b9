use Rattle.std.proofs.Common.{◌∙◌, ap, sym}
use Rattle.spec_run.specs.Windows.{place_by, place_of_standing}
use Rattle.spec_run.proofs.ManySteps.{passed_many}
use Rattle.spec_run.proofs.run.Run.pass_plain.Goals as goal

pub returns-then-count-gt0-clause-place : goal.returns-then-count-gt0-clause-place
returns-then-count-gt0-clause-place c =
    let r = c.self.inside in
    let was = c.args.self.now in
    passed_many was.depth was.place (place_of_standing c.in-Some.standing r.held.items) c.args.count c.from.result c.requires.flat
    (ap (λ v. v.place) (sym c.self.view_is) ∙ ap (λ standing. place_by standing r.held.items) c.in-Some.is) c.from.ensures c.if-count-gt0.true
