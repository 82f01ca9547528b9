use Rattle.std.proofs.Common.{◌≡◌, ◌∙◌, Some, ap, sym}
use Rattle.std.proofs.lemmas.Result.{err_from_is_err_and}
use Rattle.spec_run.specs.Checks.{held_at}
use Rattle.spec_run.specs.Effects.{done_of, place_after}
use Rattle.spec_run.proofs.OneEvent.{planned_as, planned_not, refused_behind, stands_behind}
use Rattle.spec_run.proofs.run.Run.apply.Goals as goal

pub returns-in_err-effect-clause-refused : goal.returns-in_err-effect-clause-refused
returns-in_err-effect-clause-refused c s events st fault is =
    let p = err_from_is_err_and c.from_residual.result c.from_residual.ensures.1 in
    let same : c.in_err-effect.field-0.0 ≡ fault = let e = sym p.1 ∙ is in let f = p.2 in cc in
    refused_behind c.args.image.now s c.args.self.now events c.args.event.now fault st (planned_not _ _ _ c.in_err-effect.ensures ∙ ap Some same)

pub returns-in_err-effect-clause-checked : goal.returns-in_err-effect-clause-checked
returns-in_err-effect-clause-checked c =
    let p = err_from_is_err_and c.from_residual.result c.from_residual.ensures.1 in
    rw (p.1, p.2) (sym (planned_not _ _ _ c.in_err-effect.ensures))

pub returns-clause-stands : goal.returns-clause-stands
returns-clause-stands c s events st ok =
    let planned = planned_as _ _ _ c.in_ok-effect.ensures in
    let was = c.args.self.now in
    stands_behind c.args.image.now s was c.take.new.self events c.args.event.now st planned.0 c.take.ensures.depth
    (c.take.ensures.place ∙ ap (place_after c.args.image.now was.depth was.place) planned.1)

pub returns-clause-checked : goal.returns-clause-checked
returns-clause-checked c = sym (planned_as _ _ _ c.in_ok-effect.ensures).0

pub returns-clause-done : goal.returns-clause-done
returns-clause-done c = c.take.ensures.done ∙ ap (done_of (held_at c.args.self.now.place)) (planned_as _ _ _ c.in_ok-effect.ensures).1

pub returns-clause-place : goal.returns-clause-place
returns-clause-place c ok =
    let was = c.args.self.now in
    c.take.ensures.place ∙ ap (place_after c.args.image.now was.depth was.place) (planned_as _ _ _ c.in_ok-effect.ensures).1
