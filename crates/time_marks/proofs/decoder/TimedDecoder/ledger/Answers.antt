use Rattle.std.proofs.Common.{ap, subst, ◌∙◌}
use Rattle.time_marks.specs.Timed.{IsTimed, Timed}
use Rattle.time_marks.proofs.Standing.{tallied_at}
use Rattle.time_marks.proofs.decoder.TimedDecoder.ledger.Goals as goal

pub returns-clause-tallied : goal.returns-clause-tallied
returns-clause-tallied c bytes stands packets ending stream =
    let is = subst IsTimed c.self.view_is c.self.invariant in
    c.ledger.ensures.value ∙ ap (λ (d : Timed). (((d.timing).line).queue).counts) c.self.view_is
    ∙ tallied_at c.args.self.now bytes stands is.reads.settings packets ending stream
