use Rattle.std.proofs.Common.{ap, subst, sym, ◌∙◌}
use Rattle.packet_grammar.specs.Parsed.{IsStream}
use Rattle.packet_reader.specs.Stands.{PacketReading}
use Rattle.packet_reader.specs.Stands as reader
use Rattle.time_marks.specs.Timed.{IsTimed, Timed}
use Rattle.time_marks.proofs.Standing.{ends_at, ends_with}
use Rattle.time_marks.proofs.decoder.TimedDecoder.end.Goals as goal

pub returns-in-Some : goal.returns-in-Some
returns-in-Some c bytes t last stands times =
    let is = subst IsTimed c.self.view_is c.self.invariant in
    ends_at c.args.self.now bytes stands is.reads.settings t last times (c.in-Some.at, c.in-Some.fault)
    (ap (λ (d : Timed). ((d.timing).line).fault) (sym c.self.view_is) ∙ c.in-Some.is)

pub returns-in-None : goal.returns-in-None
returns-in-None c bytes t last stands times =
    let is = subst IsTimed c.self.view_is c.self.invariant in
    let read = ap (λ (d : Timed). d.reader) (sym c.self.view_is) in
    ends_with c.args.self.now bytes stands is.reads.settings t last times c.end_without_fault.result
    (ap (λ (d : Timed). ((d.timing).line).fault) (sym c.self.view_is) ∙ c.in-None.is)
    (λ packets ending stream none.
    c.end_without_fault.ensures bytes packets ending (subst (λ (r : PacketReading). reader.StandsAt r bytes) read stands.reads)
    (subst (λ (r : PacketReading). IsStream r.settings bytes packets ending) read stream) none)
