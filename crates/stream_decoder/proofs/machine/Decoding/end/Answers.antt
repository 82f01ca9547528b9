use Rattle.std.proofs.Common.{◌≡◌, ℕ, Option, None, sym, ap, subst, ◌∙◌}
use Rattle.packet_grammar.specs.Parsed.{IsStream}
use Rattle.packet_grammar.specs.declared.stream_fault.Fault.{Fault}
use Rattle.packet_reader.specs.Stands.{PacketReading, StandsAt}
use Rattle.stream_decoder.specs.Decoding.{Decoding}
use Rattle.stream_decoder.specs.Stands.{end_at}
use Rattle.stream_decoder.proofs.machine.Decoding.end.Goals as goal

pub returns-in-None : goal.returns-in-None
returns-in-None c bytes packets ending stands stream free =
    let same : c.self.inside.reader ≡ c.args.self.now.reader = ap (λ (d : Decoding). d.reader) c.self.view_is in
    let none : c.args.self.now.fault ≡ None = sym (ap (λ (d : Decoding). d.fault) c.self.view_is) ∙ c.in-None.is in
    c.end_without_fault.ensures bytes packets ending (subst (λ (r : PacketReading). StandsAt r bytes) (sym same) stands)
    (subst (λ (r : PacketReading). IsStream r.settings bytes packets ending) (sym same) stream) (free none)
    ∙ ap (λ (f : Option (ℕ × Fault)). end_at f ending) (sym none)
