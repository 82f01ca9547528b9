use Rattle.std.proofs.Common.{◌≡◌, ℕ, List, subst, ◌∙◌}
use Rattle.packet_grammar.specs.declared.packet.Packet.{Packet}
use Rattle.packet_grammar.specs.Parsed.{Ending, IsStream}
use Rattle.packet_reader.specs.Stands.{PacketReading, StandsAt, rest_of}
use Rattle.packet_reader.proofs.Asked.{rest_when}
use Rattle.packet_reader.proofs.reader.PacketReader.rest.Goals as goal

pub returns-clause-stream : goal.returns-clause-stream
returns-clause-stream c bytes =
    let r = c.self.inside in
    let P : PacketReading → Type 0 =
    λ v. StandsAt v bytes → (packets : List (ℕ × Packet)) × (ending : Ending) × IsStream v.settings bytes packets ending ×
    (c.rest_in.result ≡ rest_of ending) in
    subst P c.self.view_is
    (λ stands.
    let w = rest_when r.settings r.phase r.start r.offset bytes c.self.invariant.0 stands.0 stands.1 in
    (w.0, w.1, w.2, c.rest_in.ensures ∙ w.3))
