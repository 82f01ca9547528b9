use Rattle.std.proofs.Common.{IsTrue, ℕ, sym, subst, Bool}
use Rattle.std.specs.Prelude.{◌↔◌}
use Rattle.packet_grammar.specs.Parsed.{FirstSync}
use Rattle.packet_reader.specs.Stands.{PacketReading, StandsAt}
use Rattle.packet_reader.proofs.Asked.{synced_when}
use Rattle.packet_reader.proofs.reader.PacketReader.synced.Goals as goal

pub returns-clause-found : goal.returns-clause-found
returns-clause-found c bytes =
    let r = c.self.inside in
    let P : PacketReading → Type 0 = λ v. StandsAt v bytes → IsTrue c.is_synced.result ↔ ((at : ℕ) × FirstSync at bytes) in
    subst P c.self.view_is
    (λ stands. subst (λ (b : Bool). IsTrue b ↔ ((at : ℕ) × FirstSync at bytes)) (sym c.is_synced.ensures)
    (synced_when r.settings r.phase r.start bytes stands.1))
