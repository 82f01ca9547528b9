use Rattle.std.proofs.Common.{◌≡◌, ℕ, ◌<◌, subst, arith}
use Rattle.std.specs.Prelude.{All}
use Rattle.packet_grammar.specs.declared.packet.Packet.{Packet}
use Rattle.packet_grammar.specs.Ranges.{IsPacket}
use Rattle.packet_reader.specs.declared.step.Step.TheVariants.{Whole}
use Rattle.packet_reader.proofs.Adds.{packet_in_range}
use Rattle.packet_reader.specs.Stands.{PacketReading, StandsAt, Gains}
use Rattle.packet_reader.proofs.reader.PacketReader.take.Goals as goal

pub returns-clause-gains : goal.returns-clause-gains
returns-clause-gains c bytes =
    let P : PacketReading → Type 0 = λ v. StandsAt v bytes → Gains v.settings bytes c.args.byte c.step.result in
    subst P c.self.view_is (λ stands. (c.step.ensures.moves bytes (omega (arith, stands.0)) stands.1).1)

pub returns-clause-values : goal.returns-clause-values
returns-clause-values c bytes =
    let P : PacketReading → Type 0 =
    λ v. StandsAt v bytes → All (λ b. b < 256) bytes → (at : ℕ) (packet : Packet) → c.step.result ≡ Whole at packet → IsPacket v.settings packet in
    subst P c.self.view_is
    (λ stands small at packet e.
    let gains = (c.step.ensures.moves bytes (omega (arith, stands.0)) stands.1).1 in
    packet_in_range c.self.inside.settings bytes c.args.byte at packet small (omega arith)
    (subst (λ step. Gains c.self.inside.settings bytes c.args.byte step) e gains))
