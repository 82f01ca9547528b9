use Rattle.std.proofs.Common.{ℕ, ◌+◌, ◌<◌, [], ◌∷◌, refl, subst, arith}
use Rattle.std.proofs.lemmas.List.Elements.{All-cons, All-nil}
use Rattle.packet_grammar.specs.declared.packet.Packet.TheVariants.{Atoms}
use Rattle.packet_reader.specs.Stands.{PacketReading, TakesPacket}
use Rattle.packet_reader.proofs.Fronts.{takes_packet}
use Rattle.packet_reader.proofs.reader.PacketReader.take_atoms.Goals as goal

pub returns-in-Between-clause-takes : goal.returns-in-Between-clause-takes
returns-in-Between-clause-takes c =
    let r = c.self.inside in let byte = c.args.byte in let packet = Atoms c.run_of.result in
    let after : PacketReading = record { settings = r.settings; phase = r.phase; start = r.offset + 1; offset = r.offset + 1 } in
    let small = All-cons (λ (b : ℕ). b < 256) byte [] (omega arith) (All-nil (λ (b : ℕ). b < 256)) in
    subst (λ (v : PacketReading). TakesPacket v after (byte ∷ []) r.start packet) c.self.view_is
    (rw c.in-Between.is (takes_packet r.settings r.start r.offset (r.offset + 1) (byte ∷ []) packet refl small
    ((c.run_of.ensures.row r.settings _ []).1 refl)))
