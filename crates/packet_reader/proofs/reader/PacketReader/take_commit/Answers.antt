use Rattle.std.proofs.Common.{ℕ, ◌+◌, ◌<◌, [], ◌∷◌, refl, subst, arith}
use Rattle.std.proofs.lemmas.List.Elements.{All-cons, All-nil}
use Rattle.packet_grammar.specs.declared.packet.Packet.TheVariants.{Commit}
use Rattle.packet_reader.specs.Stands.{PacketReading, TakesPacket}
use Rattle.packet_reader.proofs.Fronts.{commit_spelled, takes_packet}
use Rattle.packet_reader.proofs.reader.PacketReader.take_commit.Goals as goal

pub returns-in_ok-n-in-Between-clause-takes : goal.returns-in_ok-n-in-Between-clause-takes
returns-in_ok-n-in-Between-clause-takes c =
    let r = c.self.inside in let n = c.in_ok-n-in-Between.n in let packet = Commit n in
    let few : n < 0x80 = c.in_ok-n-in-Between.ensures.only.1 in
    let after : PacketReading = record { settings = r.settings; phase = r.phase; start = r.offset + 2; offset = r.offset + 2 } in
    let small = All-cons (λ (b : ℕ). b < 256) 0x2d (n ∷ []) (omega arith) (All-cons (λ (b : ℕ). b < 256) n [] (omega (arith, few))
    (All-nil (λ (b : ℕ). b < 256))) in
    subst (λ (v : PacketReading). TakesPacket v after (0x2d ∷ n ∷ []) r.start packet) c.self.view_is
    (rw c.in-Between.is (takes_packet r.settings r.start r.offset (r.offset + 2) (0x2d ∷ n ∷ []) packet refl small (commit_spelled r.settings n few)))
