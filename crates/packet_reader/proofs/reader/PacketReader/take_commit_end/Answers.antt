use Rattle.std.proofs.Common.{◌≡◌, ◌+◌, ◌<◌, [], ◌∷◌, ℕ, sym, subst}
use Rattle.packet_grammar.specs.declared.packet.Packet.TheVariants.{Commit}
use Rattle.packet_reader.specs.Stands.{PacketReading, TakesPacket}
use Rattle.packet_reader.specs.States.{behind_commit}
use Rattle.packet_reader.specs.declared.phase.Phase.{Phase}
use Rattle.packet_reader.specs.declared.phase.Phase.TheVariants.{Between, Within}
use Rattle.packet_reader.proofs.NumberEnds.{takes_commit_end}
use Rattle.packet_reader.proofs.reader.PacketReader.take_commit_end.Goals as goal

pub returns-clause-takes : goal.returns-clause-takes
returns-clause-takes c =
    let r = c.self.inside in let n = c.args.byte in
    let here : r.phase ≡ Within behind_commit = c.is_behind_commit.ensures.0 c.if-not-is_behind_commit.false in
    let few : n < 0x80 = c.if-byte-ge-CONTINUES.false in
    let after : PacketReading = record { settings = r.settings; phase = Between; start = r.offset + 1; offset = r.offset + 1 } in
    subst (λ (m : ℕ). TakesPacket c.args.self.now after (n ∷ []) r.start (Commit m)) (sym c.from.ensures)
    (subst (λ (v : PacketReading). TakesPacket v after (n ∷ []) r.start (Commit n)) c.self.view_is
    (subst (λ (p : Phase). TakesPacket (record { settings = r.settings; phase = p; start = r.start; offset = r.offset }) after (n ∷ []) r.start (Commit n))
    (sym here) (takes_commit_end r.settings r.start r.offset n few)))
