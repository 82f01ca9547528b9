use Rattle.std.proofs.Common.{◌≡◌, ℕ, ◌+◌, ◌-◌, ◌<◌, Ok, length, length-append, ap, subst, arith}
use Rattle.std.proofs.lemmas.Bool.{false≢true}
use Rattle.std.proofs.lemmas.List.Elements.{All-from_get_or}
use Rattle.packet_grammar.proofs.AllLaws.{some_byte}
use Rattle.packet_grammar.proofs.Fitting.{small_front}
use Rattle.packet_grammar.specs.declared.packet.Packet.TheVariants.{Addr}
use Rattle.packet_reader.specs.Stands.{PacketReading, TakesPacket}
use Rattle.packet_reader.proofs.Fronts.{takes_packet}
use Rattle.packet_reader.proofs.reader.PacketReader.take_address.Goals as goal

pub returns-in_ok-address-in-Between-clause-takes : goal.returns-in_ok-address-in-Between-clause-takes
returns-in_ok-address-in-Between-clause-takes c =
    let r = c.self.inside in let bytes = c.args.bytes.now in let a = c.in_ok-address-in-Between.ensures.front in
    let address = c.in_ok-address-in-Between.address in let packet = Addr address.form address.ctx in
    let behind = c.in_ok-address-in-Between.behind.now in
    let offset : ℕ = r.offset + (length bytes - length behind) in
    let after : PacketReading = record { settings = r.settings; phase = r.phase; start = offset; offset = offset } in
    let all = All-from_get_or (λ (b : ℕ). b < 256) bytes 0 (λ i lt. omega (arith, c.type_inv.bytes i)) in
    let more : offset ≡ r.offset + length a.text = omega (arith, ap length a.parts, length-append a.text behind) in (
      a.text,
      a.parts,
      some_byte r.settings (Ok packet) a.text a.spells,
      subst (λ (v : PacketReading). TakesPacket v after a.text r.start packet) c.self.view_is
          (rw c.in-Between.is (takes_packet r.settings r.start r.offset offset a.text packet more (small_front bytes a.text behind a.parts all) a.spells)),
    )

pub returns-in_err-address-in-Between-clause-context_64 : goal.returns-in_err-address-in-Between-clause-context_64
returns-in_err-address-in-Between-clause-context_64 c address rest info between parts more aarch64 enough =
    absurd (false≢true (c.in_err-address-in-Between.ensures.context_64 address rest info parts more aarch64 enough))

pub returns-in_err-address-in-Between-clause-context_32 : goal.returns-in_err-address-in-Between-clause-context_32
returns-in_err-address-in-Between-clause-context_32 c address rest info between parts more aarch64 enough =
    absurd (false≢true (c.in_err-address-in-Between.ensures.context_32 address rest info parts more aarch64 enough))
