use Rattle.std.proofs.Common.{◌≡◌, ◌+◌, ◌<◌, [], None, Ok, ap, length, length-append, subst, ◌∙◌, arith}
use Rattle.packet_grammar.proofs.AllLaws.{some_byte}
use Rattle.packet_grammar.proofs.Fitting.{small_front}
use Rattle.packet_grammar.specs.declared.packet.Packet.TheVariants.{Addr}
use Rattle.packet_reader.specs.Stands.{TakesPacket}
use Rattle.program_image.specs.declared.image.Image.{Image}
use Rattle.stream_decoder.specs.AtomPackets.{RunsPacket}
use Rattle.stream_decoder.specs.Decoding.{AtRest, Decoding, IsDecoding, decoding_of}
use Rattle.stream_decoder.proofs.AddressRuns.{has_entry, holds_address, is_packet, long, runs_address}
use Rattle.stream_decoder.proofs.Fronts.{small_bytes}
use Rattle.stream_decoder.proofs.PacketRuns.{AtomsCount}
use Rattle.stream_decoder.proofs.machine.Decoding.note_addressed.Goals as goal

pub address_of-addr-requires : goal.address_of-addr-requires
address_of-addr-requires c =
    let s = c.self.inside.reader.settings in let bytes = c.args.bytes.now in
    has_entry s bytes c.in_ok-form.rest.now c.in_ok-form.form (small_bytes bytes (λ n. omega (arith, c.type_inv.bytes n))) (c.in_ok-form.ensures.front s)

pub take_address-requires : goal.take_address-requires
take_address-requires c = record { due = ap (λ (d : Decoding). d.due) c.self.view_is ∙ c.requires.rest.due }

pub tell_address-requires-clause-form : goal.tell_address-requires-clause-form
tell_address-requires-clause-form c =
    let s = c.self.inside.reader.settings in let bytes = c.args.bytes.now in
    has_entry s bytes c.in_ok-form.rest.now c.in_ok-form.form (small_bytes bytes (λ n. omega (arith, c.type_inv.bytes n))) (c.in_ok-form.ensures.front s)

pub overflow_sub-text : goal.overflow_sub-text
overflow_sub-text c =
    let front = c.in_ok-form.ensures.front c.self.inside.reader.settings in
    let all = ap length front.parts in let both = length-append front.text c.in_ok-form.rest.now in omega (arith, all, both)

pub skip-requires-clause-packets : goal.skip-requires-clause-packets
skip-requires-clause-packets c =
    let s = c.self.inside.reader.settings in let bytes = c.args.bytes.now in let rest = c.in_ok-form.rest.now in let form = c.in_ok-form.form in
    let front = c.in_ok-form.ensures.front s in let small = small_bytes bytes (λ n. omega (arith, c.type_inv.bytes n)) in
    let packet = is_packet s bytes rest form small front in
    ([], (front.text, Addr form None), packet.0, packet.1, long s bytes rest form small front)

-- the packet was taken, and the address was noted
noted : (c : goal.After-move_to) → let i = c.self.inside in
    let last = decoding_of c.skip.new.self c.tell_address.new.self c.move_to.new.self c.take_address.new.self i.walker i.fault in
    let text = (c.in_ok-form.ensures.front i.reader.settings).text in
    (0 < length text) × TakesPacket i.reader c.skip.new.self text c.skip.result (Addr c.in_ok-form.form None)
    × ((image : Image) → RunsPacket image (decoding_of i.reader i.maker i.todo i.waiting i.walker i.fault) text [] last)
    × ((c.take_address.new.self.depth ≡ (c.skip.new.self.settings).depth) × IsDecoding last)
noted c =
    let i = c.self.inside in let s = i.reader.settings in let bytes = c.args.bytes.now in let rest = c.in_ok-form.rest.now in
    let form = c.in_ok-form.form in let addr = c.address_of-addr.result in let w1 = c.take_address.new.self in let r1 = c.skip.new.self in
    let t1 = c.tell_address.new.self in let at = c.skip.result in
    let front = c.in_ok-form.ensures.front s in let text = front.text in
    let small = small_bytes bytes (λ n. omega (arith, c.type_inv.bytes n)) in
    let packet = is_packet s bytes rest form small front in
    let takes = c.skip.ensures.takes [] (text, Addr form None) packet.0 packet.1 (long s bytes rest form small front) in
    let here = decoding_of i.reader i.maker i.todo i.waiting i.walker i.fault in
    let view : here ≡ c.args.self.now = c.self.view_is in
    let done : AtRest here = record {
      due = ap (λ (d : Decoding). d.due) view ∙ c.requires.rest.due;
      todo = ap (λ (d : Decoding). d.todo) view ∙ c.requires.rest.todo;
    } in
    let whole : i.fault ≡ None = ap (λ (d : Decoding). d.fault) view ∙ c.requires.whole in
    let counts : AtomsCount i.maker = record {
      informed = ap (λ (d : Decoding). (d.told).informed) view ∙ c.requires.ready.0;
      awaiting = ap (λ (d : Decoding). (d.told).awaiting) view ∙ c.requires.ready.1;
    } in
    let commits = c.take_address.ensures.commits in
    let runs = runs_address i.reader r1 i.maker t1 i.todo i.waiting w1 i.walker i.fault text at form addr c.self.invariant done whole counts
    (small_front bytes text rest front.parts small) takes c.address_of-addr.ensures.value c.address_of-addr.ensures.aligned c.tell_address.ensures commits
    c.take_address.ensures.holds in
    let holds = holds_address i.reader r1 i.maker t1 i.todo i.waiting w1 i.walker i.fault text at form addr c.self.invariant done whole counts
    (small_front bytes text rest front.parts small) takes c.address_of-addr.ensures.value c.address_of-addr.ensures.aligned c.tell_address.ensures commits
    c.take_address.ensures.holds in
    rw c.move_to.ensures (some_byte s (Ok (Addr form None)) text front.spells, takes, runs, holds)

pub invariant_of-self : goal.invariant_of-self
invariant_of-self c = (noted c).3

pub returns-clause-runs : goal.returns-clause-runs
returns-clause-runs c =
    let i = c.self.inside in let front = c.in_ok-form.ensures.front i.reader.settings in let (some, takes, runs, holds) = noted c in
    let last = decoding_of c.skip.new.self c.tell_address.new.self c.move_to.new.self c.take_address.new.self i.walker i.fault in (
      front.text,
      front.parts,
      some,
      takes.offset ∙ ap (λ (d : Decoding). (d.reader).offset + length front.text) c.self.view_is,
      λ image. subst (λ (d : Decoding). RunsPacket image d front.text [] last) c.self.view_is (runs image),
    )

pub returns-clause-settings : goal.returns-clause-settings
returns-clause-settings c = let (some, takes, runs, holds) = noted c in takes.settings ∙ ap (λ (d : Decoding). (d.reader).settings) c.self.view_is

pub returns-clause-holds : goal.returns-clause-holds
returns-clause-holds c = ((noted c).3).1
