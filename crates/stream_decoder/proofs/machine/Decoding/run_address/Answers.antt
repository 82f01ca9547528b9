use Rattle.std.proofs.Common.{◌≡◌, [], None, ap, length, length-append, subst, sym, ◌∙◌, arith}
use Rattle.etm_types.specs.Atoms.{atoms_in}
use Rattle.packet_grammar.specs.declared.packet.Packet.TheVariants.{Addr}
use Rattle.stream_decoder.specs.AtomPackets.{PassesAtoms, RunsFront}
use Rattle.stream_decoder.specs.Decoding.{Decoding, IsDecoding, decoding_of}
use Rattle.stream_decoder.proofs.AddressRuns.{addressed_runs, has_entry, is_packet, long, passes_behind}
use Rattle.stream_decoder.proofs.Fronts.{small_bytes}
use Rattle.stream_decoder.proofs.machine.Decoding.run_address.Given.{Over}
use Rattle.stream_decoder.proofs.machine.Decoding.run_address.Goals as goal

pub address_of-addr-requires : goal.address_of-addr-requires
address_of-addr-requires g c =
    let s = c.self.inside.reader.settings in let bytes = c.args.bytes.now in
    has_entry s bytes c.in_ok-form.rest.now c.in_ok-form.form (small_bytes bytes (λ n. omega (arith, c.type_inv.bytes n))) (c.in_ok-form.ensures.front s)

pub tell_address-requires-clause-form : goal.tell_address-requires-clause-form
tell_address-requires-clause-form g c =
    let s = c.self.inside.reader.settings in let bytes = c.args.bytes.now in
    has_entry s bytes c.in_ok-form.rest.now c.in_ok-form.form (small_bytes bytes (λ n. omega (arith, c.type_inv.bytes n))) (c.in_ok-form.ensures.front s)

pub overflow_sub-text : goal.overflow_sub-text
overflow_sub-text g c =
    let front = c.in_ok-form.ensures.front c.self.inside.reader.settings in
    let all = ap length front.parts in let both = length-append front.text c.in_ok-form.rest.now in omega (arith, all, both)

pub skip-at-requires-clause-packets : goal.skip-at-requires-clause-packets
skip-at-requires-clause-packets g c =
    let s = c.self.inside.reader.settings in let bytes = c.args.bytes.now in let rest = c.in_ok-form.rest.now in let form = c.in_ok-form.form in
    let front = c.in_ok-form.ensures.front s in let small = small_bytes bytes (λ n. omega (arith, c.type_inv.bytes n)) in
    let packet = is_packet s bytes rest form small front in
    ([], (front.text, Addr form None), packet.0, packet.1, long s bytes rest form small front)

pub take_up_to-requires-clause-small : goal.take_up_to-requires-clause-small
take_up_to-requires-clause-small g c =
    let i = c.self.inside in let s = i.reader.settings in let bytes = c.args.bytes.now in let rest = c.in_ok-form.rest.now in let form = c.in_ok-form.form in
    let front = c.in_ok-form.ensures.front s in let small = small_bytes bytes (λ n. omega (arith, c.type_inv.bytes n)) in
    let packet = is_packet s bytes rest form small front in
    let takes = c.skip-at.ensures.takes [] (front.text, Addr form None) packet.0 packet.1 (long s bytes rest form small front) in
    let all = ap length front.parts in let both = length-append front.text rest in
    let begun = ap (λ (d : Decoding). (d.reader).offset) c.self.view_is in omega (arith, takes.offset, all, both, begun, c.requires.few)

-- ---- the packets ran

passes_here : (g : Over) (c : goal.After-take_up_to g) → let i = c.self.inside in
    PassesAtoms (decoding_of i.reader i.maker i.todo i.waiting i.walker i.fault)
passes_here g c = subst PassesAtoms (sym c.self.view_is) c.requires.passes

all : (g : Over) (c : goal.After-take_up_to g) → let i = c.self.inside in
    let last = decoding_of c.take_up_to.new.reader c.tell_address.new.self c.take_up_to.new.todo c.pass_many.new.self c.walk_atoms-n.new.self i.fault in
    RunsFront (g.T.StretchTaker.adds c.args.image.now c.args.id i.walker.ctx) c.args.image.now
    (decoding_of i.reader i.maker i.todo i.waiting i.walker i.fault) c.args.taker.now c.args.bytes.now c.take_up_to.result.now last
    c.walk_atoms-n.new.taker
    × ((c.pass_many.new.self.depth ≡ (c.take_up_to.new.reader.settings).depth) × IsDecoding last)
all g c =
    let i = c.self.inside in let image = c.args.image.now in let s = i.reader.settings in let bytes = c.args.bytes.now in
    let rest = c.in_ok-form.rest.now in let form = c.in_ok-form.form in
    let front = c.in_ok-form.ensures.front s in let small = small_bytes bytes (λ n. omega (arith, c.type_inv.bytes n)) in
    let packet = is_packet s bytes rest form small front in
    let takes = c.skip-at.ensures.takes [] (front.text, Addr form None) packet.0 packet.1 (long s bytes rest form small front) in
    let behind = c.atoms_at.ensures.front in let passes = passes_here g c in
    addressed_runs (g.T.StretchTaker.adds image c.args.id i.walker.ctx) image i.reader c.skip-at.new.self c.take_up_to.new.reader i.maker
    c.tell_address.new.self i.todo c.take_up_to.new.todo i.waiting c.pass_many.new.self i.walker c.walk_atoms-n.new.self i.fault bytes rest
    c.take_up_to.result.now front.text c.skip-at.result form c.address_of-addr.result passes.before (atoms_in c.atoms_at.result.0)
    c.walk_atoms-n.result c.args.taker.now c.walk_atoms-n.new.taker c.self.invariant
    (record { due = passes.due; todo = c.is_empty.ensures.0 c.if-not-is_empty.false }) passes.whole
    (record { informed = passes.informed; awaiting = passes.awaiting }) small front.parts takes
    c.address_of-addr.ensures.value c.address_of-addr.ensures.aligned c.tell_address.ensures ((c.self.invariant).0 ∙ passes.depth) passes.pre c.walk_atoms-n.ensures.walks
    (omega (arith, c.if-n-eq0.false)) c.pass_many.ensures.value (behind.0, c.atoms_at.result.1.now, behind.1, behind.2) c.take_up_to.ensures.reaches

pub invariant_of-self-2 : goal.invariant_of-self-2
invariant_of-self-2 g c = (all g c).1

pub returns-clause-runs : goal.returns-clause-runs
returns-clause-runs g c =
    let i = c.self.inside in let image = c.args.image.now in
    let last = decoding_of c.take_up_to.new.reader c.tell_address.new.self c.take_up_to.new.todo c.pass_many.new.self c.walk_atoms-n.new.self i.fault in
    subst (λ (d : Decoding). RunsFront (g.T.StretchTaker.adds image c.args.id (d.walk).ctx) image d c.args.taker.now c.args.bytes.now
    c.take_up_to.result.now last c.walk_atoms-n.new.taker) c.self.view_is (all g c).0

pub returns-clause-holds : goal.returns-clause-holds
returns-clause-holds g c = ((all g c).1).1

pub returns-clause-passes : goal.returns-clause-passes
returns-clause-passes g c =
    let i = c.self.inside in
    passes_behind i.reader c.take_up_to.new.reader i.maker c.tell_address.new.self i.todo c.take_up_to.new.todo i.waiting c.pass_many.new.self i.walker
    c.walk_atoms-n.new.self i.fault c.in_ok-form.form c.walk_atoms-n.result (passes_here g c) c.tell_address.ensures c.pass_many.ensures.value
    ((all g c).0).settings c.take_up_to.ensures.between
