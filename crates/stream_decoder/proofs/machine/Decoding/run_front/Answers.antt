use Rattle.std.proofs.Common.{◌≡◌, ap, refl, subst, sym, ◌∙◌, arith}
use Rattle.etm_types.specs.Atoms.{atoms_in}
use Rattle.stream_decoder.specs.AtomPackets.{RunsFront}
use Rattle.stream_decoder.specs.Decoding.{AtRest, Decoding, IsDecoding, decoding_of}
use Rattle.stream_decoder.specs.Left.{Left}
use Rattle.stream_decoder.proofs.Fronts.{small_bytes}
use Rattle.stream_decoder.proofs.PacketRuns.{AtomsCount, elements_are, front_runs}
use Rattle.stream_decoder.proofs.Rotating.{length_bits}
use Rattle.stream_decoder.proofs.machine.Decoding.run_front.Given.{Over}
use Rattle.stream_decoder.proofs.machine.Decoding.run_front.Goals as goal

pub take_up_to-requires-clause-few : goal.take_up_to-requires-clause-few
take_up_to-requires-clause-few g c =
    let met = c.in_ok-atoms_of.ensures.counts.0 refl in let run = c.atoms_at.result.0 in
    let front_is = ap (λ (l : Left). l.elements) c.of-front.ensures ∙ c.in_ok-atoms_of.ensures.some.1
    ∙ elements_are c.self.inside.maker run (record { informed = met.0; awaiting = met.1 }) in
    let some = c.take_some-n.ensures.steps (atoms_in run) front_is in omega (arith, some.within, length_bits run.count run.bits)

-- the packets ran
all : (g : Over) (c : goal.After-take_up_to g) → let i = c.self.inside in
    let last = decoding_of c.take_up_to.new.reader i.maker c.take_up_to.new.todo c.take_some-n.new.waiting c.take_some-n.new.walker i.fault in
    RunsFront (g.T.StretchTaker.adds c.args.image.now c.args.id i.walker.ctx) c.args.image.now
    (decoding_of i.reader i.maker i.todo i.waiting i.walker i.fault) c.args.taker.now c.args.bytes.now c.take_up_to.result.now last
    c.take_some-n.new.taker
    × ((c.take_some-n.new.waiting.depth ≡ (c.take_up_to.new.reader.settings).depth) × IsDecoding last)
all g c =
    let i = c.self.inside in let image = c.args.image.now in let bytes = c.args.bytes.now in
    let run = c.atoms_at.result.0 in let told = atoms_in run in
    let met = c.in_ok-atoms_of.ensures.counts.0 refl in
    let counts : AtomsCount i.maker = record { informed = met.0; awaiting = met.1 } in
    let front_is = ap (λ (l : Left). l.elements) c.of-front.ensures ∙ c.in_ok-atoms_of.ensures.some.1 ∙ elements_are i.maker run counts in
    let front = c.atoms_at.ensures.front in
    front_runs (g.T.StretchTaker.adds image c.args.id i.walker.ctx) image i.reader c.take_up_to.new.reader i.maker i.todo c.take_up_to.new.todo i.waiting
    c.take_some-n.new.waiting i.walker c.take_some-n.new.walker i.fault bytes c.take_up_to.result.now told c.take_some-n.result c.args.taker.now
    c.take_some-n.new.taker c.self.invariant (subst AtRest (sym c.self.view_is) c.requires.rest)
    (ap (λ (d : Decoding). d.fault) c.self.view_is ∙ c.requires.whole) counts (small_bytes bytes (λ n. omega (arith, c.type_inv.bytes n)))
    (front.0, c.atoms_at.result.1.now, front.1, front.2) (c.take_some-n.ensures.steps told front_is) c.take_up_to.ensures.reaches

pub invariant_of-self-2 : goal.invariant_of-self-2
invariant_of-self-2 g c = (all g c).1

pub returns-clause-runs : goal.returns-clause-runs
returns-clause-runs g c =
    let i = c.self.inside in let image = c.args.image.now in
    let last = decoding_of c.take_up_to.new.reader i.maker c.take_up_to.new.todo c.take_some-n.new.waiting c.take_some-n.new.walker i.fault in
    subst (λ (d : Decoding). RunsFront (g.T.StretchTaker.adds image c.args.id (d.walk).ctx) image d c.args.taker.now c.args.bytes.now
    c.take_up_to.result.now last c.take_some-n.new.taker) c.self.view_is (all g c).0

pub returns-clause-holds : goal.returns-clause-holds
returns-clause-holds g c = ((all g c).1).1
