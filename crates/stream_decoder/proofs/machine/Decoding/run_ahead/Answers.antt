use Rattle.std.proofs.Common.{◌≡◌, ◌≤◌, ◌++◌, Bool, List, ℕ, ap, length, refl, subst, sym, take, ◌∙◌, arith}
use Rattle.std.proofs.lemmas.List.{take-append-le, take-take}
use Rattle.element_queue.specs.Outlooks.{Outlook}
use Rattle.etm_types.specs.Atoms.{atoms_in}
use Rattle.stream_decoder.specs.Ahead.{GiveOut}
use Rattle.stream_decoder.specs.AtomPackets.{RunsFront}
use Rattle.stream_decoder.specs.Decoding.{AtRest, Decoding, IsDecoding, decoding_of}
use Rattle.stream_decoder.specs.Left.{Left}
use Rattle.stream_decoder.specs.Waiting.{Waiting}
use Rattle.stream_decoder.proofs.AheadGives.{few_settled, gives_out, same_before, same_before_one}
use Rattle.stream_decoder.proofs.AheadPackets.{foretold_packets, some_bytes}
use Rattle.stream_decoder.proofs.AheadRuns.{ahead_runs}
use Rattle.stream_decoder.proofs.Fronts.{small_bytes}
use Rattle.stream_decoder.proofs.LettingGo.{waits_in}
use Rattle.stream_decoder.proofs.Rotating.{length_bits}
use Rattle.stream_decoder.proofs.machine.Decoding.run_ahead.Given.{Over}
use Rattle.stream_decoder.proofs.machine.Decoding.run_ahead.Goals as goal

pub skip-requires-clause-packets : goal.skip-requires-clause-packets
skip-requires-clause-packets g c =
    let f = c.no_further-outlook.ensures.foretold in let bytes = c.args.bytes.now in
    let whole = foretold_packets c.self.inside.reader.settings c.in_ok-outlook.outlook f.before c.no_further-outlook.result.outlook bytes
    c.no_further-outlook.result.behind.now f.first f.last (small_bytes bytes (λ n. omega (arith, c.type_inv.bytes n))) f.parts f.moves f.ends in
    (f.first, f.last, whole.0, whole.1, f.length_is)

pub settle-requires-clause-before : goal.settle-requires-clause-before
settle-requires-clause-before g c =
    let f = c.no_further-outlook.ensures.foretold in let o = c.in_ok-outlook.outlook in
    same_before_one f.before c.no_further-outlook.result.outlook f.last f.ends ∙ same_before o f.before f.first f.moves
    ∙ ap (λ (x : Outlook). x.before) c.in_ok-outlook.ensures.new

pub settle-requires-clause-few : goal.settle-requires-clause-few
settle-requires-clause-few g c =
    let i = c.self.inside in let f = c.no_further-outlook.ensures.foretold in let e = c.in_ok-outlook.ensures in
    let waits = waits_in i.reader i.maker i.todo i.waiting i.walker i.fault c.self.invariant.0 c.self.invariant.1 in
    few_settled c.in_ok-outlook.outlook c.no_further-outlook.result.outlook f.before c.self.inside.waiting f.first f.last c.walk_plain-n.result e.held
    (ap (λ (x : Outlook). x.depth) e.new) waits f.moves f.ends f.within

-- what was walked is the oldest of what is committed
front_of : (n count : ℕ) (told gone all more : List Bool) → told ≡ take count all → all ≡ gone ++ more → n ≤ count → n ≤ length gone
    → take n gone ≡ take n told
front_of n count told gone all more walked is few within =
    sym (take-append-le n gone more within) ∙ ap (take n) (sym is) ∙ sym (take-take n count all few) ∙ ap (take n) (sym walked)

-- the packets ran
all : (g : Over) (c : goal.After-settle g) → let i = c.self.inside in
    let last = decoding_of c.skip.new.self i.maker c.move_to.new.self c.settle.new.self c.walk_plain-n.new.walker i.fault in
    RunsFront (g.T.StretchTaker.adds c.args.image.now c.args.id i.walker.ctx) c.args.image.now
    (decoding_of i.reader i.maker i.todo i.waiting i.walker i.fault) c.args.taker.now c.args.bytes.now c.no_further-outlook.result.behind.now last
    c.walk_plain-n.new.taker
    × ((c.settle.new.self.depth ≡ (c.skip.new.self.settings).depth) × IsDecoding last)
all g c =
    let i = c.self.inside in let image = c.args.image.now in let bytes = c.args.bytes.now in let behind = c.no_further-outlook.result.behind.now in
    let o = c.in_ok-outlook.outlook in let e = c.in_ok-outlook.ensures in
    let o' = c.no_further-outlook.result.outlook in let f = c.no_further-outlook.ensures.foretold in
    let n = c.walk_plain-n.result in let run = c.oldest-atoms.result in let told = atoms_in run in let gone = take n o'.gone in
    let small = small_bytes bytes (λ n. omega (arith, c.type_inv.bytes n)) in
    let whole = foretold_packets i.reader.settings o f.before o' bytes behind f.first f.last small f.parts f.moves f.ends in
    let waits = waits_in i.reader i.maker i.todo i.waiting i.walker i.fault c.self.invariant.0 c.self.invariant.1 in
    let ready = c.is_ready.ensures.0 c.if-not-is_ready.false in
    let takes = c.skip.ensures.takes f.first f.last whole.0 whole.1 f.length_is in
    let gives : GiveOut i.waiting f.first f.last gone c.settle.new.self =
    subst (λ (w : Waiting). GiveOut i.waiting f.first f.last gone w) (sym c.settle.ensures.value)
    (gives_out o o' f.before i.waiting f.first f.last n (e.due refl) (e.given refl) e.held (ap (λ (x : Outlook). x.depth) e.new) waits
    (ap (λ (x : Outlook). x.gone) e.new) (ap (λ (x : Outlook). x.made) e.new) (ap (λ (x : Outlook). x.cancelled) e.new) f.moves f.ends f.within
    c.no_further-outlook.ensures.reaches) in
    let front = c.no_further-outlook.ensures.front in
    let gone_is : gone ≡ take n told =
    front_of n run.count told o'.gone c.foretell-ahead.result.outlook.gone front.0 c.oldest-atoms.ensures.atoms front.1 c.walk_plain-n.ensures.most
    c.no_further-outlook.ensures.reaches in
    let few : n ≤ length told = omega (arith, c.walk_plain-n.ensures.most, length_bits run.count run.bits) in
    let Ran = λ (l : Left). let last = decoding_of c.skip.new.self i.maker l c.settle.new.self c.walk_plain-n.new.walker i.fault in
    RunsFront (g.T.StretchTaker.adds image c.args.id i.walker.ctx) image (decoding_of i.reader i.maker i.todo i.waiting i.walker i.fault) c.args.taker.now
    bytes behind last c.walk_plain-n.new.taker
    × ((c.settle.new.self.depth ≡ (c.skip.new.self.settings).depth) × IsDecoding last) in
    subst Ran (sym c.move_to.ensures) (ahead_runs (g.T.StretchTaker.adds image c.args.id i.walker.ctx) image i.reader c.skip.new.self i.maker i.todo i.waiting
    c.settle.new.self i.walker c.walk_plain-n.new.walker i.fault bytes behind f.first f.last c.skip.result told gone n c.args.taker.now
    c.walk_plain-n.new.taker c.self.invariant (subst AtRest (sym c.self.view_is) c.requires.rest)
    (ap (λ (d : Decoding). d.fault) c.self.view_is ∙ c.requires.whole) (record { informed = ready.0; awaiting = ready.1 })
    small f.parts (some_bytes f.before o' f.last f.ends) takes gives gone_is
    c.walk_plain-n.ensures.walks few)

pub invariant_of-self-2 : goal.invariant_of-self-2
invariant_of-self-2 g c = (all g c).1

pub returns-clause-runs : goal.returns-clause-runs
returns-clause-runs g c =
    let i = c.self.inside in let image = c.args.image.now in
    let last = decoding_of c.skip.new.self i.maker c.move_to.new.self c.settle.new.self c.walk_plain-n.new.walker i.fault in
    subst (λ (d : Decoding). RunsFront (g.T.StretchTaker.adds image c.args.id (d.walk).ctx) image d c.args.taker.now c.args.bytes.now
    c.no_further-outlook.result.behind.now last c.walk_plain-n.new.taker) c.self.view_is (all g c).0

pub returns-clause-holds : goal.returns-clause-holds
returns-clause-holds g c = ((all g c).1).1
