use Rattle.std.proofs.Common.{[], refl, subst, sym, ◌∙◌}
use Rattle.etm_types.specs.declared.context.Ctx.{Ctx}
use Rattle.stream_decoder.specs.AtomPackets.{RunsFront}
use Rattle.stream_decoder.specs.Decoding.{Decoding}
use Rattle.stream_decoder.proofs.AddressRuns.{one_shows_nothing}
use Rattle.stream_decoder.proofs.Atoms.{if_some}
use Rattle.stream_decoder.proofs.JoinedRuns.{ran_none, ran_on, ran_some}
use Rattle.stream_decoder.proofs.machine.Decoding.run_addressed.Goals as goal

pub returns-then-is_none-clause-runs : goal.returns-then-is_none-clause-runs
returns-then-is_none-clause-runs g c =
    let image = c.args.image.now in let id = c.args.id in let here = c.args.self.now in let ctx = (here.walk).ctx in let taker = c.args.taker.now in
    let e = c.note_addressed.ensures in
    if_some c.note_addressed.result _ _
    (λ behind noted. one_shows_nothing (g.T.StretchTaker.adds image id ctx) image here c.note_addressed.new.self c.args.bytes.now behind.now noted.0 taker
    noted.1 noted.2 noted.3 e.settings (noted.4 image) (g.met.T.StretchTaker.none image id ctx taker)) e.runs

pub loop-behind-preserved : goal.loop-behind-preserved
loop-behind-preserved g c =
    let image = c.args.image.now in let id = c.args.id in let here = c.args.self.now in let ctx = (here.walk).ctx in let l = c.loop-behind in
    let i = l.invariant in let e = c.in-Some.ensures in let after = c.run_address.new.self in let taker = c.run_address.new.taker in
    let behind = c.in-Some.behind.now in
    let more = subst (λ (x : Ctx). RunsFront (g.T.StretchTaker.adds image id x) image l.self l.taker l.rest.now behind after taker) i.context e.runs in
    record {
      runs = ran_on (g.T.StretchTaker.adds image id ctx) (g.met.T.StretchTaker.joins image id ctx) image here c.args.taker.now c.args.bytes.now l.self after
          l.taker taker l.rest.now behind i.runs e.rest i.holds i.context more;
      passes = e.passes;
      holds = e.holds;
      context = e.context ∙ i.context;
    }

pub returns-then-rest-bytes-clause-none : goal.returns-then-rest-bytes-clause-none
returns-then-rest-bytes-clause-none g c none =
    let image = c.args.image.now in let id = c.args.id in let here = c.args.self.now in let ctx = (here.walk).ctx in let l = c.loop-behind in
    let i = l.invariant in let (same, takes) = c.in_default.ensures.none refl in let taker = c.run_address.new.taker in
    let nothing = subst (λ (x : Ctx). g.T.StretchTaker.adds image id x l.taker [] taker) i.context takes in
    let (back, all) = ran_none (g.T.StretchTaker.adds image id ctx) (g.met.T.StretchTaker.joins image id ctx) image here c.args.taker.now c.args.bytes.now
    l.self l.taker taker l.rest.now i.runs nothing c.if-rest-bytes.true in
    (same ∙ back, all)

pub returns-clause-runs : goal.returns-clause-runs
returns-clause-runs g c =
    let image = c.args.image.now in let id = c.args.id in let here = c.args.self.now in let ctx = (here.walk).ctx in let l = c.loop-behind in
    let i = l.invariant in let (same, takes) = c.in_default.ensures.none refl in let taker = c.run_address.new.taker in
    let nothing = subst (λ (x : Ctx). g.T.StretchTaker.adds image id x l.taker [] taker) i.context takes in
    subst (λ (d : Decoding). RunsFront (g.T.StretchTaker.adds image id ctx) image here c.args.taker.now c.args.bytes.now l.rest.now d taker) (sym same)
    (ran_some (g.T.StretchTaker.adds image id ctx) (g.met.T.StretchTaker.joins image id ctx) image here c.args.taker.now c.args.bytes.now l.self l.taker
    taker l.rest.now i.runs nothing c.if-rest-bytes.false)
