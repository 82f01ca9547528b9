use Rattle.std.proofs.Common.{◌≡◌, ◌≤◌, ◌<◌, ◌++◌, [], List, length, ap, subst, ◌∙◌, arith}
use Rattle.etm_types.specs.declared.context.Ctx.{Ctx}
use Rattle.etm_types.specs.declared.element.Thing.{Thing}
use Rattle.path_walker.specs.State.{State}
use Rattle.path_walker.specs.Walk.{items_in}
use Rattle.stream_decoder.specs.Decoding.{Decoding, decoding_of}
use Rattle.stream_decoder.specs.Waiting.{IsWaiting, all_of}
use Rattle.stream_decoder.specs.Yields.{Goes, left}
use Rattle.stream_decoder.proofs.LettingGo.{none_more, ran_by_taking, some_more, waits_in, walked_within, walks_some, walks_still}
use Rattle.stream_decoder.proofs.Runs.{Ran}
use Rattle.stream_decoder.proofs.machine.Decoding.walk_committed.Given.{Over}
use Rattle.stream_decoder.proofs.machine.Decoding.walk_committed.Goals as goal

-- none was walked
still : (g : Over) (c : goal.Then-n-eq0 g) → (c.walk_oldest-n.new.walker ≡ c.self.inside.walker) × (c.walk_oldest-n.ensures.added ≡ [])
still g c =
    let i = c.self.inside in let walks = c.walk_oldest-n.ensures in
    none_more c.args.image.now i.walker c.walk_oldest-n.new.walker (all_of i.waiting) walks.added c.walk_oldest-n.result walks.count c.if-n-eq0.true walks.walks

pub returns-then-n-eq0-clause-walks : goal.returns-then-n-eq0-clause-walks
returns-then-n-eq0-clause-walks g c =
    let i = c.self.inside in let image = c.args.image.now in let d = c.args.self.now in let walks = c.walk_oldest-n.ensures in
    let same = ap (λ (s : State). decoding_of i.reader i.maker i.todo i.waiting s i.fault) (still g c).0 ∙ c.self.view_is in
    walks_still (g.T.StretchTaker.adds image c.args.id d.walk.ctx) image d _ c.args.taker.now c.walk_oldest-n.new.taker walks.added same (still g c).1
    (subst (λ (ctx : Ctx). g.T.StretchTaker.adds image c.args.id ctx c.args.taker.now walks.added c.walk_oldest-n.new.taker)
    (ap (λ (d : Decoding). (d.walk).ctx) c.self.view_is) walks.takes)

pub take_atoms-requires-clause-atoms : goal.take_atoms-requires-clause-atoms
take_atoms-requires-clause-atoms g c k below = (c.atom_count-most.ensures.value k).0 (omega (arith, below, c.walk_oldest-n.ensures.within))

pub take_atoms-requires-clause-held : goal.take_atoms-requires-clause-held
take_atoms-requires-clause-held g c =
    let i = c.self.inside in let walks = c.walk_oldest-n.ensures in
    let due = ap (λ (d : Decoding). d.due) c.self.view_is ∙ c.requires.due in
    let held = ap (λ (x : List Thing). length (x ++ (i.waiting.pending).held)) due in
    omega (arith, walks.count, held, walked_within c.args.image.now i.walker c.walk_oldest-n.new.walker (all_of i.waiting) walks.added walks.walks)

-- nothing is due, no more may be held, and what waits is as it must be
none : (g : Over) (c : goal.After-take_atoms g) → c.self.inside.waiting.due ≡ []
none g c = ap (λ (d : Decoding). d.due) c.self.view_is ∙ c.requires.due

full : (g : Over) (c : goal.After-take_atoms g) → c.self.inside.waiting.depth ≤ length c.self.inside.waiting.pending.held
full g c =
    let held = ap (λ (d : Decoding). length (d.pending).held) c.self.view_is in
    let depth = ap (λ (d : Decoding). ((d.reader).settings).depth) c.self.view_is in omega (arith, c.requires.full, held, depth, c.self.invariant.0)

waits : (g : Over) (c : goal.After-take_atoms g) → IsWaiting c.self.inside.waiting
waits g c = let i = c.self.inside in waits_in i.reader i.maker i.todo i.waiting i.walker i.fault c.self.invariant.0 c.self.invariant.1

-- the run was walked and let go
ran : (g : Over) (c : goal.After-take_atoms g) → let i = c.self.inside in
    Ran c.args.image.now i.reader i.maker i.fault i.walker c.walk_oldest-n.new.walker c.walk_oldest-n.ensures.added i.todo c.take_atoms.new.todo
    i.waiting c.take_atoms.new.waiting
ran g c =
    let i = c.self.inside in let walks = c.walk_oldest-n.ensures in
    ran_by_taking c.args.image.now i.reader i.maker i.fault i.walker c.walk_oldest-n.new.walker walks.added c.walk_oldest-n.result i.todo c.take_atoms.new.todo i.waiting
    c.take_atoms.new.waiting walks.count c.if-n-eq0.false (none g c) (full g c) (waits g c) c.self.invariant walks.walks c.take_atoms.ensures.takes c.take_atoms.ensures.at

pub invariant_of-self-2 : goal.invariant_of-self-2
invariant_of-self-2 g c = (ran g c).2

pub returns-clause-walks : goal.returns-clause-walks
returns-clause-walks g c =
    let i = c.self.inside in let image = c.args.image.now in let d = c.args.self.now in let walks = c.walk_oldest-n.ensures in
    let context = ap (λ (d : Decoding). (d.walk).ctx) c.self.view_is in
    let last = decoding_of i.reader i.maker c.take_atoms.new.todo c.take_atoms.new.waiting c.walk_oldest-n.new.walker i.fault in
    walks_some (g.T.StretchTaker.adds image c.args.id d.walk.ctx) image d last c.args.taker.now c.walk_oldest-n.new.taker walks.added
    (subst (λ (d : Decoding). Goes image d (items_in (d.walk).ctx walks.added) last) c.self.view_is (ran g c).0)
    (some_more walks.added c.walk_oldest-n.result walks.count c.if-n-eq0.false)
    (subst (λ (d : Decoding). left last < left d) c.self.view_is (ran g c).1) (c.walk_oldest-n.ensures.context ∙ context)
    (subst (λ (ctx : Ctx). g.T.StretchTaker.adds image c.args.id ctx c.args.taker.now walks.added c.walk_oldest-n.new.taker) context walks.takes)

pub returns-clause-fewer : goal.returns-clause-fewer
returns-clause-fewer g c some =
    let i = c.self.inside in let last = decoding_of i.reader i.maker c.take_atoms.new.todo c.take_atoms.new.waiting c.walk_oldest-n.new.walker i.fault in
    subst (λ (d : Decoding). left last < left d) c.self.view_is (ran g c).1

pub returns-clause-holds : goal.returns-clause-holds
returns-clause-holds g c = (ran g c).2.1
