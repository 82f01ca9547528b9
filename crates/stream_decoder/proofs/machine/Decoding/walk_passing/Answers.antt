use Rattle.std.proofs.Common.{◌≡◌, ◌<◌, [], ℕ, List, length, drop, sym, ap, subst, ◌∙◌, arith}
use Rattle.etm_types.specs.declared.context.Ctx.{Ctx}
use Rattle.path_walker.specs.State.{State}
use Rattle.path_walker.specs.Walk.{items_in}
use Rattle.path_walker.specs.declared.stretch.Stretch.{Stretch}
use Rattle.stream_decoder.specs.Decoding.{Decoding, decoding_of}
use Rattle.stream_decoder.specs.Waiting.{passed}
use Rattle.stream_decoder.specs.Yields.{Goes, left}
use Rattle.stream_decoder.proofs.LettingGo.{none_passed, walks_some, walks_still}
use Rattle.stream_decoder.proofs.Runs.{Ran, ran, walks_within}
use Rattle.stream_decoder.proofs.machine.Decoding.walk_passing.Given.{Over}
use Rattle.stream_decoder.proofs.machine.Decoding.walk_passing.Goals as goal

pub advance_by-requires : goal.advance_by-requires
advance_by-requires g c =
    let i = c.self.inside in let walks = c.walk_run-n.ensures.walks in
    let within = walks_within c.args.image.now i.walker c.walk_run-n.new.walker c.args.given i.todo.elements walks.0 walks.3 in
    omega (arith, within, walks.2)

-- the run was walked and taken
all : (g : Over) (c : goal.After-advance_by g) → let i = c.self.inside in
    Ran c.args.image.now i.reader i.maker i.fault i.walker c.walk_run-n.new.walker c.walk_run-n.ensures.walks.0 i.todo c.advance_by.new.self i.waiting
    c.pass_many.new.self
all g c =
    let i = c.self.inside in let shown = c.self.view_is in let walks = c.walk_run-n.ensures.walks in let run = walks.0 in
    let none = ap (λ (d : Decoding). d.due) shown ∙ c.requires.due in
    let zero = c.self.invariant.0 ∙ ap (λ (d : Decoding). ((d.reader).settings).depth) shown ∙ c.requires.depth in
    let given = ap (λ (d : Decoding). (d.pending).pre) shown ∙ c.requires.given in
    let some : 0 < length run = omega (arith, c.if-n-gt0.true, walks.2) in
    ran c.args.image.now i.reader i.maker i.fault i.walker c.walk_run-n.new.walker c.args.given run i.todo c.advance_by.new.self i.waiting
    c.pass_many.new.self none zero given c.self.invariant some walks.3
    (c.advance_by.ensures ∙ ap (λ (n : ℕ). record (i.todo) { elements = drop n i.todo.elements }) (sym walks.2))
    (c.pass_many.ensures.value ∙ ap (λ (n : ℕ). passed n i.waiting) (sym walks.2))

pub invariant_of-self : goal.invariant_of-self
invariant_of-self g c = (all g c).2

pub returns-then-n-gt0-clause-walks : goal.returns-then-n-gt0-clause-walks
returns-then-n-gt0-clause-walks g c =
    let i = c.self.inside in let image = c.args.image.now in let d = c.args.self.now in let walks = c.walk_run-n.ensures.walks in let run = walks.0 in
    let context = ap (λ (d : Decoding). (d.walk).ctx) c.self.view_is in
    let last = decoding_of i.reader i.maker c.advance_by.new.self c.pass_many.new.self c.walk_run-n.new.walker i.fault in
    walks_some (g.T.StretchTaker.adds image c.args.id d.walk.ctx) image d last c.args.taker.now c.walk_run-n.new.taker run
    (subst (λ (d : Decoding). Goes image d (items_in (d.walk).ctx run) last) c.self.view_is (all g c).0)
    (λ empty. omega (arith, c.if-n-gt0.true, walks.2, ap (λ (l : List Stretch). length l) empty))
    (subst (λ (d : Decoding). left last < left d) c.self.view_is (all g c).1) (c.walk_run-n.ensures.context ∙ context)
    (subst (λ (ctx : Ctx). g.T.StretchTaker.adds image c.args.id ctx c.args.taker.now run c.walk_run-n.new.taker) context walks.1)

pub returns-then-n-gt0-clause-holds : goal.returns-then-n-gt0-clause-holds
returns-then-n-gt0-clause-holds g c = (all g c).2.1

-- none was walked
still : (g : Over) (c : goal.Else-n-gt0 g) → (c.walk_run-n.new.walker ≡ c.self.inside.walker) × (c.walk_run-n.ensures.walks.0 ≡ [])
still g c =
    let walks = c.walk_run-n.ensures.walks in
    none_passed c.args.image.now c.self.inside.walker c.walk_run-n.new.walker c.args.given c.self.inside.todo.elements walks.0
    (omega (arith, c.if-n-gt0.false, walks.2)) walks.3

pub returns-else-n-gt0-clause-walks : goal.returns-else-n-gt0-clause-walks
returns-else-n-gt0-clause-walks g c =
    let i = c.self.inside in let image = c.args.image.now in let d = c.args.self.now in let walks = c.walk_run-n.ensures.walks in
    let same = ap (λ (s : State). decoding_of i.reader i.maker i.todo i.waiting s i.fault) (still g c).0 ∙ c.self.view_is in
    walks_still (g.T.StretchTaker.adds image c.args.id d.walk.ctx) image d _ c.args.taker.now c.walk_run-n.new.taker walks.0 same (still g c).1
    (subst (λ (ctx : Ctx). g.T.StretchTaker.adds image c.args.id ctx c.args.taker.now walks.0 c.walk_run-n.new.taker)
    (ap (λ (d : Decoding). (d.walk).ctx) c.self.view_is) walks.1)
