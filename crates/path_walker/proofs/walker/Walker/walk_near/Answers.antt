use Rattle.std.proofs.Common.{◌<◌, ◌+◌, ◌/◌, ◌^◌, None, arith, refl, subst, sym}
use Rattle.etm_types.specs.Atoms.{low_bits}
use Rattle.path_walker.specs.State.{IsState, State}
use Rattle.path_walker.specs.Together.{WalksInto}
use Rattle.path_walker.proofs.AtomRuns.{none_before}
use Rattle.path_walker.proofs.Together.{into_joined, into_none, into_one_more}
use Rattle.path_walker.proofs.walker.Walker.walk_near.Given.{Over}
use Rattle.path_walker.proofs.walker.Walker.walk_near.Goals.{After-walk_known-n}
use Rattle.path_walker.proofs.walker.Walker.walk_near.Goals as goal

pub loop-n-init : goal.loop-n-init
loop-n-init g c =
    let taker = g.T.StretchTaker in let law = g.met.T.StretchTaker in let image = c.args.image.now in let id = c.args.id in
    record {
      walks = into_none (taker.adds image id) (law.none image id) (law.joins image id) taker.space taker.begun image c.args.self.now None
          (low_bits c.args.most c.args.bits) c.args.taker.now c.requires.begun (subst IsState c.self.view_is c.self.invariant.0);
      most = omega arith;
      room = omega (arith, c.requires.room);
    }

-- the atoms of the part that is near
near : (g : Over) (c : After-walk_known-n g)
    → WalksInto (g.T.StretchTaker.adds c.args.image.now c.args.id) g.T.StretchTaker.space g.T.StretchTaker.begun c.args.image.now c.args.self.now None
    (low_bits c.args.most c.args.bits) c.args.taker.now (c.loop-n.n + c.walk_known-n.result) c.walk_known-n.new.self c.walk_known-n.new.taker
near g c =
    let taker = g.T.StretchTaker in let law = g.met.T.StretchTaker in let image = c.args.image.now in let id = c.args.id in
    let l = c.loop-n in let next = c.walk_known-n in
    into_joined (taker.adds image id) (law.none image id) (law.joins image id) taker.space taker.begun image c.args.self.now l.self next.new.self None
    c.args.most c.args.bits l.n next.result c.args.taker.now l.taker next.new.taker l.invariant.most (none_before l.n) l.invariant.walks
    next.ensures.walks

pub loop-n-preserved : goal.loop-n-preserved
loop-n-preserved g c =
    let taker = g.T.StretchTaker in let law = g.met.T.StretchTaker in let image = c.args.image.now in let id = c.args.id in
    let next = c.walk_known-n in let other = c.walk_return in let n = c.loop-n.n + next.result in let i = c.loop-n.invariant in
    let below : n < c.args.most = omega (arith, next.ensures.most, i.most, c.if-n-most.false) in
    let one = other.ensures.walks c.if-not-walk_return.false in
    record {
      walks = into_one_more (taker.adds image id) (law.none image id) (law.joins image id) taker.space taker.begun image c.args.self.now next.new.self
          other.new.self c.args.most c.args.bits (c.args.bits / 2 ^ n) n c.args.taker.now next.new.taker other.new.taker below refl
          (near g (goal.at.loop-n-preserved g c).After-walk_known-n) one;
      most = omega (arith, below);
      room = omega (arith, i.room, below, next.ensures.walks.space, one.space);
    }

pub returns-then-n-most-clause-walks : goal.returns-then-n-most-clause-walks
returns-then-n-most-clause-walks g c = near g (goal.at.returns-then-n-most-clause-walks g c).After-walk_known-n

pub returns-then-not-walk_return-clause-walks : goal.returns-then-not-walk_return-clause-walks
returns-then-not-walk_return-clause-walks g c =
    let taker = g.T.StretchTaker in let image = c.args.image.now in let s = c.args.self.now in let atoms = low_bits c.args.most c.args.bits in
    let n = c.loop-n.n + c.walk_known-n.result in let same = c.if-not-walk_return.ensures.unchanged refl in
    subst (λ t. WalksInto (taker.adds image c.args.id) taker.space taker.begun image s None atoms c.args.taker.now n c.walk_return.new.self t) (sym same.1)
    (subst (λ (x : State). WalksInto (taker.adds image c.args.id) taker.space taker.begun image s None atoms c.args.taker.now n x c.walk_known-n.new.taker)
    (sym same.0) (near g (goal.at.returns-then-not-walk_return-clause-walks g c).After-walk_known-n))
