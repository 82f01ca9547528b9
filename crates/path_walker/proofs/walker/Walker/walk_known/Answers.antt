use Rattle.std.proofs.Common.{◌≡◌, ◌+◌, ◌%◌, ◌∷◌, [], None, true, ap, arith, refl, subst, sym, ◌∙◌}
use Rattle.std.specs.Prelude.{◌==◌}
use Rattle.etm_types.specs.Atoms.{low_bits}
use Rattle.path_walker.specs.State.{State, standing}
use Rattle.path_walker.specs.Together.{WalksInto}
use Rattle.path_walker.specs.declared.pc.Pc.TheVariants.{Known}
use Rattle.path_walker.proofs.AtomRuns.{next_left, same_standing}
use Rattle.path_walker.proofs.Together.{into_one_more}
use Rattle.path_walker.proofs.walker.Walker.walk_known.Given.{Over}
use Rattle.path_walker.proofs.walker.Walker.walk_known.Goals.{After-walk_along}
use Rattle.path_walker.proofs.walker.Walker.walk_known.Goals as goal

pub loop-n-preserved-in-Some-walk_conditional : goal.loop-n-preserved-in-Some-walk_conditional
loop-n-preserved-in-Some-walk_conditional g c =
    let taker = g.T.StretchTaker in let law = g.met.T.StretchTaker in let image = c.args.image.now in let id = c.args.id in
    let l = c.loop-n in let i = l.invariant in let one = c.in-Some-walk_conditional.ensures.walks in
    record {
      walks = into_one_more (taker.adds image id) (law.none image id) (law.joins image id) taker.space taker.begun image c.args.self.now
          (standing (Known l.pc) l.self) (standing (Known c.in-Some-walk_conditional.next) c.walk_conditional.new.self) c.args.most c.args.bits l.left
          l.n c.args.taker.now l.taker c.walk_conditional.new.taker c.loop-n-test.true i.left i.walks one;
      left = next_left c.args.bits l.left l.n i.left;
      most = omega (arith, c.loop-n-test.true);
      room = omega (arith, i.room, c.loop-n-test.true, one.space);
    }

-- one atom more, of any kind
more : (g : Over) (c : After-walk_along g) → c.walk_along.result ≡ true
    → WalksInto (g.T.StretchTaker.adds c.args.image.now c.args.id) g.T.StretchTaker.space g.T.StretchTaker.begun c.args.image.now c.args.self.now None
    (low_bits c.args.most c.args.bits) c.args.taker.now (c.loop-n.n + 1) c.walk_along.new.self c.walk_along.new.taker
more g c walked =
    let taker = g.T.StretchTaker in let law = g.met.T.StretchTaker in let image = c.args.image.now in let id = c.args.id in
    let l = c.loop-n in let i = l.invariant in let next = c.walk_along in let same = c.in_default-walk_conditional.ensures.unchanged refl in
    into_one_more (taker.adds image id) (law.none image id) (law.joins image id) taker.space taker.begun image c.args.self.now
    (standing (Known l.pc) l.self) next.new.self c.args.most c.args.bits l.left l.n c.args.taker.now l.taker next.new.taker c.loop-n-test.true i.left
    i.walks
    (subst (λ t. WalksInto (taker.adds image id) taker.space taker.begun image (standing (Known l.pc) l.self) None ((l.left % 2 == 1) ∷ []) t 1
    next.new.self next.new.taker) same.1
    (subst (λ (x : State). WalksInto (taker.adds image id) taker.space taker.begun image (standing (Known l.pc) x) None ((l.left % 2 == 1) ∷ [])
    c.walk_conditional.new.taker 1 next.new.self next.new.taker) same.0 (next.ensures.walks walked)))

pub returns-in_default-pc : goal.returns-in_default-pc
returns-in_default-pc g c = record {
  walks = more g (goal.at.returns-in_default-pc g c).After-walk_along c.if-not-walk_along.false;
  most = omega (arith, c.loop-n-test.true);
}

pub loop-n-preserved : goal.loop-n-preserved
loop-n-preserved g c =
    let taker = g.T.StretchTaker in let l = c.loop-n in let i = l.invariant in let next = c.walk_along.new.self in
    let same = c.in_default-walk_conditional.ensures.unchanged refl in
    let known = sym (ap (λ (x : State). x.pc) c.self-in-loop-n.view_is) ∙ c.in-Known-pc.is in
    record {
      walks = subst (λ (x : State). WalksInto (taker.adds c.args.image.now c.args.id) taker.space taker.begun c.args.image.now c.args.self.now None
          (low_bits c.args.most c.args.bits) c.args.taker.now (l.n + 1) x c.walk_along.new.taker)
          (sym (same_standing next (Known c.in-Known-pc.next) known))
          (more g (goal.at.loop-n-preserved g c).After-walk_along c.if-not-walk_along.false);
      left = next_left c.args.bits l.left l.n i.left;
      most = omega (arith, c.loop-n-test.true);
      room = omega (
        arith,
        i.room,
        c.loop-n-test.true,
        (c.walk_along.ensures.walks c.if-not-walk_along.false).space,
        ap (taker.space) same.1,
      );
    }
