use Rattle.std.proofs.Common.{arith, sym, ap, ◌∙◌, subst}
use Rattle.std.proofs.lemmas.Grind.{common_steps}
use Rattle.spend_ring.specs.Cells.{items_from, IsLaid}
use Rattle.spend_ring.proofs.Laid.{laid-empty}
use Rattle.spend_ring.proofs.ring.SpendRing.with_capacity.Goals as goal

pub invariant_of-result : goal.invariant_of-result
invariant_of-result g c =
    let made = c.in_ok-first.ensures in let n = c.args.capacity in let small = (c.may_hold.ensures (grind (arith, common_steps))).1 in
    (made.block, subst (IsLaid 0 0 n) (sym made.empty) (laid-empty g.row.T.Denot n small).0)

pub returns-clause-empty : goal.returns-clause-empty
returns-clause-empty g c =
    let n = c.args.capacity in let small = (c.may_hold.ensures (grind (arith, common_steps))).1 in
    ap (items_from 0) c.in_ok-first.ensures.empty ∙ (laid-empty g.row.T.Denot n small).1
