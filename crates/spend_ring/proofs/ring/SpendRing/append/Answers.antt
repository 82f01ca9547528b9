use Rattle.std.proofs.Common.{◌+◌, ◌<◌, length, sym, ap, ◌∙◌, subst, arith}
use Rattle.std.proofs.lemmas.Option.{slice_get_past}
use Rattle.spend_ring.specs.Cells.{items_from, IsLaid}
use Rattle.spend_ring.specs.Ring.{ring}
use Rattle.spend_ring.proofs.Laid.{item_at, pushed}
use Rattle.spend_ring.proofs.ring.SpendRing.append.Goals as goal

pub put-requires : goal.put-requires
put-requires g c =
    let r =
    c.self.inside in let held = r.cells.held in let h = c.self.invariant.1 in let at = c.place_after-place.ensures in let items = items_from r.start
    held in
    let room : length items < r.capacity = subst (λ v. length v.items < v.capacity) (sym c.self.view_is) c.requires.room in let counted = h.counted in
    record {
      first = sym c.self.invariant.0.0;
      empty = (
        omega (arith, at.0, h.cells),
        item_at r.start r.count r.capacity held h r.count c.place_after-place.result (omega arith) at
            ∙ slice_get_past items r.count (omega arith),
      );
    }

pub invariant_of-self : goal.invariant_of-self
invariant_of-self g c =
    let r = c.self.inside in let held = r.cells.held in let h = c.self.invariant.1 in let was = c.self.invariant in let put = c.put.ensures in
    let room : length (items_from r.start held) < r.capacity =
    subst (λ v. length v.items < v.capacity) (sym c.self.view_is) c.requires.room in let counted = h.counted in
    let new = pushed r.start r.count r.capacity held h c.place_after-place.result c.args.item (omega arith) c.place_after-place.ensures in
    ((put.block ∙ was.0.0, was.0.1, was.0.2, was.0.3), subst (IsLaid r.start (r.count + 1) r.capacity) (sym put.held) new.0)

pub returns : goal.returns
returns g c =
    let r = c.self.inside in let held = r.cells.held in let h = c.self.invariant.1 in
    let room : length (items_from r.start held) < r.capacity =
    subst (λ v. length v.items < v.capacity) (sym c.self.view_is) c.requires.room in let counted = h.counted in
    let new = pushed r.start r.count r.capacity held h c.place_after-place.result c.args.item (omega arith) c.place_after-place.ensures in
    rw (← c.self.view_is) (ap (λ l. ring l r.capacity) (ap (items_from r.start) c.put.ensures.held ∙ new.1))
