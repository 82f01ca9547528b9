use Rattle.std.proofs.Common.{◌<◌, refl, sym, ◌∙◌, inl, arith}
use Rattle.spend_ring.specs.Ring.{ring}
use Rattle.spend_ring.proofs.Laid.{count-within, full_at, item_at, changed}
use Rattle.spend_ring.proofs.ring.SpendRing.get_mut.Goals as goal

pub place_after-place-requires : goal.place_after-place-requires
place_after-place-requires g c =
    let r =
    c.self.inside in let h = c.self.invariant.1 in let within = count-within r.start r.count r.capacity r.cells.held h in let below : c.args.index <
    r.count = omega (arith, c.if-self-index.false) in
    (h.start_within (omega arith), omega arith, h.small)

pub get_mut-requires : goal.get_mut-requires
get_mut-requires g c =
    let r = c.self.inside in let below : c.args.index < r.count = omega (arith, c.if-self-index.false) in
    record {
      first = sym c.self.invariant.0.0;
      full = full_at r.start r.count r.capacity r.cells.held c.self.invariant.1 c.args.index
          c.place_after-place.result below c.place_after-place.ensures;
    }

pub invariant_of-self-lent : goal.invariant_of-self-lent
invariant_of-self-lent g c =
    let r = c.self.inside in let was = c.self.invariant in let below : c.args.index < r.count = omega (arith, c.if-self-index.false) in
    λ w. (was.0, (changed r.start r.count r.capacity r.cells.held was.1 c.args.index c.place_after-place.result w below c.place_after-place.ensures).0)

pub returns : goal.returns
returns g c =
    let r = c.self.inside in let h = c.self.invariant.1 in let at = c.place_after-place.ensures in let counted = h.counted in
    let within = count-within r.start r.count r.capacity r.cells.held h in let below : c.args.index < r.count = omega (arith, c.if-self-index.false) in
    rw (← c.self.view_is) (
      (λ i. inl (
        c.get_mut.result.ghost_name,
        λ w. ring
            ((changed r.start r.count r.capacity r.cells.held h c.args.index c.place_after-place.result w below at).1 i) r.capacity,
      )),
      record {
        writes_back = tt;
        value = sym c.get_mut.ensures.value ∙ item_at r.start r.count r.capacity r.cells.held h c.args.index c.place_after-place.result (omega arith) at;
        in_range = (λ _. omega (arith, counted), λ _. refl);
      },
    )
