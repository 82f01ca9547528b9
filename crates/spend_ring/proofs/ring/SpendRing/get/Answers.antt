use Rattle.std.proofs.Common.{◌<◌, sym, ◌∙◌, arith}
use Rattle.spend_ring.proofs.Laid.{count-within, full_at, item_at}
use Rattle.spend_ring.proofs.ring.SpendRing.get.Goals as goal

pub place_after-place-requires : goal.place_after-place-requires
place_after-place-requires g c =
    let r =
    c.self.inside in let h = c.self.invariant.1 in let within = count-within r.start r.count r.capacity r.cells.held h in let below : c.args.index <
    r.count = omega (arith, c.if-self-index.false) in
    (h.start_within (omega arith), omega arith, h.small)

pub get-requires : goal.get-requires
get-requires g c =
    let r = c.self.inside in let below : c.args.index < r.count = omega (arith, c.if-self-index.false) in
    record {
      first = sym c.self.invariant.0.0;
      full = full_at r.start r.count r.capacity r.cells.held c.self.invariant.1 c.args.index
          c.place_after-place.result below c.place_after-place.ensures;
    }

pub returns-clause-value : goal.returns-clause-value
returns-clause-value g c =
    let r =
    c.self.inside in let h = c.self.invariant.1 in let within = count-within r.start r.count r.capacity r.cells.held h in let below : c.args.index <
    r.count = omega (arith, c.if-self-index.false) in
    rw (← c.self.view_is) (sym c.get.ensures.value
    ∙ item_at r.start r.count r.capacity r.cells.held h c.args.index c.place_after-place.result (omega arith) c.place_after-place.ensures)
