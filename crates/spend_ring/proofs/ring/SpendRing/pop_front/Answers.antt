use Rattle.std.proofs.Common.{◌≡◌, ◌<◌, ◌-◌, ◌∷◌, length, drop, Some, sym, ap, ◌∙◌, subst, arith}
use Rattle.spend_ring.specs.Cells.{items_from, IsLaid}
use Rattle.spend_ring.proofs.Laid.{count-within, popped_front}
use Rattle.spend_ring.proofs.ring.SpendRing.pop_front.Goals as goal

pub place_after-self-inside-requires : goal.place_after-self-inside-requires
place_after-self-inside-requires g c =
    let r =
    c.self.inside in let h = c.self.invariant.1 in let within = count-within r.start r.count r.capacity r.cells.held h in let some : 0 < r.count = omega
    (arith, c.if-self-eq0.false) in
    (h.start_within (omega arith), omega arith, h.small)

pub take-requires : goal.take-requires
take-requires g c =
    let r = c.self.inside in let some : 0 < r.count = omega (arith, c.if-self-eq0.false) in
    let popped =
    popped_front r.start r.count r.capacity r.cells.held c.self.invariant.1 c.place_after-self-inside.result some c.place_after-self-inside.ensures in
    record { first = sym c.self.invariant.0.0; full = (popped.item, popped.was) }

pub invariant_of-self : goal.invariant_of-self
invariant_of-self g c =
    let r =
    c.self.inside in let was = c.self.invariant in let took = c.take.ensures in let next = c.place_after-self-inside in let some : 0 < r.count = omega
    (arith, c.if-self-eq0.false) in
    let popped = popped_front r.start r.count r.capacity r.cells.held was.1 next.result some next.ensures in
    ((took.block ∙ was.0.0, was.0.1, was.0.2, was.0.3), subst (IsLaid next.result (r.count - 1) r.capacity) (sym took.held) popped.now.0)

pub returns-clause-order : goal.returns-clause-order
returns-clause-order g c =
    let r =
    c.self.inside in let took = c.take.ensures in let next = c.place_after-self-inside in let some : 0 < r.count = omega (arith, c.if-self-eq0.false) in
    let popped = popped_front r.start r.count r.capacity r.cells.held c.self.invariant.1 next.result some next.ensures in
    let same : Some popped.item ≡ Some c.take.result = sym popped.was ∙ took.value in let is : popped.item ≡ c.take.result = cc in
    let left = ap (items_from next.result) took.held ∙ popped.now.1 in
    rw (← c.self.view_is) (popped.is ∙ (λ k. is k ∷ sym left k))

pub returns-clause-rest : goal.returns-clause-rest
returns-clause-rest g c =
    let r = c.self.inside in let next = c.place_after-self-inside in let some : 0 < r.count = omega (arith, c.if-self-eq0.false) in
    let popped = popped_front r.start r.count r.capacity r.cells.held c.self.invariant.1 next.result some next.ensures in
    rw (← c.self.view_is) (ap (items_from next.result) c.take.ensures.held ∙ popped.now.1 ∙ ap (drop 1) (sym popped.is))

pub returns-clause-bounded : goal.returns-clause-bounded
returns-clause-bounded g c =
    let r =
    c.self.inside in let h = c.self.invariant.1 in let next = c.place_after-self-inside in let some : 0 < r.count = omega (arith, c.if-self-eq0.false) in
    let popped = popped_front r.start r.count r.capacity r.cells.held h next.result some next.ensures in
    omega (
      arith,
      ap (λ l. length (items_from next.result l)) c.take.ensures.held,
      popped.now.0.counted,
      count-within r.start r.count r.capacity r.cells.held
          h,
    )
