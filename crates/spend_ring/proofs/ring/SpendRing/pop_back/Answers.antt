use Rattle.std.proofs.Common.{◌≡◌, ◌<◌, ◌-◌, ◌++◌, [], ◌∷◌, length, Some, sym, ap, ◌∙◌, subst, arith}
use Rattle.spend_ring.specs.Cells.{items_from, IsLaid}
use Rattle.spend_ring.proofs.Laid.{count-within, popped_back, without_last}
use Rattle.spend_ring.proofs.ring.SpendRing.pop_back.Goals as goal

pub place_after-place-requires : goal.place_after-place-requires
place_after-place-requires g c =
    let r =
    c.self.inside in let h = c.self.invariant.1 in let within = count-within r.start r.count r.capacity r.cells.held h in let some : 0 < r.count = omega
    (arith, c.if-self-eq0.false) in
    (h.start_within (omega arith), omega arith, h.small)

pub take-requires : goal.take-requires
take-requires g c =
    let r = c.self.inside in let some : 0 < r.count = omega (arith, c.if-self-eq0.false) in
    let popped = popped_back r.start r.count r.capacity r.cells.held c.self.invariant.1 c.place_after-place.result some c.place_after-place.ensures in
    record { first = sym c.self.invariant.0.0; full = (popped.item, popped.was) }

pub invariant_of-self : goal.invariant_of-self
invariant_of-self g c =
    let r = c.self.inside in let was = c.self.invariant in let took = c.take.ensures in let some : 0 < r.count = omega (arith, c.if-self-eq0.false) in
    let popped = popped_back r.start r.count r.capacity r.cells.held was.1 c.place_after-place.result some c.place_after-place.ensures in
    ((took.block ∙ was.0.0, was.0.1, was.0.2, was.0.3), subst (IsLaid r.start (r.count - 1) r.capacity) (sym took.held) popped.now.0)

pub returns-clause-order : goal.returns-clause-order
returns-clause-order g c =
    let r = c.self.inside in let took = c.take.ensures in let some : 0 < r.count = omega (arith, c.if-self-eq0.false) in
    let popped = popped_back r.start r.count r.capacity r.cells.held c.self.invariant.1 c.place_after-place.result some c.place_after-place.ensures in
    let same : Some popped.item ≡ Some c.take.result = sym popped.was ∙ took.value in let is : popped.item ≡ c.take.result = cc in
    let left = ap (items_from r.start) took.held ∙ popped.now.1 in
    rw (← c.self.view_is) (popped.is ∙ (λ k. sym left k ++ is k ∷ []))

pub returns-clause-rest : goal.returns-clause-rest
returns-clause-rest g c =
    let r = c.self.inside in let some : 0 < r.count = omega (arith, c.if-self-eq0.false) in
    let popped = popped_back r.start r.count r.capacity r.cells.held c.self.invariant.1 c.place_after-place.result some c.place_after-place.ensures in
    rw (← c.self.view_is) (ap (items_from r.start) c.take.ensures.held ∙ popped.now.1
    ∙ without_last popped.rest popped.item (items_from r.start r.cells.held) popped.is)

pub returns-clause-bounded : goal.returns-clause-bounded
returns-clause-bounded g c =
    let r = c.self.inside in let h = c.self.invariant.1 in let some : 0 < r.count = omega (arith, c.if-self-eq0.false) in
    let popped = popped_back r.start r.count r.capacity r.cells.held h c.place_after-place.result some c.place_after-place.ensures in
    omega (arith, ap (λ l. length (items_from r.start l)) c.take.ensures.held, popped.now.0.counted, count-within r.start r.count r.capacity r.cells.held h)
