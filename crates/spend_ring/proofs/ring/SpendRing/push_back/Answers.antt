use Rattle.std.proofs.Common.{◌≡◌, [], ◌∷◌, length, refl, ap, ◌∙◌, arith, length-append}
use Rattle.spend_ring.proofs.Laid.{count-within, newest-full}
use Rattle.spend_ring.proofs.ring.SpendRing.push_back.Goals as goal

pub append-requires-in-Some : goal.append-requires-in-Some
append-requires-in-Some g c =
    let r = c.self.inside in let h = c.self.invariant.1 in let counted = h.counted in let left = c.in-Some.ensures in
    record {
      room = omega (
        arith,
        count-within r.start r.count r.capacity r.cells.held h,
        ap (λ v. length v.items) c.self.view_is,
        ap (λ v. v.capacity)
            c.self.view_is,
        ap length left.order,
        left.capacity,
      );
    }

pub returns-in-Some-clause-full : goal.returns-in-Some-clause-full
returns-in-Some-clause-full g c =
    let r = c.self.inside in let h = c.self.invariant.1 in let counted = h.counted in (
      λ _. omega (
        arith,
        count-within r.start r.count r.capacity r.cells.held h,
        c.if-self.false,
        ap (λ v. length v.items) c.self.view_is,
        ap (λ v. v.capacity)
            c.self.view_is,
      ),
      λ _. refl,
    )

pub returns-in-Some-clause-newest : goal.returns-in-Some-clause-newest
returns-in-Some-clause-newest g c =
    let r = c.self.inside in let h = c.self.invariant.1 in let counted = h.counted in let was = c.args.self.now in let left = c.pop_front.new.self.items in
    let full : length was.items ≡ was.capacity =
    omega (
      arith,
      count-within r.start r.count r.capacity r.cells.held h,
      c.if-self.false,
      ap (λ v. length v.items) c.self.view_is,
      ap (λ v. v.capacity)
          c.self.view_is,
    ) in
    ap (λ v. v.items) c.append-in-Some.ensures ∙ newest-full was.items left c.in-Some.oldest c.args.item was.capacity c.in-Some.ensures.order full

pub returns-in-Some-clause-bounded : goal.returns-in-Some-clause-bounded
returns-in-Some-clause-bounded g c =
    let r = c.self.inside in let h = c.self.invariant.1 in let counted = h.counted in let left = c.in-Some.ensures in let put = c.append-in-Some.ensures in
    omega (
      arith,
      count-within r.start r.count r.capacity r.cells.held h,
      ap (λ v. length v.items) c.self.view_is,
      ap (λ v. v.capacity) c.self.view_is,
      ap length left.order,
      left.capacity,
      ap (λ v. length v.items) put,
      ap (λ v. v.capacity) put,
      length-append c.pop_front.new.self.items (c.args.item ∷ []),
    )
