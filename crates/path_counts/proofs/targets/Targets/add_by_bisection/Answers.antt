use Rattle.std.proofs.Common.{◌≡◌, ◌∙◌, ◌<◌, ◌≤◌, ℕ, List, ap, arith, length, map, sym, subst}
use Rattle.std.specs.Prelude.{IsFalse}
use Rattle.std.specs.List.{insert}
use Rattle.std.proofs.lemmas.List.Edits.{length-insert}
use Rattle.path_counts.specs.declared.targets.Target.{Target}
use Rattle.path_counts.specs.Targets.{Rises, most_pairs, pair_of}
use Rattle.path_counts.proofs.Added.{Comes, entry, pair_new, pair_over, new_among, place_among, rises_new, rising_fronts, table}
use Rattle.path_counts.proofs.Kept.{IsNewAt, IsPlace}
use Rattle.path_counts.proofs.targets.Targets.add_by_bisection.Goals as goal

pub place_of-place-requires : goal.place_of-place-requires
place_of-place-requires c =
    let p : ℕ × ℕ = (c.args.from, c.args.to) in
    let r : Rises (map pair_of c.deref.result.now) = subst (λ (l : List Target). Rises (map pair_of l)) (sym c.deref.ensures.value) c.self.invariant.0 in
    rising_fronts c.deref.result.now p r

pub invariant_of-self-in-Ok : goal.invariant_of-self-in-Ok
invariant_of-self-in-Ok c =
    let p : ℕ × ℕ = (c.args.from, c.args.to) in
    let items = c.self.inside.entries.items in
    let i = c.place_of-place.result in
    let place : IsPlace p (map pair_of items) i =
    subst (λ (l : List Target). IsPlace p (map pair_of l) i) c.deref.ensures.value
    (place_among c.deref.result.now i p c.place_of-place.ensures.value c.place_of-place.ensures.within) in
    let none : IsFalse c.is_at.result = c.if-is_at.false in
    let new : IsNewAt p (map pair_of items) i =
    subst (λ (l : List Target). IsNewAt p (map pair_of l) i) c.deref-2.ensures.value (new_among c.deref-2.result.now i p (c.is_at.ensures.other none)) in
    let long = ap (λ (l : List Target). length l) c.deref.ensures.value in
    let within : i ≤ length items = omega (arith, c.place_of-place.ensures.within, long) in
    let inserted : c.insert.new.self.items ≡ insert items i (entry p 1) = c.in-Ok.ensures.items in
    let count = ap (λ (l : List Target). length l) inserted in (
      subst (λ (l : List Target). Rises (map pair_of l)) (sym inserted) (rises_new items i (entry p 1) within place new c.self.invariant.0),
      omega (arith, count, length-insert items i (entry p 1) within, c.len.ensures, c.deref.ensures.len, long, c.if-len-lt-MOST_PAIRS.true),
      omega (arith, c.self.invariant.2, c.insert.ensures.capacity),
    )

pub returns-then-is_at : goal.returns-then-is_at
returns-then-is_at c = λ pairs is. c.add_at.ensures pairs (c.self.view_is ∙ is)

pub returns-in-Ok : goal.returns-in-Ok
returns-in-Ok c = λ pairs is.
    let p : ℕ × ℕ = (c.args.from, c.args.to) in
    let items = c.self.inside.entries.items in
    let more = c.self.inside.more in
    let i = c.place_of-place.result in
    let place : IsPlace p (map pair_of items) i =
    subst (λ (l : List Target). IsPlace p (map pair_of l) i) c.deref.ensures.value
    (place_among c.deref.result.now i p c.place_of-place.ensures.value c.place_of-place.ensures.within) in
    let none : IsFalse c.is_at.result = c.if-is_at.false in
    let new : IsNewAt p (map pair_of items) i =
    subst (λ (l : List Target). IsNewAt p (map pair_of l) i) c.deref-2.ensures.value (new_among c.deref-2.result.now i p (c.is_at.ensures.other none)) in
    let long = ap (λ (l : List Target). length l) c.deref.ensures.value in
    let within : i ≤ length items = omega (arith, c.place_of-place.ensures.within, long) in
    let room : length items < most_pairs = omega (arith, c.len.ensures, c.deref.ensures.len, long, c.if-len-lt-MOST_PAIRS.true) in
    let inserted : c.insert.new.self.items ≡ insert items i (entry p 1) = c.in-Ok.ensures.items in
    let comes : Comes most_pairs pairs (table items more) p i = record { table = c.self.view_is ∙ is; within = within; place = place } in
    ap (λ (l : List Target). table l more) inserted ∙ pair_new most_pairs pairs (table items more) p i comes new room

pub returns-else-len-lt-MOST_PAIRS : goal.returns-else-len-lt-MOST_PAIRS
returns-else-len-lt-MOST_PAIRS c = λ pairs is.
    let p : ℕ × ℕ = (c.args.from, c.args.to) in
    let items = c.self.inside.entries.items in
    let more = c.self.inside.more in
    let i = c.place_of-place.result in
    let place : IsPlace p (map pair_of items) i =
    subst (λ (l : List Target). IsPlace p (map pair_of l) i) c.deref.ensures.value
    (place_among c.deref.result.now i p c.place_of-place.ensures.value c.place_of-place.ensures.within) in
    let none : IsFalse c.is_at.result = c.if-is_at.false in
    let new : IsNewAt p (map pair_of items) i =
    subst (λ (l : List Target). IsNewAt p (map pair_of l) i) c.deref-2.ensures.value (new_among c.deref-2.result.now i p (c.is_at.ensures.other none)) in
    let long = ap (λ (l : List Target). length l) c.deref.ensures.value in
    let within : i ≤ length items = omega (arith, c.place_of-place.ensures.within, long) in
    let full : most_pairs ≤ length items = omega (arith, c.len.ensures, c.deref.ensures.len, long, c.if-len-lt-MOST_PAIRS.false) in
    let comes : Comes most_pairs pairs (table items more) p i = record { table = c.self.view_is ∙ is; within = within; place = place } in
    pair_over most_pairs pairs (table items more) p i comes new full
