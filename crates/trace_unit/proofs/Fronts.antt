-- Fronts of return stacks.
use Rattle.std.proofs.Common.{ℕ, zero, suc, ◌≤◌, List, [], ◌∷◌, ◌++◌, take, Option, Some, None, refl, ap, ◌∙◌, arith}
use Rattle.path_walker.specs.Steps.{linked}
use Rattle.trace_unit.proofs.Lists.{heads}
use Rattle.trace_unit.proofs.Rows.{IsFront}
use Rattle.trace_unit.specs.Places.{pushed_by}

pub front_take : (m n : ℕ) (xs ys : List ℕ) → m ≤ n → IsFront xs ys → IsFront (take m xs) (take n ys)
front_take zero n xs ys le f = (take n ys, refl)
front_take (suc m) zero xs ys le f = absurd (omega (arith, le))
front_take (suc m) (suc n) [] ys le f = (take (suc n) ys, refl)
front_take (suc m) (suc n) (x ∷ xs) [] le f = absurd (let e = f.1 in cc)
front_take (suc m) (suc n) (x ∷ xs) (y ∷ ys) le f =
    let h = heads x y (xs ++ f.0) ys f.1 in
    let g = front_take m n xs ys (omega (arith, le)) (f.0, h.1) in
    (g.0, ap (λ l. x ∷ l) g.1 ∙ ap (λ z. z ∷ take n ys) h.0)

pub front_linked : (most : ℕ) (link : Option ℕ) (xs ys : List ℕ) → most ≤ 15 → IsFront xs ys → IsFront (pushed_by most link xs) (linked link ys)
front_linked most None xs ys le f = f
front_linked most (Some a) xs ys le f = front_take most 15 (a ∷ xs) (a ∷ ys) le (f.0, ap (λ l. a ∷ l) f.1)
