-- Lists of atoms, as an array holds them at its front.
use Rattle.std.proofs.Common.{◌≡◌, ℕ, zero, suc, ◌+◌, ◌-◌, ◌<◌, ◌≤◌, Bool, false, not, List, [], ◌∷◌, length, take, drop, get_or}
use Rattle.std.proofs.Common.{refl, ap, ◌∙◌, arith}
use Rattle.std.proofs.Math.ListN.{set}
use Rattle.std.proofs.lemmas.List.{take_at, length-take-le, length-drop}
use Rattle.std.proofs.lemmas.Slice.{between_is}
use Rattle.std.specs.List.{copy_within}
use Rattle.trace_unit.specs.Whole.{turn_last}

-- what stood from n on stands at the front
pub moved : (xs : List Bool) (n count : ℕ) → n ≤ count → count ≤ length xs → take (count - n) (copy_within xs n count 0) ≡ drop n (take count xs)
moved xs n count le within =
    let front : List Bool = take (count - n) (drop n xs) in
    let size : length front ≡ count - n = length-take-le (count - n) (drop n xs) (omega (arith, length-drop n xs, le, within)) in
    take_at front (drop (0 + (count - n)) xs) (count - n) size ∙ between_is xs n count

one_turned : (n : ℕ) (xs : List Bool) → n < length xs → take (suc n) (set xs n (not (get_or xs n false))) ≡ turn_last (take (suc n) xs)
one_turned n [] less = absurd (omega (arith, less))
one_turned zero (x ∷ xs) less = refl
one_turned (suc n) (x ∷ []) less = absurd (omega (arith, less))
one_turned (suc n) (x ∷ y ∷ xs) less = ap (λ (l : List Bool). x ∷ l) (one_turned n (y ∷ xs) (omega (arith, less)))

-- the newest of so many is the other one
pub turned : (n : ℕ) (xs : List Bool) → 0 < n → n - 1 < length xs → take n (set xs (n - 1) (not (get_or xs (n - 1) false))) ≡ turn_last (take n xs)
turned zero xs some less = absurd (omega (arith, some))
turned (suc n) xs some less =
    let e : suc n - 1 ≡ n = omega arith in
    rw e (one_turned n xs (omega (arith, less)))
