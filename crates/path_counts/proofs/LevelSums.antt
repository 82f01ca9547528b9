-- The numbers of which a list has the differences.
use Rattle.std.proofs.Common.{◌≡◌, ℕ, zero, suc, ◌+◌, ◌%◌, ◌^◌, ◌<◌, ◌≤◌, List, [], ◌∷◌, length, take, refl, sym, ap, ◌∙◌, get_or, arith, subst, replicate}
use Rattle.std.specs.Prelude.{sum}
use Rattle.std.proofs.lemmas.List.{ext_get_or}
use Rattle.std.proofs.lemmas.List.Sums.{sum_by-cons}
use Rattle.path_counts.specs.Levels.{AreLevels, AreNumbers, RaisesRun, is_within, levels_of, one_if, sums_from}
use Rattle.path_counts.proofs.Fronts.{Totalled}

pub length_sums : (total : ℕ) (steps : List ℕ) → length (sums_from total steps) ≡ length steps
length_sums total [] = refl
length_sums total (step ∷ steps) = let rest = length_sums ((total + step) % 2 ^ 64) steps in omega (arith, rest)

sums_at : (total : ℕ) (steps : List ℕ) (j : ℕ) → j < length steps → get_or (sums_from total steps) j 0 ≡ (total + sum (take (j + 1) steps)) % 2 ^ 64
sums_at total [] j lt = absurd (omega (arith, lt))
sums_at total (step ∷ steps) zero lt = let one = sum_by-cons (λ x. x) step [] in omega (arith, one)
sums_at total (step ∷ steps) (suc j) lt =
    let rest = sums_at ((total + step) % 2 ^ 64) steps j (omega (arith, lt)) in
    let next : suc j + 1 ≡ suc (j + 1) = omega arith in
    let same : sum (take (suc j + 1) (step ∷ steps)) ≡ sum (step ∷ take (j + 1) steps) = ap (λ n. sum (take n (step ∷ steps))) next in
    let first = sum_by-cons (λ x. x) step (take (j + 1) steps) in
    omega (arith, rest, same, first)

pub level_at : (steps : List ℕ) (j : ℕ) → j < length steps → get_or (levels_of steps) j 0 ≡ sum (take (j + 1) steps) % 2 ^ 64
level_at steps j lt = let at = sums_at 0 steps j lt in omega (arith, at)

pub levels_are : (steps : List ℕ) (f : ℕ → ℕ) → AreLevels steps f → AreNumbers (levels_of steps) f
levels_are steps f are j lt =
    let short : j < length steps = omega (arith, lt, length_sums 0 steps) in
    level_at steps j short ∙ are j short

pub are_levels : (steps : List ℕ) (f : ℕ → ℕ) → AreNumbers (levels_of steps) f → AreLevels steps f
are_levels steps f are j lt = sym (level_at steps j lt) ∙ are j (omega (arith, lt, length_sums 0 steps))

-- differences that raise the numbers of a run
pub run_raised : (old new : List ℕ) (from count : ℕ)
    → ((f : ℕ → ℕ) → AreLevels old f → AreLevels new (λ j. f j + one_if (is_within (length old) from count j)))
    → RaisesRun (levels_of old) (levels_of new) from count
run_raised old new from count raised = λ f are.
    subst (λ n. AreNumbers (levels_of new) (λ j. f j + one_if (is_within n from count j))) (sym (length_sums 0 old))
    (levels_are new (λ j. f j + one_if (is_within (length old) from count j)) (raised f (are_levels old f are)))

-- the pass over all differences leaves the numbers
pub all_levels : (steps now : List ℕ) (place total : ℕ) → length now ≤ place → Totalled steps now place total → now ≡ levels_of steps
all_levels steps now place total past t =
    ext_get_or 0 now (levels_of steps) (t.same ∙ sym (length_sums 0 steps))
    (λ j lt. t.done j (omega (arith, lt, past)) ∙ sym (level_at steps j (omega (arith, lt, t.same))))

-- no differences are the numbers 0
pub levels_none : (n : ℕ) → levels_of (replicate n 0) ≡ replicate n 0
levels_none zero = refl
levels_none (suc n) = ap (λ (l : List ℕ). 0 ∷ l) (levels_none n)

pub length_none : (n : ℕ) → length {A = ℕ} (replicate n 0) ≡ n
length_none zero = refl
length_none (suc n) = let rest = length_none n in omega (arith, rest)
