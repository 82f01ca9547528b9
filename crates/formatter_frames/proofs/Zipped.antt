-- IDs and bytes side by side.
use Rattle.std.proofs.Common.{◌≡◌, ℕ, zero, suc, ◌+◌, ◌<◌, ◌≤◌, List, [], ◌∷◌, ◌++◌, length, take, drop, slice_get, slice_index_or, slice_set, Option, None, Some, refl, sym, ap, ◌∙◌, arith}
use Rattle.std.specs.List.{zip}
use Rattle.formatter_frames.specs.Symbols.{run_of}

pub beside_length : (n : ℕ) (ids bytes : List ℕ) → n ≤ length ids → n ≤ length bytes → length (take n (zip ids bytes)) ≡ n
beside_length zero ids bytes a b = refl
beside_length (suc n) [] bytes a b = absurd (omega (arith, a))
beside_length (suc n) (x ∷ ids) [] a b = absurd (omega (arith, b))
beside_length (suc n) (x ∷ ids) (y ∷ bytes) a b = ap suc (beside_length n ids bytes (omega (arith, a)) (omega (arith, b)))

-- the pair at a place
pub beside_at : (n i : ℕ) (ids bytes : List ℕ) → i < n → n ≤ length ids → n ≤ length bytes
    → slice_get (take n (zip ids bytes)) i ≡ Some (slice_index_or ids i 0, slice_index_or bytes i 0)
beside_at zero i ids bytes lt a b = absurd (omega (arith, lt))
beside_at (suc n) i [] bytes lt a b = absurd (omega (arith, a))
beside_at (suc n) i (x ∷ ids) [] lt a b = absurd (omega (arith, b))
beside_at (suc n) zero (x ∷ ids) (y ∷ bytes) lt a b = refl
beside_at (suc n) (suc i) (x ∷ ids) (y ∷ bytes) lt a b = beside_at n i ids bytes (omega (arith, lt)) (omega (arith, a)) (omega (arith, b))

-- a pair more
pub beside_more : (n x y : ℕ) (ids bytes : List ℕ) → n < length ids → n < length bytes
    → take (suc n) (zip (slice_set ids n x) (slice_set bytes n y)) ≡ take n (zip ids bytes) ++ (x, y) ∷ []
beside_more n x y [] bytes a b = absurd (omega (arith, a))
beside_more n x y (i ∷ ids) [] a b = absurd (omega (arith, b))
beside_more zero x y (i ∷ ids) (c ∷ bytes) a b = refl
beside_more (suc n) x y (i ∷ ids) (c ∷ bytes) a b =
    ap (λ (l : List (ℕ × ℕ)). (i, c) ∷ l) (beside_more n x y ids bytes (omega (arith, a)) (omega (arith, b)))

-- bytes whose IDs are one
pub one_run : (i k n id : ℕ) (ids bytes : List ℕ) → i + k ≤ n → n ≤ length ids → n ≤ length bytes
    → ((j : ℕ) → i ≤ j → j < i + k → slice_index_or ids j 0 ≡ id)
    → take k (drop i (take n (zip ids bytes))) ≡ run_of id (take k (drop i bytes))
one_run zero zero n id ids bytes few a b each = refl
one_run (suc i) k zero id ids bytes few a b each = absurd (omega (arith, few))
one_run (suc i) k (suc n) id [] bytes few a b each = absurd (omega (arith, a))
one_run (suc i) k (suc n) id (x ∷ ids) [] few a b each = absurd (omega (arith, b))
one_run (suc i) k (suc n) id (x ∷ ids) (y ∷ bytes) few a b each =
    one_run i k n id ids bytes (omega (arith, few)) (omega (arith, a)) (omega (arith, b))
    (λ j from to. each (suc j) (omega (arith, from)) (omega (arith, to)))
one_run zero (suc k) zero id ids bytes few a b each = absurd (omega (arith, few))
one_run zero (suc k) (suc n) id [] bytes few a b each = absurd (omega (arith, a))
one_run zero (suc k) (suc n) id (x ∷ ids) [] few a b each = absurd (omega (arith, b))
one_run zero (suc k) (suc n) id (x ∷ ids) (y ∷ bytes) few a b each =
    ap (λ (z : ℕ). (z, y) ∷ take k (take n (zip ids bytes))) (each 0 (omega arith) (omega arith))
    ∙ ap (λ (l : List (ℕ × ℕ)). (id, y) ∷ l)
    (one_run zero k n id ids bytes (omega (arith, few)) (omega (arith, a)) (omega (arith, b))
    (λ j from to. each (suc j) (omega arith) (omega (arith, to))))

-- nothing stands past the end
pub past_end : (xs : List (ℕ × ℕ)) (n : ℕ) (x : ℕ × ℕ) → length xs ≤ n → slice_get xs n ≡ Some x → ⊥
past_end [] n x past e = absurd cc
past_end (y ∷ xs) zero x past e = omega (arith, past)
past_end (y ∷ xs) (suc n) x past e = past_end xs n x (omega (arith, past)) e

abbrev first_in : Option (ℕ × ℕ) → ℕ
first_in None = 0
first_in (Some pair) = pair.0

pub same_first : (first : ℕ) (next : ℕ × ℕ) (second : ℕ) → Some (first, second) ≡ Some next → first ≡ next.0
same_first first next second e = ap first_in e

pub none_at : (xs : List (ℕ × ℕ)) (n : ℕ) → length xs ≤ n → None ≡ slice_get xs n
none_at [] n past = refl
none_at (y ∷ xs) zero past = absurd (omega (arith, past))
none_at (y ∷ xs) (suc n) past = none_at xs n (omega (arith, past))

-- how many a frame shows
pub shown_length : (n : ℕ) (ids bytes : List ℕ) (shown : List (ℕ × ℕ)) → take n (zip ids bytes) ≡ shown → n ≤ 15 → length ids ≡ 15 → length bytes ≡ 15
    → length shown ≡ n
shown_length n ids bytes shown is few a b = sym (ap length is) ∙ beside_length n ids bytes (omega (arith, few, a)) (omega (arith, few, b))
