-- The order of pairs: of two different ones, one stands before the other.
use Rattle.std.proofs.Common.{◌≡◌, ℕ, ◌<◌, ◌⊎◌, true, false, refl, arith, inl, inr}
use Rattle.std.proofs.lemmas.Bool.Decides.{nat_tests}
use Rattle.std.proofs.lemmas.Bool.{eq-eqb}
use Rattle.path_counts.specs.Targets.{pair_lt, same_pair}

-- one stands before the other
abbrev pub Below : ℕ × ℕ → ℕ × ℕ → Type 0
Below p q = (p.0 < q.0) ⊎ ((p.0 ≡ q.0) × (p.1 < q.1))

below : (a b c d : ℕ) → pair_lt (a, b) (c, d) ≡ true → Below (a, b) (c, d)
below a b c d lt = grind (arith, nat_tests, lt)

before : (a b c d : ℕ) → Below (a, b) (c, d) → pair_lt (a, b) (c, d) ≡ true
before a b c d (inl lt) = grind (arith, nat_tests, lt)
before a b c d (inr lt) = let first = lt.0 in let second = lt.1 in grind (arith, nat_tests, first, second)

equal : (a b c d : ℕ) → same_pair (a, b) (c, d) ≡ true → (a ≡ c) × (b ≡ d)
equal a b c d same = grind (arith, nat_tests, same)

pub pair_same : (p : ℕ × ℕ) → same_pair p p ≡ true
pair_same p = rw (eq-eqb p.0 p.0 refl, eq-eqb p.1 p.1 refl) refl

pub pair_equal : (p q : ℕ × ℕ) → same_pair p q ≡ true → p ≡ q
pair_equal (a, b) (c, d) same = let e = equal a b c d same in let first = e.0 in let second = e.1 in cc

-- what stands before a pair is not that pair, nor behind it
not_same : (a b c d : ℕ) → pair_lt (a, b) (c, d) ≡ true → same_pair (c, d) (a, b) ≡ false
not_same a b c d lt = grind (arith, nat_tests, lt)

not_behind : (a b c d : ℕ) → pair_lt (a, b) (c, d) ≡ true → pair_lt (c, d) (a, b) ≡ false
not_behind a b c d lt = grind (arith, nat_tests, lt)

pub lt_not_same : (q p : ℕ × ℕ) → pair_lt q p ≡ true → same_pair p q ≡ false
lt_not_same (a, b) (c, d) lt = not_same a b c d lt

pub lt_not_behind : (q p : ℕ × ℕ) → pair_lt q p ≡ true → pair_lt p q ≡ false
lt_not_behind (a, b) (c, d) lt = not_behind a b c d lt

-- one of two different ones stands before the other
other_way : (a b c d : ℕ) → same_pair (a, b) (c, d) ≡ false → pair_lt (c, d) (a, b) ≡ false → pair_lt (a, b) (c, d) ≡ true
other_way a b c d other not = grind (arith, nat_tests, other, not)

pub lt_otherwise : (p q : ℕ × ℕ) → same_pair p q ≡ false → pair_lt q p ≡ false → pair_lt p q ≡ true
lt_otherwise (a, b) (c, d) other not = other_way a b c d other not

passes : (p q r : ℕ × ℕ) → Below p q → Below q r → Below p r
passes p q r (inl x) (inl y) = inl (omega (arith, x, y))
passes p q r (inl x) (inr y) = inl (omega (arith, x, y.0))
passes p q r (inr x) (inl y) = inl (omega (arith, x.0, y))
passes p q r (inr x) (inr y) = inr (omega (arith, x.0, y.0), omega (arith, x.1, y.1))

pub lt_lt : (p q r : ℕ × ℕ) → pair_lt p q ≡ true → pair_lt q r ≡ true → pair_lt p r ≡ true
lt_lt (a, b) (c, d) (e, f) x y = before a b e f (passes (a, b) (c, d) (e, f) (below a b c d x) (below c d e f y))

other_same : (a b c d : ℕ) → same_pair (a, b) (c, d) ≡ false → same_pair (c, d) (a, b) ≡ false
other_same a b c d other = grind (arith, nat_tests, other)

pub not_same_either : (p q : ℕ × ℕ) → same_pair p q ≡ false → same_pair q p ≡ false
not_same_either (a, b) (c, d) other = other_same a b c d other

-- none stands before itself
itself : (a b : ℕ) → pair_lt (a, b) (a, b) ≡ false
itself a b = grind (arith, nat_tests)

pub not_itself : (p : ℕ × ℕ) → pair_lt p p ≡ false
not_itself (a, b) = itself a b
