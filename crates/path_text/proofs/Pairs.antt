-- The tables of the numbers below 100 and of the bytes, two digits each.
use Rattle.std.proofs.Common.{◌≡◌, inl, inr, ℕ, zero, suc, ◌+◌, ◌*◌, ◌/◌, ◌%◌, ◌<◌}
use Rattle.std.proofs.Common.{Bool, true, false, List, [], ◌∷◌, ◌++◌, slice_index_or, codes, refl, ap, ◌∙◌, arith}
use Rattle.std.specs.Prelude.{◌==◌, if◌then◌else◌}
use Rattle.std.proofs.lemmas.Bool.{eqb-true, false≢true}
use Rattle.std.proofs.Math.Nat.{eq-or-lt_of_le}
use Rattle.path_text.specs.Lines.{digit}

abbrev pairs : List ℕ
pairs =
    codes "0001020304050607080910111213141516171819202122232425262728293031323334353637383940414243444546474849"
    ++ codes "5051525354555657585960616263646566676869707172737475767778798081828384858687888990919293949596979899"

-- whether each number below a bound passes a test
abbrev all_below : (ℕ → Bool) → ℕ → Bool
all_below test zero = true
all_below test (suc k) = if test k then all_below test k else false

both : (a b : Bool) → (if a then b else false) ≡ true → (a ≡ true) × (b ≡ true)
both true b e = (refl, e)
both false b e = absurd (false≢true e)

passes : (test : ℕ → Bool) (k n : ℕ) → all_below test k ≡ true → n < k → test n ≡ true
passes test zero n all less = absurd (omega (arith, less))
passes test (suc k) n all less = elim (eq-or-lt_of_le {n = n} {m = k} (omega (arith, less))) [
  | inl is ↦ ap test is ∙ (both (test k) _ all).0
  | inr below ↦ passes test k n (both (test k) _ all).1 below
]

abbrev has_pair : ℕ → Bool
has_pair n = if slice_index_or pairs (2 * n) 0 == digit (n / 10) then slice_index_or pairs (2 * n + 1) 0 == digit (n % 10) else false

pub pair_at : (n : ℕ) → n < 100 → slice_index_or pairs (2 * n) 0 ∷ slice_index_or pairs (2 * n + 1) 0 ∷ [] ≡ digit (n / 10) ∷ digit (n % 10) ∷ []
pair_at n below =
    let is = both _ _ (passes has_pair 100 n refl below) in
    ap (λ d. d ∷ slice_index_or pairs (2 * n + 1) 0 ∷ []) (eqb-true _ _ is.0) ∙ ap (λ d. digit (n / 10) ∷ d ∷ []) (eqb-true _ _ is.1)

abbrev hex_pairs : List ℕ
hex_pairs =
    codes "000102030405060708090a0b0c0d0e0f101112131415161718191a1b1c1d1e1f202122232425262728292a2b2c2d2e2f303132333435363738393a3b3c3d3e3f"
    ++ codes "404142434445464748494a4b4c4d4e4f505152535455565758595a5b5c5d5e5f606162636465666768696a6b6c6d6e6f707172737475767778797a7b7c7d7e7f"
    ++ codes "808182838485868788898a8b8c8d8e8f909192939495969798999a9b9c9d9e9fa0a1a2a3a4a5a6a7a8a9aaabacadaeafb0b1b2b3b4b5b6b7b8b9babbbcbdbebf"
    ++ codes "c0c1c2c3c4c5c6c7c8c9cacbcccdcecfd0d1d2d3d4d5d6d7d8d9dadbdcdddedfe0e1e2e3e4e5e6e7e8e9eaebecedeeeff0f1f2f3f4f5f6f7f8f9fafbfcfdfeff"

abbrev has_hex_pair : ℕ → Bool
has_hex_pair n =
    if slice_index_or hex_pairs (2 * n) 0 == digit (n / 16) then slice_index_or hex_pairs (2 * n + 1) 0 == digit (n % 16) else false

pub hex_pair_at : (n : ℕ) → n < 256
    → slice_index_or hex_pairs (2 * n) 0 ∷ slice_index_or hex_pairs (2 * n + 1) 0 ∷ [] ≡ digit (n / 16) ∷ digit (n % 16) ∷ []
hex_pair_at n below =
    let is = both _ _ (passes has_hex_pair 256 n refl below) in
    ap (λ d. d ∷ slice_index_or hex_pairs (2 * n + 1) 0 ∷ []) (eqb-true _ _ is.0) ∙ ap (λ d. digit (n / 16) ∷ d ∷ []) (eqb-true _ _ is.1)
