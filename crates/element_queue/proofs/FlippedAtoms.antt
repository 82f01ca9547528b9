-- The newest of some atoms is flipped: as a bit, in a list, and by the rules.
use Rattle.std.proofs.Common.{◌≡◌, ℕ, zero, suc, ◌+◌, ◌-◌, ◌*◌, ◌/◌, ◌%◌, ◌^◌, ◌<◌, ◌≤◌, ◌==◌, Bool, not, List, [], ◌∷◌, ◌++◌, length, map, take, drop, Some, refl, sym, ap, subst, ◌∙◌, arith}
use Rattle.std.proofs.lemmas.List.{drop-append-le, take-append-le}
use Rattle.std.proofs.lemmas.Nat.{mod_below, one_shl, pow_pos, shr_below, shr_split, xor_lt}
use Rattle.std.proofs.lemmas.Nat.Bits.{and_pow}
use Rattle.std.proofs.Math.Pow.{pow-lt}
use Rattle.std.specs.Int.Bits.{bit_and, bit_xor, xor_add_and}
use Rattle.std.specs.Option.{option_map}
use Rattle.etm_types.specs.Atoms.{low_bits}
use Rattle.etm_types.specs.declared.element.Thing.{Thing}
use Rattle.element_queue.specs.Outlooks.{flip_newest_atom}
use Rattle.element_queue.specs.Pending.{flip_newest}
use Rattle.element_queue.specs.Queued.{plain_atom}
use Rattle.element_queue.proofs.LowBits.{low_bits-last, low_bits-length}

-- ---- in a list

flipped_at : (atoms : List Bool) (taken : Bool) → flip_newest_atom (atoms ++ taken ∷ []) ≡ atoms ++ not taken ∷ []
flipped_at [] taken = refl
flipped_at (x ∷ []) taken = refl
flipped_at (x ∷ y ∷ atoms) taken = ap (λ (l : List Bool). x ∷ l) (flipped_at (y ∷ atoms) taken)

-- that is what the rules make of such atoms
pub flipped_by_rule : (atoms : List Bool) → 0 < length atoms → flip_newest (map plain_atom atoms) ≡ Some (map plain_atom (flip_newest_atom atoms))
flipped_by_rule [] some = absurd (omega (arith, some))
flipped_by_rule (taken ∷ []) some = refl
flipped_by_rule (taken ∷ next ∷ atoms) some =
    ap (option_map (λ (l : List Thing). plain_atom taken ∷ l)) (flipped_by_rule (next ∷ atoms) (omega arith))

pub as_many_flipped : (atoms : List Bool) → length (flip_newest_atom atoms) ≡ length atoms
as_many_flipped [] = refl
as_many_flipped (taken ∷ []) = refl
as_many_flipped (taken ∷ next ∷ atoms) = ap suc (as_many_flipped (next ∷ atoms))

-- ---- as the highest bit

other_bit : (high : ℕ) → high < 2 → ((1 - high) % 2 == 1) ≡ not (high % 2 == 1)
other_bit zero below = refl
other_bit (suc zero) below = refl
other_bit (suc (suc n)) below = absurd (omega (arith, below))

high_below : (n bits : ℕ) → bits < 2 ^ (n + 1) → bits / 2 ^ n < 2
high_below n bits fits =
    let turned : n + 1 ≡ 1 + n = omega arith in
    let top : bits / 2 ^ n < 2 ^ 1 = shr_below bits 1 n (subst (λ (k : ℕ). bits < 2 ^ k) turned fits) in omega (arith, top)

by_high : (n bits xor both high : ℕ) → high < 2 → high * 2 ^ n + bits % 2 ^ n ≡ bits → xor + both * 2 ≡ bits + 2 ^ n → both ≡ high % 2 * 2 ^ n
    → xor ≡ (1 - high) * 2 ^ n + bits % 2 ^ n
by_high n bits xor both zero below split sum is = omega (arith, split, sum, is)
by_high n bits xor both (suc zero) below split sum is = omega (arith, split, sum, is)
by_high n bits xor both (suc (suc k)) below split sum is = absurd (omega (arith, below))

-- the highest bit is turned
turned : (n bits : ℕ) → bits < 2 ^ (n + 1) → bit_xor bits (2 ^ n) ≡ (1 - bits / 2 ^ n) * 2 ^ n + bits % 2 ^ n
turned n bits fits =
    by_high n bits (bit_xor bits (2 ^ n)) (bit_and bits (2 ^ n)) (bits / 2 ^ n) (high_below n bits fits) (shr_split bits n) (xor_add_and bits (2 ^ n))
    (and_pow bits n)

-- the others, and the newest
parts : (n bits : ℕ) → low_bits (n + 1) bits ≡ low_bits n (bits % 2 ^ n) ++ (bits / 2 ^ n % 2 == 1) ∷ []
parts n bits =
    ap (low_bits (n + 1)) (sym (shr_split bits n)) ∙ low_bits-last n (bits % 2 ^ n) (bits / 2 ^ n) (mod_below bits (2 ^ n) (pow_pos n))

turned_parts : (n bits : ℕ) → bits < 2 ^ (n + 1)
    → low_bits (n + 1) (bit_xor bits (2 ^ n)) ≡ low_bits n (bits % 2 ^ n) ++ not (bits / 2 ^ n % 2 == 1) ∷ []
turned_parts n bits fits =
    ap (low_bits (n + 1)) (turned n bits fits) ∙ low_bits-last n (bits % 2 ^ n) (1 - bits / 2 ^ n) (mod_below bits (2 ^ n) (pow_pos n))
    ∙ ap (λ (b : Bool). low_bits n (bits % 2 ^ n) ++ b ∷ []) (other_bit (bits / 2 ^ n) (high_below n bits fits))

pub flipped_fits : (n bits : ℕ) → 0 < n → n ≤ 64 → bits < 2 ^ n → bit_xor bits (1 * 2 ^ (n - 1) % 2 ^ 64) < 2 ^ n
flipped_fits n bits some most fits =
    subst (λ (k : ℕ). bit_xor bits k < 2 ^ n) (sym (one_shl (n - 1) 64 (omega (arith, some, most))))
    (xor_lt n bits (2 ^ (n - 1)) fits (pow-lt (omega (arith, some))))

-- ---- of atoms of which the first k are committed

module _ (k n bits : ℕ) (fewer : k < n) (most : n ≤ 64) (fits : bits < 2 ^ n) where
  m : ℕ
  m = n - 1

  count : n ≡ m + 1
  unfolding m
  count = omega (arith, fewer)

  xs : List Bool
  xs = low_bits m (bits % 2 ^ m)

  newest : Bool
  newest = bits / 2 ^ m % 2 == 1

  all : low_bits n bits ≡ xs ++ newest ∷ []
  unfolding xs newest
  all = ap (λ (j : ℕ). low_bits j bits) count ∙ parts m bits

  all_flipped : low_bits n (bit_xor bits (1 * 2 ^ (n - 1) % 2 ^ 64)) ≡ xs ++ not newest ∷ []
  unfolding xs newest m
  all_flipped =
      ap (λ (j : ℕ). low_bits n (bit_xor bits j)) (one_shl (n - 1) 64 (omega (arith, fewer, most)))
      ∙ ap (λ (j : ℕ). low_bits j (bit_xor bits (2 ^ (n - 1)))) count
      ∙ turned_parts (n - 1) bits (subst (λ (j : ℕ). bits < 2 ^ j) count fits)

  before : k ≤ length xs
  unfolding xs m
  before = omega (arith, fewer, low_bits-length m (bits % 2 ^ m))

  pub gone-flipped : take k (low_bits n (bit_xor bits (1 * 2 ^ (n - 1) % 2 ^ 64))) ≡ take k (low_bits n bits)
  gone-flipped =
      ap (take k) all_flipped ∙ take-append-le k xs (not newest ∷ []) before ∙ sym (take-append-le k xs (newest ∷ []) before) ∙ ap (take k) (sym all)

  pub held-flipped : drop k (low_bits n (bit_xor bits (1 * 2 ^ (n - 1) % 2 ^ 64))) ≡ flip_newest_atom (drop k (low_bits n bits))
  held-flipped =
      ap (drop k) all_flipped ∙ drop-append-le k xs (not newest ∷ []) before ∙ sym (flipped_at (drop k xs) newest)
      ∙ ap flip_newest_atom (sym (drop-append-le k xs (newest ∷ []) before) ∙ ap (drop k) (sym all))
