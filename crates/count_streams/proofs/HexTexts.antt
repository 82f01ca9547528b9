-- Digits tell their number, and a text with a byte that is no hex digit is that of no number.
use Rattle.std.proofs.Common.{◌≡◌, ◌⊎◌, ℕ, zero, suc, ◌+◌, ◌<◌, ◌≤◌, if◌then◌else◌, Bool, true, false, List, [], ◌∷◌, ◌++◌, map, inl, inr}
use Rattle.std.proofs.Common.{refl, sym, ap, ◌∙◌, arith, append-nil, get_or}
use Rattle.std.specs.Prelude.{◌&&◌, ◌||◌, ◌==◌, bytes_eq, nat_lt}
use Rattle.std.specs.Cmp.Lexicographic.{bytes_decides}
use Rattle.std.specs.Int.Digits.{AllBelowBase, digits_of}
use Rattle.std.proofs.lemmas.Bool.{lt-ltb}
use Rattle.std.proofs.lemmas.Bool.Decides.{eqb_tells, leb_tells}
use Rattle.std.proofs.lemmas.Int.Digits.{all_below_base_digits_of, first_digits_of, same_from_digits_of}
use Rattle.std.proofs.lemmas.List.{append_cancel_right}
use Rattle.path_text.specs.Lines.{decimal, digit, hex, in_base}
use Rattle.path_text.proofs.DigitLemmas.{above_zero}

-- ---- digits

abbrev IsDigit : ℕ → Type 0
IsDigit d = ((d < 10) × (digit d ≡ 48 + d)) ⊎ ((10 ≤ d) × (digit d ≡ 87 + d))

digit_is : (d : ℕ) → IsDigit d
digit_is d = elim (leb_tells (suc d) 10) [
  | inl small ↦ inl (omega (arith, small.1), ap (λ (t : Bool). if t then 48 + d else 87 + d) small.0)
  | inr large ↦ inr (omega (arith, large.1), ap (λ (t : Bool). if t then 48 + d else 87 + d) large.0)
]

same_digit : (a b : ℕ) → IsDigit a → IsDigit b → digit a ≡ digit b → a ≡ b
same_digit a b (inl x) (inl y) e = omega (arith, e, x.1, y.1)
same_digit a b (inl x) (inr y) e = absurd (omega (arith, e, x.0, x.1, y.0, y.1))
same_digit a b (inr x) (inl y) e = absurd (omega (arith, e, x.0, x.1, y.0, y.1))
same_digit a b (inr x) (inr y) e = omega (arith, e, x.1, y.1)

same_digits : (xs ys : List ℕ) → map digit xs ≡ map digit ys → xs ≡ ys
same_digits [] [] e = refl
same_digits [] (y ∷ ys) e = absurd cc
same_digits (x ∷ xs) [] e = absurd cc
same_digits (x ∷ xs) (y ∷ ys) e =
    let head : digit x ≡ digit y = cc in
    let tail : map digit xs ≡ map digit ys = cc in
    ap (λ d. d ∷ xs) (same_digit x y (digit_is x) (digit_is y) head) ∙ ap (λ l. y ∷ l) (same_digits xs ys tail)

-- ---- numbers

-- the digits that are shown
abbrev shown : ℕ → ℕ → List ℕ
shown base zero = 0 ∷ []
shown base (suc n) = digits_of base (suc n)

shown_is : (base n : ℕ) → in_base base n ≡ map digit (shown base n)
unfolding in_base
shown_is base zero = refl
shown_is base (suc n) = above_zero base (suc n) (omega arith)

same_shown : (base m n : ℕ) → 2 ≤ base → shown base m ≡ shown base n → m ≡ n
same_shown base zero zero two e = refl
same_shown base zero (suc n) two e =
    let first = ap (λ (l : List ℕ). get_or l 0 0) e in absurd (omega (arith, first, first_digits_of base (suc n) two (omega arith)))
same_shown base (suc m) zero two e =
    let first = ap (λ (l : List ℕ). get_or l 0 0) e in absurd (omega (arith, first, first_digits_of base (suc m) two (omega arith)))
same_shown base (suc m) (suc n) two e = same_from_digits_of base (suc m) (suc n) two e

-- the text of a number is that of no other
pub same_number : (base m n : ℕ) → 2 ≤ base → in_base base m ≡ in_base base n → m ≡ n
same_number base m n two e =
    same_shown base m n two (same_digits (shown base m) (shown base n) (sym (shown_is base m) ∙ e ∙ shown_is base n))

-- ---- bytes of hex digits

-- a hex digit can be this byte; or it is below them all, as LF is
abbrev can_be_hex : ℕ → Bool
can_be_hex b = nat_lt b 58 || (nat_lt 96 b && nat_lt b 103)

abbrev pub can_all_be_hex : List ℕ → Bool
can_all_be_hex [] = true
can_all_be_hex (b ∷ text) = can_be_hex b && can_all_be_hex text

first_is : (a b : Bool) → a ≡ true → (a || b) ≡ true
first_is true b is = refl
first_is false b is = absurd cc

second_is : (a b : Bool) → b ≡ true → (a || b) ≡ true
second_is true b is = refl
second_is false b is = is

both_are : (a b : Bool) → a ≡ true → b ≡ true → (a && b) ≡ true
both_are true b x y = y
both_are false b x y = absurd cc

digit_can : (d : ℕ) → d < 16 → IsDigit d → can_be_hex (digit d) ≡ true
digit_can d below (inl x) =
    first_is (nat_lt (digit d) 58) (nat_lt 96 (digit d) && nat_lt (digit d) 103) (lt-ltb (digit d) 58 (omega (arith, x.0, x.1)))
digit_can d below (inr x) =
    second_is (nat_lt (digit d) 58) (nat_lt 96 (digit d) && nat_lt (digit d) 103)
    (both_are (nat_lt 96 (digit d)) (nat_lt (digit d) 103) (lt-ltb 96 (digit d) (omega (arith, x.0, x.1)))
    (lt-ltb (digit d) 103 (omega (arith, below, x.1))))

digits_can : (base : ℕ) (ds rest : List ℕ) → base ≤ 16 → AllBelowBase base ds → can_all_be_hex rest ≡ true → can_all_be_hex (map digit ds ++ rest) ≡ true
digits_can base [] rest few all can = can
digits_can base (d ∷ ds) rest few all can =
    both_are (can_be_hex (digit d)) (can_all_be_hex (map digit ds ++ rest)) (digit_can d (omega (arith, all.0, few)) (digit_is d))
    (digits_can base ds rest few all.1 can)

shown_below : (base n : ℕ) → 2 ≤ base → AllBelowBase base (shown base n)
shown_below base zero two = (omega (arith, two), tt)
shown_below base (suc n) two = all_below_base_digits_of base (suc n) two

number_can : (base n : ℕ) (rest : List ℕ) → 2 ≤ base → base ≤ 16 → can_all_be_hex rest ≡ true → can_all_be_hex (in_base base n ++ rest) ≡ true
number_can base n rest two few can =
    ap (λ (l : List ℕ). can_all_be_hex (l ++ rest)) (shown_is base n) ∙ digits_can base (shown base n) rest few (shown_below base n two) can

pub hex_can : (n : ℕ) → can_all_be_hex (hex n ++ 10 ∷ []) ≡ true
hex_can n = number_can 16 n (10 ∷ []) (omega arith) (omega arith) refl

pub decimal_can : (n : ℕ) → can_all_be_hex (decimal n) ≡ true
decimal_can n = ap can_all_be_hex (sym (append-nil (decimal n))) ∙ number_can 10 n [] (omega arith) (omega arith) refl

-- ---- lines of numbers

pub never : (t : Bool) → (t ≡ true → ⊥) → t ≡ false
never true not = absurd (not refl)
never false not = refl

-- a line with another byte is not that of a number
pub is_no_hex : (line : List ℕ) (n : ℕ) → can_all_be_hex line ≡ false → bytes_eq line (hex n ++ 10 ∷ []) ≡ false
is_no_hex line n other =
    never (bytes_eq line (hex n ++ 10 ∷ []))
    (λ same. let e = sym other ∙ ap can_all_be_hex ((bytes_decides line (hex n ++ 10 ∷ [])).0 same) ∙ hex_can n in absurd cc)

pub no_hex_is : (n : ℕ) (line : List ℕ) → can_all_be_hex line ≡ false → bytes_eq (hex n ++ 10 ∷ []) line ≡ false
no_hex_is n line other =
    never (bytes_eq (hex n ++ 10 ∷ []) line)
    (λ same. let e = sym other ∙ sym (ap can_all_be_hex ((bytes_decides (hex n ++ 10 ∷ []) line).0 same)) ∙ hex_can n in absurd cc)

-- that of a number is that of no other
pub hex_tells : (m n : ℕ) → bytes_eq (hex m ++ 10 ∷ []) (hex n ++ 10 ∷ []) ≡ (m == n)
hex_tells m n =
    let decides = bytes_decides (hex m ++ 10 ∷ []) (hex n ++ 10 ∷ []) in elim (eqb_tells m n) [
      | inl same ↦ decides.1 (ap (λ (k : ℕ). hex k ++ 10 ∷ []) same.1) ∙ sym same.0
      | inr differ ↦
          never (bytes_eq (hex m ++ 10 ∷ []) (hex n ++ 10 ∷ []))
          (λ same. differ.1 (same_number 16 m n (omega arith) (append_cancel_right (hex m) (hex n) (10 ∷ []) (decides.0 same))))
          ∙ sym differ.0
    ]
