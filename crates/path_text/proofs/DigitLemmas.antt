-- Digits that are put one before another, and how many there are.
use Rattle.std.proofs.Common.{◌≡◌, ◌⊎◌, inl, inr, ℕ, zero, suc, ◌+◌, ◌-◌, ◌*◌, ◌/◌, ◌%◌, ◌^◌, ◌<◌, ◌≤◌, Bool}
use Rattle.std.proofs.Common.{true, false, List, [], ◌∷◌, ◌++◌, length, take, drop, set, refl, sym, ap, ◌∙◌, arith, append_assoc}
use Rattle.std.specs.Prelude.{◌==◌, map}
use Rattle.std.specs.Int.Digits.{digits_of}
use Rattle.std.specs.Int.Count.{count_leading_zeros}
use Rattle.std.proofs.lemmas.Bool.{eqb-true}
use Rattle.std.proofs.lemmas.List.{length-map, length-append, length-take-le, map-append, drop-set, set_split, take-take, take_at, drop_at}
use Rattle.std.proofs.lemmas.Int.Digits.{digits_of_step, length-digits_of_step, length-digits_of-le}
use Rattle.std.proofs.lemmas.Nat.{leading_top}
use Rattle.std.proofs.Math.Nat.{zero-div, zero-mod, le-div_iff_mul-le, one-le-pow, pow-zero}
use native.Mathlib.Numerals.{unary_clauses}
use Rattle.std.proofs.Math.Pow.{pow_mono}
use Rattle.path_text.specs.Lines.{digit, in_base}

cases : (b : Bool) → (b ≡ true) ⊎ (b ≡ false)
cases true = inl refl
cases false = inr refl

pub above_zero : (base n : ℕ) → 0 < n → in_base base n ≡ map digit (digits_of base n)
unfolding in_base
above_zero base n some = elim (cases (n == 0)) [ inl t ↦ absurd (omega (arith, eqb-true n 0 t)) | inr f ↦ simp f ]

-- the digits of a number above 0: those of all but its last one, and that
pub digits_step : (base n : ℕ) → 2 ≤ base → 0 < n → map digit (digits_of base n) ≡ map digit (digits_of base (n / base)) ++ (digit (n % base) ∷ [])
digits_step base n two some = ap (map digit) (digits_of_step base n two some) ∙ map-append digit (digits_of base (n / base)) (n % base ∷ [])

-- so is its text, and that of 0
pub in_base_step : (base n : ℕ) → 2 ≤ base → in_base base n ≡ map digit (digits_of base (n / base)) ++ (digit (n % base) ∷ [])
unfolding in_base
in_base_step base zero two =
    ap (λ d. digit d ∷ []) (sym (zero-mod base)) ∙ ap (λ d. map digit (digits_of base d) ++ (digit (0 % base) ∷ [])) (sym (zero-div base))
in_base_step base (suc n) two = above_zero base (suc n) (omega arith) ∙ digits_step base (suc n) two (omega arith)

-- ---- how many digits there are

pub length-in_base : (base n : ℕ) → 2 ≤ base → length (in_base base n) ≡ length (digits_of base (n / base)) + 1
length-in_base base n two =
    let above = digits_of base (n / base) in
    omega (arith, ap length (in_base_step base n two), length-append (map digit above) (digit (n % base) ∷ []), length-map above digit)

pub few_digits : (base most n : ℕ) → 2 ≤ base → 1 ≤ most → n < base ^ most → length (in_base base n) ≤ most
unfolding in_base
few_digits base most zero two some fits = some
few_digits base most (suc n) two some fits =
    omega (arith, ap length (above_zero base (suc n) (omega arith)), length-map (digits_of base (suc n)) digit, length-digits_of-le base most (suc n) two fits)

pub few_hex_64 : (n : ℕ) → n < 2 ^ 64 → length (in_base 16 n) ≤ 16
few_hex_64 n fits = few_digits 16 16 n (omega arith) (omega arith) (omega arith)

pub few_hex_32 : (n : ℕ) → n < 2 ^ 32 → length (in_base 16 n) ≤ 8
few_hex_32 n fits = few_digits 16 8 n (omega arith) (omega arith) (omega arith)

pub few_decimal_64 : (n : ℕ) → n < 2 ^ 64 → length (in_base 10 n) ≤ 20
few_decimal_64 n fits = few_digits 10 20 n (omega arith) (omega arith) (omega arith)

pub few_decimal_32 : (n : ℕ) → n < 2 ^ 32 → length (in_base 10 n) ≤ 10
few_decimal_32 n fits = few_digits 10 10 n (omega arith) (omega arith) (omega arith)

pub few_decimal_8 : (n : ℕ) → n < 2 ^ 8 → length (in_base 10 n) ≤ 3
few_decimal_8 n fits = few_digits 10 3 n (omega arith) (omega arith) (omega arith)

many_digits : (base k n : ℕ) → 2 ≤ base → base ^ k ≤ n → k < length (digits_of base n)
many_digits base zero n two fits = let one : 1 ≤ n = simp pow-zero at fits in omega (arith, length-digits_of_step base n two (omega arith))
many_digits base (suc k) n two fits =
    let above : base ^ k ≤ n / base = (le-div_iff_mul-le {k = base} {x = base ^ k} {y = n} (omega arith)).1 (simp unary_clauses at fits) in
    let some : 0 < n = omega (arith, one-le-pow (suc k) base (omega arith), fits) in
    let more : length (digits_of base n) ≡ length (digits_of base (n / base)) + 1 = length-digits_of_step base n two some in
    omega (arith, many_digits base k (n / base) two above, more)

-- where a number stands between two powers, the number of its digits is that of the upper one
pub count_between : (base k n : ℕ) → 2 ≤ base → base ^ k ≤ n → n < base ^ (k + 1) → 0 < n → length (in_base base n) ≡ k + 1
count_between base k n two above below some =
    omega (
      arith,
      ap length (above_zero base n some),
      length-map (digits_of base n) digit,
      many_digits base k n two above,
      length-digits_of-le base (k + 1) n two below,
    )

pub hex_count_zero : length (in_base 16 0) ≡ 1
unfolding in_base
hex_count_zero = refl

hex_power : (k : ℕ) → 16 ^ k ≡ 2 ^ (4 * k)
hex_power zero = refl
hex_power (suc k) = simp unary_clauses (omega (arith, hex_power k))

pub hex_count : (n : ℕ) → 0 < n → n < 2 ^ 64 → length (in_base 16 n) ≡ 16 - count_leading_zeros 64 n / 4
hex_count n some fits =
    let top = leading_top 64 n some fits in let j = top.0 in let k = j / 4 in
    let above : 16 ^ k ≤ n = rw (hex_power k) (omega (arith, pow_mono {i = 4 * k} {j = j} (omega arith), top.2)) in
    let below : n < 16 ^ (k + 1) = rw (hex_power (k + 1)) (omega (arith, pow_mono {i = suc j} {j = 4 * (k + 1)} (omega arith), top.3)) in
    omega (arith, count_between 16 k n (omega arith) above below some, top.1)

pub one_digit : (n : ℕ) → n < 10 → length (in_base 10 n) ≡ 1
one_digit n below = omega (arith, few_digits 10 1 n (omega arith) (omega arith) (omega arith), length-in_base 10 n (omega arith))

pub two_digits : (n : ℕ) → 10 ≤ n → n < 100 → length (in_base 10 n) ≡ 2
two_digits n above below = count_between 10 1 n (omega arith) (omega arith) (omega arith) (omega arith)

pub three_digits : (n : ℕ) → 100 ≤ n → n < 1000 → length (in_base 10 n) ≡ 3
three_digits n above below = count_between 10 2 n (omega arith) (omega arith) (omega arith) (omega arith)

pub four_digits : (n : ℕ) → 1000 ≤ n → n < 10000 → length (in_base 10 n) ≡ 4
four_digits n above below = count_between 10 3 n (omega arith) (omega arith) (omega arith) (omega arith)

pub ruleset short_counts = (one_digit, two_digits, three_digits, four_digits)

pub five_digits : (n : ℕ) → 10000 ≤ n → n < 100000 → length (in_base 10 n) ≡ 5
five_digits n above below = count_between 10 4 n (omega arith) (omega arith) (omega arith) (omega arith)

pub six_digits : (n : ℕ) → 100000 ≤ n → n < 1000000 → length (in_base 10 n) ≡ 6
six_digits n above below = count_between 10 5 n (omega arith) (omega arith) (omega arith) (omega arith)

pub seven_digits : (n : ℕ) → 1000000 ≤ n → n < 10000000 → length (in_base 10 n) ≡ 7
seven_digits n above below = count_between 10 6 n (omega arith) (omega arith) (omega arith) (omega arith)

pub eight_digits : (n : ℕ) → 10000000 ≤ n → n < 100000000 → length (in_base 10 n) ≡ 8
eight_digits n above below = count_between 10 7 n (omega arith) (omega arith) (omega arith) (omega arith)

pub ruleset middle_counts = (five_digits, six_digits, seven_digits, eight_digits)

one_more_digit : (n : ℕ) → 10 ≤ n → length (in_base 10 n) ≡ length (in_base 10 (n / 10)) + 1
one_more_digit n above =
    omega (arith, length-in_base 10 n (omega arith), ap length (above_zero 10 (n / 10) (omega arith)), length-map (digits_of 10 (n / 10)) digit)

-- from 10000 on there are four more digits than those of a ten-thousandth
four_more_digits : (n : ℕ) → 10000 ≤ n → length (in_base 10 n) ≡ length (in_base 10 (n / 10000)) + 4
four_more_digits n above =
    let tenth = n / 10 in let hundredth = tenth / 10 in let thousandth = hundredth / 10 in
    let same : thousandth / 10 ≡ n / 10000 = omega arith in
    omega (
      arith,
      one_more_digit n (omega arith),
      one_more_digit tenth (omega arith),
      one_more_digit hundredth (omega arith),
      one_more_digit thousandth (omega arith),
      ap (λ m. length (in_base 10 m)) same,
    )

-- and so twice from 100000000 on
pub eight_more_digits : (n : ℕ) → 100000000 ≤ n → length (in_base 10 n) ≡ length (in_base 10 (n / 100000000)) + 8
eight_more_digits n above =
    let same : n / 10000 / 10000 ≡ n / 100000000 = omega arith in
    omega (arith, four_more_digits n (omega arith), four_more_digits (n / 10000) (omega arith), ap (λ m. length (in_base 10 m)) same)

-- from 100 on there are two more digits than those of a hundredth
pub two_more_digits : (n : ℕ) → 100 ≤ n → length (in_base 10 n) ≡ length (in_base 10 (n / 100)) + 2
two_more_digits n above =
    let same : n / 10 / 10 ≡ n / 100 = omega arith in
    omega (arith, one_more_digit n (omega arith), one_more_digit (n / 10) (omega arith), ap (λ m. length (in_base 10 m)) same)

-- ---- two decimal digits at a time

pub decimal_one : (n : ℕ) → n < 10 → in_base 10 n ≡ digit n ∷ []
decimal_one n below =
    let above : n / 10 ≡ 0 = omega arith in let last : n % 10 ≡ n = omega arith in
    in_base_step 10 n (omega arith) ∙ ap (λ k. map digit (digits_of 10 k) ++ (digit (n % 10) ∷ [])) above ∙ ap (λ k. digit k ∷ []) last

decimal_more : (n : ℕ) → 10 ≤ n → in_base 10 n ≡ in_base 10 (n / 10) ++ (digit (n % 10) ∷ [])
decimal_more n above =
    in_base_step 10 n (omega arith) ∙ ap (λ t. t ++ (digit (n % 10) ∷ [])) (sym (above_zero 10 (n / 10) (omega arith)))

pub decimal_two : (n : ℕ) → 10 ≤ n → n < 100 → in_base 10 n ≡ digit (n / 10) ∷ digit (n % 10) ∷ []
decimal_two n above below =
    decimal_more n above ∙ ap (λ t. t ++ (digit (n % 10) ∷ [])) (decimal_one (n / 10) (omega arith))

-- from 100 on: the digits of a hundredth, and two more
pub decimal_step : (n : ℕ) → 100 ≤ n → in_base 10 n ≡ in_base 10 (n / 100) ++ (digit (n % 100 / 10) ∷ digit (n % 100 % 10) ∷ [])
decimal_step n above =
    let hundredth : n / 10 / 10 ≡ n / 100 = omega arith in
    let tens : n / 10 % 10 ≡ n % 100 / 10 = omega arith in let ones : n % 10 ≡ n % 100 % 10 = omega arith in
    let one = digit (n % 10) ∷ [] in
    decimal_more n (omega arith) ∙ ap (λ t. t ++ one) (decimal_more (n / 10) (omega arith))
    ∙ append_assoc (in_base 10 (n / 10 / 10)) (digit (n / 10 % 10) ∷ []) one
    ∙ ap (λ k. in_base 10 k ++ (digit (n / 10 % 10) ∷ one)) hundredth
    ∙ ap (λ k. in_base 10 (n / 100) ++ (digit k ∷ one)) tens
    ∙ ap (λ k. in_base 10 (n / 100) ++ (digit (n % 100 / 10) ∷ digit k ∷ [])) ones

-- a number of one digit is put
pub put_one : (n end : ℕ) (text : List ℕ) → n < 10 → 1 ≤ end → end ≤ length text
    → set text (end - 1) (digit n) ≡ take (end - length (in_base 10 n)) text ++ (in_base 10 n ++ drop end text)
put_one n end text below some within =
    let last : suc (end - 1) ≡ end = omega (arith, some) in
    set_split text (end - 1) (digit n) (omega (arith, some, within)) ∙ ap (λ k. take (end - 1) text ++ (digit n ∷ drop k text)) last
    ∙ ap (λ k. take (end - k) text ++ (digit n ∷ drop end text)) (sym (one_digit n below))
    ∙ ap (λ d. take (end - length (in_base 10 n)) text ++ (d ++ drop end text)) (sym (decimal_one n below))

-- a number of two digits is put
pub put_both : (n end : ℕ) (text : List ℕ) → 10 ≤ n → n < 100 → 2 ≤ end
    → take (end - 2) text ++ (digit (n / 10) ∷ digit (n % 10) ∷ drop (end - 2 + 2) text)
    ≡ take (end - length (in_base 10 n)) text ++ (in_base 10 n ++ drop end text)
put_both n end text above below some =
    let pair = digit (n / 10) ∷ digit (n % 10) ∷ [] in
    let last : end - 2 + 2 ≡ end = omega (arith, some) in
    ap (λ k. take (end - 2) text ++ (pair ++ drop k text)) last
    ∙ ap (λ k. take (end - k) text ++ (pair ++ drop end text)) (sym (two_digits n above below))
    ∙ ap (λ d. take (end - length (in_base 10 n)) text ++ (d ++ drop end text)) (sym (decimal_two n above below))

-- two more digits, put before those that are there
pub put_two : (rest at : ℕ) (text : List ℕ) → 100 ≤ rest → at + 2 ≤ length text
    → in_base 10 (rest / 100) ++ drop at (take at text ++ (digit (rest % 100 / 10) ∷ digit (rest % 100 % 10) ∷ drop (at + 2) text))
    ≡ in_base 10 rest ++ drop (at + 2) text
put_two rest at text above within =
    let pair = digit (rest % 100 / 10) ∷ digit (rest % 100 % 10) ∷ [] in
    ap (λ t. in_base 10 (rest / 100) ++ t) (drop_at (take at text) (pair ++ drop (at + 2) text) at (length-take-le at text (omega (arith, within))))
    ∙ sym (append_assoc (in_base 10 (rest / 100)) pair (drop (at + 2) text)) ∙ ap (λ t. t ++ drop (at + 2) text) (sym (decimal_step rest above))

-- ---- the digits of a number, put from the last one on

-- one more digit is put before those that are there
pub put_step : (base rest at : ℕ) (text : List ℕ) → 2 ≤ base → 0 < rest → at < length text
    → map digit (digits_of base (rest / base)) ++ drop at (set text at (digit (rest % base))) ≡ map digit (digits_of base rest) ++ drop (at + 1) text
put_step base rest at text two some within =
    ap (λ t. map digit (digits_of base (rest / base)) ++ t) (drop-set text at (digit (rest % base)) within)
    ∙ sym (append_assoc (map digit (digits_of base (rest / base))) (digit (rest % base) ∷ []) (drop (at + 1) text))
    ∙ ap (λ t. t ++ drop (at + 1) text) (sym (digits_step base rest two some))

-- so is the last one, which is 0 for 0
pub put_last : (base n at : ℕ) (text : List ℕ) → 2 ≤ base → at < length text
    → map digit (digits_of base (n / base)) ++ drop at (set text at (digit (n % base))) ≡ in_base base n ++ drop (at + 1) text
put_last base n at text two within =
    ap (λ t. map digit (digits_of base (n / base)) ++ t) (drop-set text at (digit (n % base)) within)
    ∙ sym (append_assoc (map digit (digits_of base (n / base))) (digit (n % base) ∷ []) (drop (at + 1) text))
    ∙ ap (λ t. t ++ drop (at + 1) text) (sym (in_base_step base n two))

-- what stands before is as it was
pub take_less : (k at : ℕ) (xs ys : List ℕ) → k ≤ at → take at xs ≡ take at ys → take k xs ≡ take k ys
take_less k at xs ys less same = sym (take-take k at xs less) ∙ ap (take k) same ∙ take-take k at ys less

-- ---- the digits of a number in place of as many others

pub both_above_zero : (m n : ℕ) → length (digits_of 16 m) ≡ length (digits_of 16 n) → (m ≡ n → ⊥) → (0 < m) × (0 < n)
both_above_zero zero zero many other = absurd (other refl)
both_above_zero zero (suc n) many other = absurd (omega (arith, many, length-digits_of_step 16 (suc n) (omega arith) (omega arith)))
both_above_zero (suc m) zero many other = absurd (omega (arith, many, length-digits_of_step 16 (suc m) (omega arith) (omega arith)))
both_above_zero (suc m) (suc n) many other = (omega arith, omega arith)

-- what stands before the last of some bytes
pub before_last : (at next : ℕ) (text front : List ℕ) (d : ℕ) → next ≡ at + 1 → length front ≡ at → take next text ≡ front ++ (d ∷ []) → take at text ≡ front
before_last at next text front d is len e = sym (take-take at next text (omega (arith, is))) ∙ ap (take at) e ∙ take_at front (d ∷ []) at len
