-- Hex digits that are put two at a time.
use Rattle.std.proofs.Common.{◌≡◌, ℕ, ◌+◌, ◌-◌, ◌/◌, ◌%◌, ◌<◌, ◌≤◌, zero, suc, List, [], ◌∷◌, ◌++◌, length, take, drop, set}
use Rattle.std.proofs.Common.{refl, sym, ap, ◌∙◌, arith, append_assoc}
use Rattle.std.specs.Prelude.{map}
use native.Mathlib.Numerals.{unary_clauses}
use Rattle.std.specs.Int.Digits.{digits_of}
use Rattle.std.proofs.lemmas.List.{length-map, length-append, length-take-le, set_split, drop_at}
use Rattle.path_text.specs.Lines.{digit, in_base, last_four_hex}
use Rattle.path_text.proofs.DigitLemmas.{above_zero, in_base_step, digits_step, length-in_base, few_digits, count_between}

pub one_hex_digit : (n : ℕ) → n < 16 → length (in_base 16 n) ≡ 1
one_hex_digit n below = omega (arith, few_digits 16 1 n (omega arith) (omega arith) (omega arith), length-in_base 16 n (omega arith))

pub two_hex_digits : (n : ℕ) → 16 ≤ n → n < 256 → length (in_base 16 n) ≡ 2
two_hex_digits n above below = count_between 16 1 n (omega arith) (omega arith) (omega arith) (omega arith)

one_more_hex_digit : (n : ℕ) → 16 ≤ n → length (in_base 16 n) ≡ length (in_base 16 (n / 16)) + 1
one_more_hex_digit n above =
    omega (arith, length-in_base 16 n (omega arith), ap length (above_zero 16 (n / 16) (omega arith)), length-map (digits_of 16 (n / 16)) digit)

-- from 256 on there are two more digits than those of its 256th part
pub two_more_hex_digits : (n : ℕ) → 256 ≤ n → length (in_base 16 n) ≡ length (in_base 16 (n / 256)) + 2
two_more_hex_digits n above =
    let same : n / 16 / 16 ≡ n / 256 = omega arith in
    omega (arith, one_more_hex_digit n (omega arith), one_more_hex_digit (n / 16) (omega arith), ap (λ m. length (in_base 16 m)) same)

-- ---- two hex digits at a time

pub hex_one : (n : ℕ) → n < 16 → in_base 16 n ≡ digit n ∷ []
hex_one n below =
    let above : n / 16 ≡ 0 = omega arith in let last : n % 16 ≡ n = omega arith in
    in_base_step 16 n (omega arith) ∙ ap (λ k. map digit (digits_of 16 k) ++ (digit (n % 16) ∷ [])) above ∙ ap (λ k. digit k ∷ []) last

hex_more : (n : ℕ) → 16 ≤ n → in_base 16 n ≡ in_base 16 (n / 16) ++ (digit (n % 16) ∷ [])
hex_more n above =
    in_base_step 16 n (omega arith) ∙ ap (λ t. t ++ (digit (n % 16) ∷ [])) (sym (above_zero 16 (n / 16) (omega arith)))

pub hex_two : (n : ℕ) → 16 ≤ n → n < 256 → in_base 16 n ≡ digit (n / 16) ∷ digit (n % 16) ∷ []
hex_two n above below =
    hex_more n above ∙ ap (λ t. t ++ (digit (n % 16) ∷ [])) (hex_one (n / 16) (omega arith))

-- from 256 on: the digits of its 256th part, and two more
pub hex_step : (n : ℕ) → 256 ≤ n → in_base 16 n ≡ in_base 16 (n / 256) ++ (digit (n % 256 / 16) ∷ digit (n % 256 % 16) ∷ [])
hex_step n above =
    let part : n / 16 / 16 ≡ n / 256 = omega arith in
    let tens : n / 16 % 16 ≡ n % 256 / 16 = omega arith in let ones : n % 16 ≡ n % 256 % 16 = omega arith in
    let one = digit (n % 16) ∷ [] in
    hex_more n (omega arith) ∙ ap (λ t. t ++ one) (hex_more (n / 16) (omega arith))
    ∙ append_assoc (in_base 16 (n / 16 / 16)) (digit (n / 16 % 16) ∷ []) one
    ∙ ap (λ k. in_base 16 k ++ (digit (n / 16 % 16) ∷ one)) part
    ∙ ap (λ k. in_base 16 (n / 256) ++ (digit k ∷ one)) tens
    ∙ ap (λ k. in_base 16 (n / 256) ++ (digit (n % 256 / 16) ∷ digit k ∷ [])) ones

-- a number of one digit is put
pub put_one_hex : (n end : ℕ) (text : List ℕ) → n < 16 → 1 ≤ end → end ≤ length text
    → set text (end - 1) (digit n) ≡ take (end - length (in_base 16 n)) text ++ (in_base 16 n ++ drop end text)
put_one_hex n end text below some within =
    let last : suc (end - 1) ≡ end = omega (arith, some) in
    set_split text (end - 1) (digit n) (omega (arith, some, within)) ∙ ap (λ k. take (end - 1) text ++ (digit n ∷ drop k text)) last
    ∙ ap (λ k. take (end - k) text ++ (digit n ∷ drop end text)) (sym (one_hex_digit n below))
    ∙ ap (λ d. take (end - length (in_base 16 n)) text ++ (d ++ drop end text)) (sym (hex_one n below))

-- a number of two digits is put
pub put_both_hex : (n end : ℕ) (text : List ℕ) → 16 ≤ n → n < 256 → 2 ≤ end
    → take (end - 2) text ++ (digit (n / 16) ∷ digit (n % 16) ∷ drop (end - 2 + 2) text)
    ≡ take (end - length (in_base 16 n)) text ++ (in_base 16 n ++ drop end text)
put_both_hex n end text above below some =
    let pair = digit (n / 16) ∷ digit (n % 16) ∷ [] in
    let last : end - 2 + 2 ≡ end = omega (arith, some) in
    ap (λ k. take (end - 2) text ++ (pair ++ drop k text)) last
    ∙ ap (λ k. take (end - k) text ++ (pair ++ drop end text)) (sym (two_hex_digits n above below))
    ∙ ap (λ d. take (end - length (in_base 16 n)) text ++ (d ++ drop end text)) (sym (hex_two n above below))

-- two more digits, put before those that are there
pub put_two_hex : (rest at : ℕ) (text : List ℕ) → 256 ≤ rest → at + 2 ≤ length text
    → in_base 16 (rest / 256) ++ drop at (take at text ++ (digit (rest % 256 / 16) ∷ digit (rest % 256 % 16) ∷ drop (at + 2) text))
    ≡ in_base 16 rest ++ drop (at + 2) text
put_two_hex rest at text above within =
    let pair = digit (rest % 256 / 16) ∷ digit (rest % 256 % 16) ∷ [] in
    ap (λ t. in_base 16 (rest / 256) ++ t) (drop_at (take at text) (pair ++ drop (at + 2) text) at (length-take-le at text (omega (arith, within))))
    ∙ sym (append_assoc (in_base 16 (rest / 256)) pair (drop (at + 2) text)) ∙ ap (λ t. t ++ drop (at + 2) text) (sym (hex_step rest above))

-- ---- the last four hex digits

-- a number of at least four digits: those of its 65536th part, if it has any, and the last four
pub hex_four : (n : ℕ) → 4096 ≤ n → in_base 16 n ≡ map digit (digits_of 16 (n / 65536)) ++ last_four_hex n
hex_four n above =
    let a = n / 16 in let b = a / 16 in let c = b / 16 in let digits = λ (k : ℕ). map digit (digits_of 16 k) in
    let d0 = digit (n % 16) ∷ [] in let d1 = digit (a % 16) ∷ d0 in let d2 = digit (b % 16) ∷ d1 in
    let rest : c / 16 ≡ n / 65536 = omega arith in
    let third : b % 16 ≡ n / 256 % 16 = omega arith in let fourth : c % 16 ≡ n / 4096 % 16 = omega arith in
    in_base_step 16 n (omega arith)
    ∙ ap (λ t. t ++ d0) (digits_step 16 a (omega arith) (omega (arith, above))) ∙ append_assoc (digits b) (digit (a % 16) ∷ []) d0
    ∙ ap (λ t. t ++ d1) (digits_step 16 b (omega arith) (omega (arith, above))) ∙ append_assoc (digits c) (digit (b % 16) ∷ []) d1
    ∙ ap (λ t. t ++ d2) (digits_step 16 c (omega arith) (omega (arith, above))) ∙ append_assoc (digits (c / 16)) (digit (c % 16) ∷ []) d2
    ∙ ap (λ k. digits k ++ (digit (c % 16) ∷ d2)) rest
    ∙ ap (λ k. digits (n / 65536) ++ (digit k ∷ d2)) fourth
    ∙ ap (λ k. digits (n / 65536) ++ (digit (n / 4096 % 16) ∷ digit k ∷ d1)) third

pub at_least_four_hex : (n : ℕ) → 4096 ≤ n → 4 ≤ length (in_base 16 n)
at_least_four_hex n above =
    omega (arith, ap length (hex_four n above), length-append (map digit (digits_of 16 (n / 65536))) (last_four_hex n))

-- two pairs of digits are put, one behind the other
pub put_two_pairs : (at : ℕ) (text : List ℕ) (a b c d : ℕ) → at + 4 ≤ length text
    → take (at + 2) (take at text ++ (a ∷ b ∷ drop (at + 2) text)) ++ (c ∷ d ∷ drop (at + 4) (take at text ++ (a ∷ b ∷ drop (at + 2) text)))
    ≡ take at text ++ (a ∷ b ∷ c ∷ d ∷ drop (at + 4) text)
put_two_pairs zero [] a b c d within = absurd (omega (arith, within))
put_two_pairs zero (p ∷ []) a b c d within = absurd (omega (arith, within))
put_two_pairs zero (p ∷ q ∷ []) a b c d within = absurd (omega (arith, within))
put_two_pairs zero (p ∷ q ∷ r ∷ []) a b c d within = absurd (omega (arith, within))
put_two_pairs zero (p ∷ q ∷ r ∷ s ∷ text) a b c d within = refl
put_two_pairs (suc at) [] a b c d within = absurd (omega (arith, within))
put_two_pairs (suc at) (p ∷ text) a b c d within =
    let rest : at + 4 ≤ length text = omega (arith, within) in
    simp unary_clauses (ap (λ t. p ∷ t) (simp unary_clauses at (put_two_pairs at text a b c d rest)))
