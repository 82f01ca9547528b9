-- Letters of atoms that are put four at a time.
use Rattle.std.proofs.Common.{◌≡◌, ℕ, zero, suc, ◌+◌, ◌/◌, ◌%◌, ◌≤◌, List, [], ◌∷◌, ◌++◌, length, take, drop, set, refl, sym, ap, ◌∙◌, arith}
use Rattle.std.proofs.Common.{append_assoc}
use Rattle.std.specs.Prelude.{◌==◌, map}
use native.Mathlib.Numerals.{unary_clauses}
use Rattle.std.proofs.lemmas.List.{take_at, take-take, length-append, length-take-le}
use Rattle.std.proofs.Math.Seq.{take-append-add}
use Rattle.etm_types.specs.Atoms.{low_bits}
use Rattle.path_text.specs.PacketLines.{letter}

-- four elements are put one after the other
pub set_four : (at : ℕ) (text : List ℕ) (a b c d : ℕ) → at + 4 ≤ length text
    → set (set (set (set text at a) (at + 1) b) (at + 2) c) (at + 3) d ≡ take at text ++ (a ∷ b ∷ c ∷ d ∷ drop (at + 4) text)
set_four zero [] a b c d within = absurd (omega (arith, within))
set_four zero (p ∷ []) a b c d within = absurd (omega (arith, within))
set_four zero (p ∷ q ∷ []) a b c d within = absurd (omega (arith, within))
set_four zero (p ∷ q ∷ r ∷ []) a b c d within = absurd (omega (arith, within))
set_four zero (p ∷ q ∷ r ∷ s ∷ text) a b c d within = refl
set_four (suc at) [] a b c d within = absurd (omega (arith, within))
set_four (suc at) (p ∷ text) a b c d within =
    let rest : at + 4 ≤ length text = omega (arith, within) in
    simp unary_clauses (ap (λ t. p ∷ t) (simp unary_clauses at (set_four at text a b c d rest)))

-- the letters of four atoms, and of those that are left
pub four_more : (n rest : ℕ) → map letter (low_bits (n + 4) rest) ≡ map letter (low_bits 4 rest) ++ map letter (low_bits n (rest / 16))
four_more n rest =
    let later : rest / 2 / 2 / 2 / 2 ≡ rest / 16 = omega arith in
    let more : n + 4 ≡ suc (suc (suc (suc n))) = omega arith in
    ap (λ k. map letter (low_bits k rest)) more ∙ ap (λ m. map letter (low_bits 4 rest) ++ map letter (low_bits n m)) later

-- a front of the letters is the letters of a front
take_letters : (k n bits : ℕ) → k ≤ n → take k (map letter (low_bits n bits)) ≡ map letter (low_bits k bits)
take_letters zero n bits few = refl
take_letters (suc k) zero bits few = absurd (omega (arith, few))
take_letters (suc k) (suc n) bits few = ap (λ t. letter (bits % 2 == 1) ∷ t) (take_letters k n (bits / 2) (omega (arith, few)))

-- where more letters were put than the run has, those of the run stand in front
pub front_of_letters : (start count bits : ℕ) (text old : List ℕ) → count ≤ 24 → start ≤ length old
    → take (start + 24) text ≡ take start old ++ map letter (low_bits 24 bits) → take (start + count) text ≡ take start old ++ map letter (low_bits count bits)
front_of_letters start count bits text old few within all =
    let front = take start old in let letters = map letter (low_bits 24 bits) in
    let place : start + count ≡ length front + count = omega (arith, length-take-le start old within) in
    sym (take-take (start + count) (start + 24) text (omega (arith, few))) ∙ ap (take (start + count)) all
    ∙ ap (λ n. take n (front ++ letters)) place ∙ take-append-add front letters count ∙ ap (λ t. front ++ t) (take_letters count 24 bits few)

-- the letters so far, with four more
pub four_put : (at next n rest : ℕ) (text : List ℕ) → at ≤ length text → next ≡ at + 4
    → take next (take at text ++ (map letter (low_bits 4 rest) ++ drop next text)) ++ map letter (low_bits n (rest / 16))
    ≡ take at text ++ map letter (low_bits (n + 4) rest)
four_put at next n rest text within is =
    let front = take at text in let four = map letter (low_bits 4 rest) in let later = map letter (low_bits n (rest / 16)) in
    let long : length (front ++ four) ≡ next = omega (arith, length-append front four, length-take-le at text within, is) in
    ap (λ t. take next t ++ later) (sym (append_assoc front four (drop next text)))
    ∙ ap (λ t. t ++ later) (take_at (front ++ four) (drop next text) next long)
    ∙ append_assoc front four later ∙ ap (λ t. front ++ t) (sym (four_more n rest))
