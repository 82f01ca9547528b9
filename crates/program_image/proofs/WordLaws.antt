-- The words of an image are those of its parts.
use Rattle.std.proofs.Common.{◌≡◌, ℕ, zero, suc, ◌+◌, ◌-◌, ◌%◌, ◌^◌, ◌<◌, ◌≤◌, List, [], ◌∷◌, length, take, drop}
use Rattle.std.proofs.Common.{Bool, true, false, ◌&&◌, Option, Some, None, nat_lt, nat_le, refl, ap, ◌∙◌, arith, cond, get_or, subst}
use Rattle.std.specs.Prelude.{◌==◌, Contains, slice_range}
use Rattle.std.specs.Option.{option_or}
use Rattle.std.proofs.lemmas.Bool.{and_parts, eqb-true, leb-true, ltb-true}
use Rattle.std.proofs.lemmas.List.{get_or-drop}
use Rattle.std.proofs.lemmas.Option.{none-some, same_Some}
use Rattle.hex.specs.Hex.{IsBytes}
use Rattle.byteorder.specs.Endian.{little_number}
use Rattle.program_image.specs.Part.{InOrder, IsImage, IsPart, Part, end_of, word_in, word_of}
use Rattle.program_image.proofs.WordSearch.{outside}
use Rattle.program_image.proofs.Spelled.{is_bytes}

-- ---- the part of a word

pub record HasWord (part : Part) (a word : ℕ) : Type 0 where
  pub aligned : a % 4 ≡ 0
  pub from : part.start ≤ a
  pub to : a < end_of part
  pub is : little_number 4 (slice_range part.bytes (a - part.start) (a - part.start + 4)) ≡ word

tested : (test : Bool) (x y : ℕ) → cond test (Some x) None ≡ Some y → (test ≡ true) × (x ≡ y)
tested true x y e = (refl, same_Some x y e)
tested false x y e = absurd (none-some y e)

pub has_word : (part : Part) (a word : ℕ) → word_in part a ≡ Some word → HasWord part a word
has_word part a word e =
    let t =
    tested ((a % 4 == 0) && (nat_le part.start a && nat_lt a (end_of part)))
    (little_number 4 (slice_range part.bytes (a - part.start) (a - part.start + 4))) word e in
    let both = and_parts (a % 4 == 0) (nat_le part.start a && nat_lt a (end_of part)) t.0 in
    let range = and_parts (nat_le part.start a) (nat_lt a (end_of part)) both.1 in
    record { aligned = eqb-true (a % 4) 0 both.0; from = leb-true part.start a range.0; to = ltb-true a (end_of part) range.1; is = t.1 }

-- a part of the image that has the word
abbrev pub IsOfPart : List Part → ℕ → ℕ → Type 0
IsOfPart image a word = (part : Part) × Contains image part × (word_in part a ≡ Some word)

later_part : (part : Part) (parts : List Part) (a word : ℕ) → IsOfPart parts a word → IsOfPart (part ∷ parts) a word
later_part part parts a word of = (of.0, (suc of.1.0, omega (arith, of.1.1), of.1.2), of.2)

first_or_later : (part : Part) (parts : List Part) (a word : ℕ) (here : Option ℕ) → word_in part a ≡ here
    → (word_of parts a ≡ Some word → IsOfPart parts a word)
    → option_or here (word_of parts a) ≡ Some word → IsOfPart (part ∷ parts) a word
first_or_later part parts a word (Some found) is more e = (part, (0, omega arith, refl), is ∙ e)
first_or_later part parts a word None is more e = later_part part parts a word (more e)

pub part_of_word : (parts : List Part) (a word : ℕ) → word_of parts a ≡ Some word → IsOfPart parts a word
part_of_word [] a word e = absurd (none-some word e)
part_of_word (part ∷ parts) a word e = first_or_later part parts a word (word_in part a) refl (part_of_word parts a word) e

word_at_place : (parts : List Part) (part : Part) (k a word : ℕ) → InOrder parts → k < length parts → get_or parts k part ≡ part
    → word_in part a ≡ Some word → word_of parts a ≡ Some word
word_at_place [] part k a word order within is e = absurd (omega (arith, within))
word_at_place (first ∷ parts) part zero a word order within is e =
    let here : word_in first a ≡ Some word = ap (λ (p : Part). word_in p a) is ∙ e in
    rw here refl
word_at_place (first ∷ parts) part (suc k) a word order within is e =
    let has = has_word part a word e in
    let before = order.0 k part (omega (arith, within)) in
    let start = ap (λ (p : Part). p.start) is in
    rw (outside first a (λ from to. omega (arith, to, before, start, has.from))) (word_at_place parts part k a word order.1 (omega (arith, within)) is e)

pub word_of_part : (image : List Part) (a word : ℕ) → IsImage image → IsOfPart image a word → word_of image a ≡ Some word
word_of_part image a word is of = word_at_place image of.0 of.1.0 a word is.order of.1.1 of.1.2 of.2

-- ---- a word fits

front_bytes : (n : ℕ) (xs : List ℕ) → IsBytes xs → IsBytes (take n xs)
front_bytes zero xs fit k = omega arith
front_bytes (suc n) [] fit k = omega arith
front_bytes (suc n) (x ∷ xs) fit zero = fit 0
front_bytes (suc n) (x ∷ xs) fit (suc k) = front_bytes n xs (λ i. fit (suc i)) k

rest_bytes : (n : ℕ) (xs : List ℕ) → IsBytes xs → IsBytes (drop n xs)
rest_bytes n xs fit k = rw (get_or-drop n xs k 0) (fit (n + k))

number_fits : (xs : List ℕ) → IsBytes xs → little_number 4 xs < 2 ^ 32
number_fits xs fit = let a = fit 0 in let b = fit 1 in let c = fit 2 in let d = fit 3 in omega arith

-- a word of 32 bits at a multiple of 4, within the addresses of 64 bits
abbrev pub IsWordAt : ℕ → ℕ → Type 0
IsWordAt a word = (word < 2 ^ 32) × (a % 4 ≡ 0) × (a + 4 ≤ 2 ^ 64)

part_word_fits : (part : Part) (a word : ℕ) → IsPart part → word_in part a ≡ Some word → IsWordAt a word
part_word_fits part a word is e =
    let has = has_word part a word e in
    let bytes =
    front_bytes (a - part.start + 4 - (a - part.start)) (drop (a - part.start) part.bytes)
    (rest_bytes (a - part.start) part.bytes (is_bytes part.bytes is.bytes)) in
    let small = number_fits (slice_range part.bytes (a - part.start) (a - part.start + 4)) bytes in
    (omega (arith, small, has.is), has.aligned, omega (arith, has.aligned, has.to, is.aligned, is.whole, is.within))

pub word_fits : (image : List Part) (a word : ℕ) → IsImage image → word_of image a ≡ Some word → IsWordAt a word
word_fits image a word is e =
    let of = part_of_word image a word e in
    part_word_fits of.0 a word (subst IsPart of.1.2 (is.parts of.1.0 of.0 of.1.1)) of.2
