-- Texts of images, from their bytes on, worked out by hand: the parts that they spell, or the first line that has a fault, and its word.
use Rattle.std.proofs.Common.{◌≡◌, ℕ, List, [], ◌∷◌, ◌++◌, Ok, Err, refl, ap, arith}
use Rattle.std.specs.Prelude.{codes, replicate, get_or, length, map, Result}
use Rattle.std.specs.List.{concat}
use Rattle.std.specs.Str.{chars, is_utf8}
use Rattle.std.specs.Str.Lines.{lines}
use Rattle.hex.specs.Hex.{decode_pairs}
use Rattle.program_image.specs.Faults.{why_number, why_text}
use Rattle.program_image.specs.ImageText.{add_lines, image_of, sorted}
use Rattle.program_image.specs.Part.{Part}
use Rattle.program_image.specs.declared.fault.ImageWhy.{ImageWhy}
use Rattle.program_image.specs.declared.fault.ImageWhy.TheVariants.{Syntax, Unaligned, Overlap, Wraps, TooLarge, TooLong}

abbrev part : ℕ → List ℕ → Part
part start bytes = record { start = start; bytes = bytes }

-- ---- a text with all that one may have

-- Comments, and lines without words; a part at a higher address before one at a lower, and one without bytes; words of two, of four and of
-- more digits, of either case, parted by spaces and tabs, and lines of one word and of two; CR before LF; the highest address; no LF at the end.
abbrev full : List ℕ
full =
    codes "# two parts\n\n@2000\r\n1F2003D5 00000014\n\t1f 2003  d5\r\n \t\n  # lower\n@1000\n000102030405060708090a0b\n0c0d0e0f\n@3000\n@FFFFFFFFFFFFFFFC\n00000054"

abbrev full_parts : List Part
full_parts =
    part 0x1000 (0 ∷ 1 ∷ 2 ∷ 3 ∷ 4 ∷ 5 ∷ 6 ∷ 7 ∷ 8 ∷ 9 ∷ 10 ∷ 11 ∷ 12 ∷ 13 ∷ 14 ∷ 15 ∷ [])
    ∷ part 0x2000 (0x1f ∷ 0x20 ∷ 0x03 ∷ 0xd5 ∷ 0x00 ∷ 0x00 ∷ 0x00 ∷ 0x14 ∷ 0x1f ∷ 0x20 ∷ 0x03 ∷ 0xd5 ∷ [])
    ∷ part 0xfffffffffffffffc (0x00 ∷ 0x00 ∷ 0x00 ∷ 0x54 ∷ []) ∷ []

pub full_text : image_of full ≡ Ok full_parts
unfolding image_of decode_pairs is_utf8 chars lib.Utf8.encode
full_text = refl

pub no_text : image_of [] ≡ Ok []
unfolding image_of is_utf8 chars lib.Utf8.encode
no_text = refl

-- a part begins as well where another one ends, and the parts stay two
pub parts_that_touch : image_of (codes "@1004\n00000014\n@1000\n1f2003d5\n")
    ≡ Ok (part 0x1000 (0x1f ∷ 0x20 ∷ 0x03 ∷ 0xd5 ∷ []) ∷ part 0x1004 (0x00 ∷ 0x00 ∷ 0x00 ∷ 0x14 ∷ []) ∷ [])
unfolding image_of decode_pairs is_utf8 chars lib.Utf8.encode
parts_that_touch = refl

-- near misses: the parts in the order of the text, and one without bytes
abbrev starts : Result (List Part) (ℕ × ImageWhy) → List ℕ
starts (Ok parts) = map (λ (p : Part). p.start) parts
starts (Err fault) = []

pub not_in_the_order_of_the_text : starts (image_of full) ≡ 0x2000 ∷ 0x1000 ∷ 0xfffffffffffffffc ∷ [] → ⊥
not_in_the_order_of_the_text e =
    let here = ap (λ r. get_or (starts r) 0 0) full_text in let there = ap (λ (l : List ℕ). get_or l 0 0) e in absurd (omega (arith, here, there))

pub none_without_bytes : starts (image_of full) ≡ 0x1000 ∷ 0x2000 ∷ 0x3000 ∷ 0xfffffffffffffffc ∷ [] → ⊥
none_without_bytes e =
    let here = ap (λ r. length (starts r)) full_text in let there = ap (λ (l : List ℕ). length l) e in absurd (omega (arith, here, there))

-- a line of bytes may begin with a letter, though `@` comes before all letters
pub letters_first : image_of (codes "@1000\nd503201f\nF0e1D2c3\n") ≡ Ok (part 0x1000 (0xd5 ∷ 0x03 ∷ 0x20 ∷ 0x1f ∷ 0xf0 ∷ 0xe1 ∷ 0xd2 ∷ 0xc3 ∷ []) ∷ [])
unfolding image_of decode_pairs is_utf8 chars lib.Utf8.encode
letters_first = refl

-- no other sign begins a comment
pub other_signs : map (λ line. image_of (codes "@1000\n" ++ line)) (codes "!00" ∷ codes "\"00" ∷ codes "$00" ∷ codes "#00" ∷ [])
    ≡ Err (2, Syntax) ∷ Err (2, Syntax) ∷ Err (2, Syntax) ∷ Ok [] ∷ []
unfolding image_of decode_pairs is_utf8 chars lib.Utf8.encode
other_signs = refl

-- a text of 64 MiB is read, and a longer one is not
pub longest_text : (text : List ℕ) → length text ≡ 67108864 → image_of text ≡ sorted (add_lines 1 [] (lines text))
unfolding image_of
longest_text text long = rw long refl

pub longer_text : (text : List ℕ) → length text ≡ 67108865 → image_of text ≡ Err (0, TooLong)
unfolding image_of
longer_text text long = rw long refl

-- ---- each fault, with its line

-- a word of no form, before a line with another fault
pub a_word_of_no_form : image_of (codes "@1000\n1f2003d5\nword\n@2\n") ≡ Err (3, Syntax)
unfolding image_of decode_pairs is_utf8 chars lib.Utf8.encode
a_word_of_no_form = refl

pub bytes_before_a_part : image_of (codes "\n1f2003d5\n@1000\n") ≡ Err (2, Syntax)
unfolding image_of decode_pairs is_utf8 chars lib.Utf8.encode
bytes_before_a_part = refl

pub halves_of_bytes : image_of (codes "@1000\n1f2 003d5\n") ≡ Err (2, Syntax)
unfolding image_of decode_pairs is_utf8 chars lib.Utf8.encode
halves_of_bytes = refl

-- an address has 1 to 16 digits, behind `@` at once, and no word behind it
pub no_address : image_of (codes "@\n") ≡ Err (1, Syntax)
unfolding image_of decode_pairs is_utf8 chars lib.Utf8.encode
no_address = refl

pub address_behind_a_space : image_of (codes "@ 1000\n") ≡ Err (1, Syntax)
unfolding image_of decode_pairs is_utf8 chars lib.Utf8.encode
address_behind_a_space = refl

pub address_of_seventeen_digits : image_of (codes "@00000000000001000\n") ≡ Err (1, Syntax)
unfolding image_of decode_pairs is_utf8 chars lib.Utf8.encode
address_of_seventeen_digits = refl

pub comment_behind_an_address : image_of (codes "@1000 # here\n") ≡ Err (1, Syntax)
unfolding image_of decode_pairs is_utf8 chars lib.Utf8.encode
comment_behind_an_address = refl

-- a CR before no LF, or a second one, is part of its word
pub return_at_the_end : image_of (codes "@1000\n1f2003d5\r") ≡ Err (2, Syntax)
unfolding image_of decode_pairs is_utf8 chars lib.Utf8.encode
return_at_the_end = refl

pub two_returns : image_of (codes "@1000\r\r\n") ≡ Err (1, Syntax)
unfolding image_of decode_pairs is_utf8 chars lib.Utf8.encode
two_returns = refl

-- what is no UTF-8 is of no form, in a comment too
pub no_utf8_in_a_comment : image_of (codes "@1000\n#" ++ 255 ∷ 10 ∷ []) ≡ Err (2, Syntax)
unfolding image_of decode_pairs is_utf8 chars lib.Utf8.encode
no_utf8_in_a_comment = refl

pub utf8_in_a_comment : image_of (codes "@1000\n#" ++ 195 ∷ 164 ∷ 10 ∷ codes "@2\n") ≡ Err (3, Unaligned)
unfolding image_of decode_pairs is_utf8 chars lib.Utf8.encode
utf8_in_a_comment = refl

pub unaligned_address : image_of (codes "@1000\n# odd\n@1002\nword\n") ≡ Err (3, Unaligned)
unfolding image_of decode_pairs is_utf8 chars lib.Utf8.encode
unaligned_address = refl

pub six_bytes : image_of (codes "@1000\n1f2003d5\n1f20 03d50000\n") ≡ Err (3, Unaligned)
unfolding image_of decode_pairs is_utf8 chars lib.Utf8.encode
six_bytes = refl

pub past_the_last_address : image_of (codes "@fffffffffffffffc\n1f2003d5\n00000014\n") ≡ Err (3, Wraps)
unfolding image_of decode_pairs is_utf8 chars lib.Utf8.encode
past_the_last_address = refl

-- the part that goes on into another, not the one that was begun last of all
pub into_another_part : image_of (codes "@1004\n1f2003d5\n@1000\n00000014\n00000014\n") ≡ Err (5, Overlap)
unfolding image_of decode_pairs is_utf8 chars lib.Utf8.encode
into_another_part = refl

-- 64 parts are the most, though none has a byte
pub most_parts : image_of (concat (replicate 64 (codes "@8\n"))) ≡ Ok []
unfolding image_of decode_pairs is_utf8 chars lib.Utf8.encode
most_parts = refl

pub a_part_more : image_of (concat (replicate 65 (codes "@8\n"))) ≡ Err (65, TooLarge)
unfolding image_of decode_pairs is_utf8 chars lib.Utf8.encode
a_part_more = refl

-- ---- the words and numbers of the faults

pub words_of_faults :
    map why_text (Syntax ∷ Unaligned ∷ Overlap ∷ Wraps ∷ TooLarge ∷ TooLong ∷ [])
    ≡ codes "syntax" ∷ codes "unaligned" ∷ codes "overlap" ∷ codes "wraps" ∷ codes "too-large" ∷ codes "too-long" ∷ []
words_of_faults = refl

pub numbers_of_faults : map why_number (Syntax ∷ Unaligned ∷ Overlap ∷ Wraps ∷ TooLarge ∷ TooLong ∷ []) ≡ 1 ∷ 2 ∷ 3 ∷ 4 ∷ 5 ∷ 6 ∷ []
numbers_of_faults = refl
