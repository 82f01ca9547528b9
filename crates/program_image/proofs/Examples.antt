-- Images, lines and faults that were worked out by hand, each beside what a wrong definition would say.
use Rattle.std.proofs.Common.{◌≡◌, ℕ, zero, suc, ◌<◌, ◌^◌, ◌-◌, true, false, List, [], ◌∷◌, Some, None, Ok, Err, refl, arith}
use Rattle.std.specs.Prelude.{codes, replicate, pos, Option}
use Rattle.a64_branches.specs.declared.class.Class.{Class}
use Rattle.a64_branches.specs.declared.class.Class.TheVariants.{Plain, Jump, Cond}
use Rattle.std.specs.Str.{is_utf8}
use Rattle.a64_branches.specs.Classes.{class_of}
use Rattle.hex.specs.Hex.{decode_pairs}
use Rattle.program_image.specs.Part.{Part, word_of}
use Rattle.line_words.specs.Line.{words_in}
use Rattle.program_image.specs.ImageText.{add_bytes, add_line, add_lines, add_words, bytes_of, begin_part, by_address, growth_fault, has_between, image_of}
use Rattle.program_image.specs.Blocks.{behind, class_at}
use Rattle.program_image.specs.Runs.{IsRun, IsRunLength, runs_of}
use Rattle.program_image.specs.declared.run.PlainRun.{PlainRun}
use Rattle.program_image.specs.declared.fault.ImageWhy.TheVariants.{Syntax, Unaligned, Overlap, Wraps, TooLarge}

abbrev nop : List ℕ → List ℕ
nop words = 0x1f ∷ 0x20 ∷ 0x03 ∷ 0xd5 ∷ words

-- B to itself
abbrev here : List ℕ → List ℕ
here words = 0x00 ∷ 0x00 ∷ 0x00 ∷ 0x14 ∷ words

abbrev part : ℕ → List ℕ → Part
part start bytes = record { start = start; bytes = bytes }

-- ---- on one line each: a reason and one that is tested after it

-- an odd count of digits
syntax_before_unaligned : add_words (part 0 [] ∷ []) (codes "1f2" ∷ []) ≡ Err Syntax
syntax_before_unaligned = refl

-- a word after an address that is no multiple of 4
syntax_before_unaligned_address : add_words [] (codes "@2" ∷ codes "2" ∷ []) ≡ Err Syntax
syntax_before_unaligned_address = refl

no_part_before_unaligned : add_bytes [] (0x1f ∷ []) ≡ Err Syntax
no_part_before_unaligned = refl

unaligned_before_wraps : growth_fault [] (part (2 ^ 64 - 4) (nop [])) 2 ≡ Some Unaligned
unaligned_before_wraps = refl

unaligned_before_overlap : growth_fault (part 4 (nop []) ∷ []) (part 0 (nop [])) 2 ≡ Some Unaligned
unaligned_before_overlap = refl

unaligned_before_too_large : growth_fault [] (part 0 []) 16777218 ≡ Some Unaligned
unaligned_before_too_large = refl

unaligned_before_too_many : begin_part (replicate 64 (part 0 [])) 2 ≡ Err Unaligned
unaligned_before_too_many = refl

wraps_before_overlap : growth_fault (part (2 ^ 64 - 4) (nop []) ∷ []) (part (2 ^ 64 - 8) []) 12 ≡ Some Wraps
wraps_before_overlap = refl

wraps_before_too_large : growth_fault [] (part (2 ^ 64 - 4) []) 16777220 ≡ Some Wraps
wraps_before_too_large = refl

overlap_before_too_large : growth_fault (part 4 (nop []) ∷ []) (part 0 []) 16777220 ≡ Some Overlap
overlap_before_too_large = refl

-- ---- the edges of each reason

-- one above a multiple of 4
one_byte_alone : growth_fault [] (part 0 []) 1 ≡ Some Unaligned
one_byte_alone = refl

one_byte_beyond : begin_part [] 0x1001 ≡ Err Unaligned
one_byte_beyond = refl

-- it is bytes that are counted, and not words
one_byte_above_the_most : growth_fault [] (part 0 (0x1f ∷ [])) 16777216 ≡ Some TooLarge
one_byte_above_the_most = refl

at_the_last_address : growth_fault [] (part (2 ^ 64 - 4) []) 4 ≡ None
at_the_last_address = refl

past_the_last_address : growth_fault [] (part (2 ^ 64 - 4) []) 8 ≡ Some Wraps
past_the_last_address = refl

-- 16 MiB with the bytes of all parts
most_bytes_in_all : growth_fault (part 0 (nop []) ∷ []) (part 0x1000 (nop [])) 16777208 ≡ None
most_bytes_in_all = refl

more_bytes_in_all : growth_fault (part 0 (nop []) ∷ []) (part 0x1000 (nop [])) 16777212 ≡ Some TooLarge
more_bytes_in_all = refl

-- parts without bytes count
most_parts_told : begin_part (replicate 63 (part 0 [])) 4 ≡ Ok (part 4 [] ∷ replicate 63 (part 0 []))
most_parts_told = refl

more_parts_told : begin_part (replicate 64 (part 0 [])) 4 ≡ Err TooLarge
more_parts_told = refl

-- parts that touch share no byte
touches_before : has_between 4 8 (part 0 (nop [])) ≡ false
touches_before = refl

touches_after : has_between 4 8 (part 8 (nop [])) ≡ false
touches_after = refl

one_byte_shared : has_between 4 9 (part 8 (nop [])) ≡ true
one_byte_shared = refl

part_within : has_between 0 16 (part 8 (nop [])) ≡ true
part_within = refl

empty_shares_none : has_between 0 16 (part 8 []) ≡ false
empty_shares_none = refl

-- ---- lines

-- each word has whole bytes
half_bytes : bytes_of (codes "1f2" ∷ codes "003" ∷ []) ≡ None
half_bytes = refl

-- a comment begins its line, but for spaces
comment : add_words [] (words_in (codes "  #@2")) ≡ Ok []
comment = refl

comment_after_digits : add_words (part 0 [] ∷ []) (words_in (codes "1 #")) ≡ Err Syntax
comment_after_digits = refl

no_utf8_in_a_comment : (bytes : List ℕ) → is_utf8 (35 ∷ bytes) ≡ false → add_line [] (35 ∷ bytes) ≡ Err Syntax
no_utf8_in_a_comment bytes bad = rw bad refl

-- lines count from 1, those without words too
second_line : is_utf8 [] ≡ true → is_utf8 (codes "1") ≡ true → add_lines 1 [] ([] ∷ codes "1" ∷ []) ≡ Err (2, Syntax)
second_line empty digit = rw (empty, digit) refl

-- parts by their addresses, and none without bytes
in_order : by_address (part 0x1000 (nop []) ∷ part 0x3000 [] ∷ part 0x2000 (here []) ∷ []) ≡ part 0x1000 (nop []) ∷ part 0x2000 (here []) ∷ []
in_order = refl

put_before : by_address (part 0x2000 (here []) ∷ part 0x1000 (nop []) ∷ []) ≡ part 0x1000 (nop []) ∷ part 0x2000 (here []) ∷ []
put_before = refl

one_byte_is_some : by_address (part 0x1000 (0x1f ∷ []) ∷ []) ≡ part 0x1000 (0x1f ∷ []) ∷ []
one_byte_is_some = refl

-- behind one that begins at the same address, of which no image has two
put_behind : by_address (part 0x1000 (nop []) ∷ part 0x1000 (here []) ∷ []) ≡ part 0x1000 (nop []) ∷ part 0x1000 (here []) ∷ []
put_behind = refl

-- ---- texts

-- two lines are a part of one word
text_of_one_word : is_utf8 (codes "@1000") ≡ true → is_utf8 (codes "1f2003d5") ≡ true → image_of (codes "@1000\n1f2003d5\n") ≡ Ok (part 0x1000 (nop []) ∷ [])
unfolding image_of decode_pairs
text_of_one_word address word = rw (address, word) refl

-- half a word
text_of_half_a_word : is_utf8 (codes "@1000") ≡ true → is_utf8 (codes "1f20") ≡ true → image_of (codes "@1000\n1f20") ≡ Err (2, Unaligned)
unfolding image_of decode_pairs
text_of_half_a_word address half = rw (address, half) refl

-- ---- words and runs

-- two parts that touch; the last address, and address 0
abbrev code : List Part
code = part 0 (nop (here [])) ∷ part 0x1000 (nop []) ∷ part 0x1004 (nop (here [])) ∷ part (2 ^ 64 - 8) (nop (nop [])) ∷ []

lowest_byte_first : word_of code 0x1000 ≡ Some 0xd503201f
lowest_byte_first = refl

within_a_word : word_of code 0x1002 ≡ None
within_a_word = refl

next_to_a_word : word_of code 0x1001 ≡ None
next_to_a_word = refl

after_the_part : word_of code 0x100c ≡ None
after_the_part = refl

over_the_end : behind (2 ^ 64 - 8) 3 ≡ 4
over_the_end = refl

two_plain : (k : ℕ) → k < 2 → class_at code (behind 0x1000 k) ≡ Some Plain
unfolding class_of
two_plain zero below = refl
two_plain (suc zero) below = refl
two_plain (suc (suc k)) below = absurd (omega (arith, below))

over_parts_that_touch : IsRunLength code 0x1000 2
unfolding class_of
over_parts_that_touch = (two_plain, (λ e. cc))

-- the run does not end with its part
not_of_one_part : IsRunLength code 0x1000 1 → ⊥
unfolding class_of
not_of_one_part run = run.1 refl

three_plain : (k : ℕ) → k < 3 → class_at code (behind (2 ^ 64 - 8) k) ≡ Some Plain
unfolding class_of
three_plain zero below = refl
three_plain (suc zero) below = refl
three_plain (suc (suc zero)) below = refl
three_plain (suc (suc (suc k))) below = absurd (omega (arith, below))

over_the_last_address : IsRunLength code (2 ^ 64 - 8) 3
unfolding class_of
over_the_last_address = (three_plain, (λ e. cc))

not_to_the_last_address : IsRunLength code (2 ^ 64 - 8) 2 → ⊥
unfolding class_of
not_to_the_last_address run = run.1 refl

abbrev run : ℕ → Option Class → PlainRun
run plain class = record { plain = plain; class = class }

-- the run from each of four words on: the branch ends those before it, and the last word is one more of the run behind it
runs_before_a_branch : runs_of (nop (nop (here (nop [])))) (run 5 None)
    ≡ run 2 (Some (Jump (pos 0) false)) ∷ run 1 (Some (Jump (pos 0) false)) ∷ run 0 (Some (Jump (pos 0) false)) ∷ run 6 None ∷ []
unfolding class_of
runs_before_a_branch = refl

-- B.EQ 264 bytes on: its bytes stand lowest first
bytes_of_a_word : runs_of (0x40 ∷ 0x08 ∷ 0x00 ∷ 0x54 ∷ []) (run 0 None) ≡ run 0 (Some (Cond (pos 264))) ∷ []
unfolding class_of
bytes_of_a_word = refl

ends_at_the_branch : IsRun code 0x1000 (run 2 (Some (Jump (pos 0) false)))
unfolding class_of
ends_at_the_branch = (over_parts_that_touch, refl)

not_where_no_word_begins : IsRun code 0x1000 (run 2 None) → ⊥
unfolding class_of
not_where_no_word_begins is = let e : Some (Jump (pos 0) false) ≡ None = is.1 in cc

not_at_a_call : IsRun code 0x1000 (run 2 (Some (Jump (pos 0) true))) → ⊥
unfolding class_of
not_at_a_call is = let e : Some (Jump (pos 0) false) ≡ Some (Jump (pos 0) true) = is.1 in cc
