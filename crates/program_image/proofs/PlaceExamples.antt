-- Parts of an image, the places of its words, and what stands behind plain words, each beside near misses.
use Rattle.std.proofs.Common.{◌≡◌, ℕ, true, false, List, [], ◌∷◌, map, Some, None, ap, refl, arith}
use Rattle.std.proofs.lemmas.List.Elements.{All-cons, All-head, All-nil}
use Rattle.std.specs.Prelude.{◌^◌, ◌-◌, ◌<◌, ◌≤◌, All, pos}
use Rattle.a64_branches.specs.declared.class.Class.TheVariants.{Plain, Jump, Cond, Isb, Ind, Eret, Odd}
use Rattle.program_image.specs.Blocks.{EndsAs, HasGap}
use Rattle.program_image.specs.Part.{InOrder, IsPart, Part}
use Rattle.program_image.specs.Places.{addresses_from, word_addresses, word_count, words_before, words_below}
use Rattle.program_image.specs.Runs.{class_behind, no_word, run_of}
use Rattle.program_image.specs.declared.block.BlockEnd.{BlockEnd}
use Rattle.program_image.specs.declared.block.BlockEnd.TheVariants as block_end
use Rattle.program_image.specs.declared.run.WordBehind.TheVariants as word_behind

abbrev word : List ℕ → List ℕ
word bytes = 0x1f ∷ 0x20 ∷ 0x03 ∷ 0xd5 ∷ bytes

abbrev part : ℕ → List ℕ → Part
part start bytes = record { start = start; bytes = bytes }

-- ---- parts

abbrev IsByte : ℕ → Type 0
IsByte byte = byte < 256

two_bytes : All IsByte (0 ∷ 255 ∷ [])
two_bytes = All-cons IsByte 0 (255 ∷ []) (omega arith) (All-cons IsByte 255 [] (omega arith) (All-nil IsByte))

-- the last four bytes of all addresses
pub at_the_end : IsPart (part (2 ^ 64 - 4) (0 ∷ 255 ∷ 0 ∷ 255 ∷ []))
at_the_end = record {
  aligned = refl;
  whole = refl;
  some = omega arith;
  within = omega arith;
  bytes = All-cons IsByte 0 (255 ∷ 0 ∷ 255 ∷ []) (omega arith) (All-cons IsByte 255 (0 ∷ 255 ∷ []) (omega arith) two_bytes);
}

pub not_past_the_end : IsPart (part (2 ^ 64 - 4) (word (word []))) → ⊥
not_past_the_end is = absurd (omega (arith, is.within))

pub not_at_1001 : IsPart (part 0x1001 (word [])) → ⊥
not_at_1001 is = let e = is.aligned in cc

pub not_of_5_bytes : IsPart (part 0x1000 (0x1f ∷ word [])) → ⊥
not_of_5_bytes is = let e = is.whole in cc

pub not_of_none : IsPart (part 0x1000 []) → ⊥
not_of_none is = absurd (omega (arith, is.some))

pub not_of_256 : IsPart (part 0x1000 (256 ∷ 0 ∷ 0 ∷ 0 ∷ [])) → ⊥
not_of_256 is = let below : 256 < 256 = All-head IsByte 256 (0 ∷ 0 ∷ 0 ∷ []) is.bytes in absurd (omega (arith, below))

-- ---- their places

-- two words and one
abbrev pub three : List Part
three = part 0x1000 (word (word [])) ∷ part 0x2000 (word []) ∷ []

pub addresses : word_addresses three ≡ 0x1000 ∷ 0x1004 ∷ 0x2000 ∷ []
addresses = refl

pub none_from : addresses_from 0x1000 0 ≡ []
none_from = refl

pub below : map (words_below three) (0 ∷ 0x1000 ∷ 0x1003 ∷ 0x1004 ∷ 0x1007 ∷ 0x1008 ∷ 0x2000 ∷ 0x2003 ∷ 0x2004 ∷ 0x9000 ∷ []) ≡ 0 ∷ 0 ∷ 0 ∷ 1 ∷ 1 ∷ 2 ∷ 2 ∷ 2 ∷ 3 ∷ 3 ∷ []
below = refl

pub three_words : word_count three ≡ 3
three_words = refl

pub up_to_the_last_address : word_count (part (2 ^ 64 - 4) (word []) ∷ []) ≡ 1
up_to_the_last_address = refl

pub before_each_part : words_before 5 three ≡ 5 ∷ 7 ∷ 8 ∷ []
before_each_part = refl

-- each part ends before the next begins, or where it does
pub in_order : InOrder (part 0x1000 (word []) ∷ part 0x1004 (word []) ∷ [])
in_order = (
  All-cons (λ (next : Part). 0x1004 ≤ next.start) (part 0x1004 (word [])) [] (omega arith) (All-nil (λ (next : Part). 0x1004 ≤ next.start)),
  (All-nil (λ (next : Part). 0x1008 ≤ next.start), tt),
)

pub not_over_one_another : InOrder (part 0x1000 (word []) ∷ part 0x1003 (word []) ∷ []) → ⊥
not_over_one_another is = let apart : 0x1004 ≤ 0x1003 = All-head (λ (next : Part). 0x1004 ≤ next.start) (part 0x1003 (word [])) [] is.0 in absurd (omega (arith, apart))

-- ---- what stands behind plain words

pub classes_behind : map class_behind
    (word_behind.NoWord ∷ word_behind.PlainWord ∷ word_behind.Branch (pos 8) ∷ word_behind.BranchWithLink (pos 8) ∷ word_behind.BranchConditionally (pos 8) ∷ [])
    ≡ None ∷ Some Plain ∷ Some (Jump (pos 8) false) ∷ Some (Jump (pos 8) true) ∷ Some (Cond (pos 8)) ∷ []
classes_behind = refl

pub other_classes_behind : map class_behind
    (word_behind.Barrier ∷ word_behind.BranchToRegister ∷ word_behind.BranchWithLinkToRegister ∷ word_behind.ExceptionReturn ∷ word_behind.NotRead ∷ [])
    ≡ Some Isb ∷ Some (Ind false) ∷ Some (Ind true) ∷ Some Eret ∷ Some Odd ∷ []
other_classes_behind = refl

pub kept_run : run_of (record { plain = 7; behind = word_behind.Barrier }) ≡ record { plain = 7; class = Some Isb }
kept_run = refl

pub run_of_no_word : no_word ≡ record { plain = 0; class = None }
run_of_no_word = refl

abbrev end_address : BlockEnd → ℕ
end_address (block_end.NoCode address) = address
end_address (block_end.Odd address) = address
end_address (block_end.P0 address class) = address

pub ends : EndsAs None 0x1008 (block_end.NoCode 0x1008) × EndsAs (Some Odd) 0x1008 (block_end.Odd 0x1008) × EndsAs (Some Isb) 0x1008 (block_end.P0 0x1008 Isb)
ends = (refl, refl, refl)

pub no_end_at_a_plain_word : EndsAs (Some Plain) 0x1008 (block_end.P0 0x1008 Plain) → ⊥
no_end_at_a_plain_word is = is

pub not_the_end_elsewhere : EndsAs (Some Isb) 0x1008 (block_end.P0 0x1004 Isb) → ⊥
not_the_end_elsewhere is = let a = ap end_address is in absurd (omega (arith, a))

pub gap_behind : HasGap three
gap_behind = record { address = 0x1008; within = omega arith; aligned = refl; none = refl }
