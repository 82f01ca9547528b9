-- Sums of two streams that were worked out by hand, each beside what a wrong definition would say.
use Rattle.std.proofs.Common.{◌≡◌, ℕ, true, false, List, [], ◌∷◌, codes, refl}
use Rattle.etm_types.specs.Settings.{Sizes}
use Rattle.etm_types.specs.declared.context.Ctx.{Ctx}
use Rattle.etm_types.specs.declared.item.Item.{Item}
use Rattle.etm_types.specs.declared.item.Item.TheVariants.{Exc, Gap, Instr, On, Stop, Unknown}
use Rattle.path_text.specs.Lines.{in_base}
use Rattle.program_image.specs.Part.{Part}
use Rattle.count_streams.specs.Counted.{counted, counts_lines, marks_lines, number_lines}
use Rattle.count_streams.specs.Pairs.{pairs_of}

-- three words from 1000 on: the second is a conditional branch
code : List Part
code = record { start = 0x1000; bytes = 0x1f ∷ 0x20 ∷ 0x03 ∷ 0xd5 ∷ 0x40 ∷ 0 ∷ 0 ∷ 0x54 ∷ 0x1f ∷ 0x20 ∷ 0x03 ∷ 0xd5 ∷ [] } ∷ []

low : Ctx
low = record { el = 0; ns = false; vmid = 0; cid = 0 }

high : Ctx
high = record { el = 1; ns = true; vmid = 2; cid = 3 }

-- of the streams 10 and 12, in the order in which they came; the contexts do not count, nor where an exception returns to
both : List (ℕ × Item)
both =
    (0x10, On) ∷ (0x12, On) ∷ (0x10, Instr 0x1000 low false) ∷ (0x12, Instr 0x1000 high false) ∷ (0x12, Instr 0x1004 high true)
    ∷ (0x10, Instr 0x1004 low false) ∷ (0x10, Instr 0x1008 low false) ∷ (0x12, Exc 14 0x1000) ∷ (0x12, Unknown) ∷ (0x10, Gap)
    ∷ (0x10, Stop) ∷ (0x10, Exc 14 0x1004) ∷ []

-- two words from 1000 on: the second is a BLR
calls : List Part
calls = record { start = 0x1000; bytes = 0x1f ∷ 0x20 ∷ 0x03 ∷ 0xd5 ∷ 0x20 ∷ 0 ∷ 0x3f ∷ 0xd6 ∷ [] } ∷ []

-- the BLR of 10 went to 1000, and that of 12 to 8000, where an exception was taken at once; behind a gap it is not known where it went
woven : List (ℕ × Item)
woven =
    (0x10, On) ∷ (0x10, Instr 0x1000 low false) ∷ (0x10, Instr 0x1004 low false) ∷ (0x12, On) ∷ (0x12, Instr 0x1004 high false)
    ∷ (0x12, Exc 14 0x8000) ∷ (0x10, Instr 0x1000 low false) ∷ (0x10, Instr 0x1004 low false) ∷ (0x12, Stop) ∷ (0x10, Gap)
    ∷ (0x10, Instr 0x1004 low false) ∷ []

-- in the order in which the second of each came
pairs_of_woven : pairs_of calls woven ≡ (0x1004, 0x8000) ∷ (0x1004, 0x1000) ∷ []
unfolding calls woven
pairs_of_woven = refl

module _ (s : Sizes) where
  -- those of a word stand with it, by where it went
  sum_of_woven : (counted calls s).sums woven
      ≡ codes "at 1000 2\n" ∷ codes "at 1004 4\n" ∷ codes "to 1004 1000 1\n" ∷ codes "to 1004 8000 1\n" ∷ codes "on 2\n" ∷ codes "gap 1\n"
      ∷ codes "stop 1\n" ∷ codes "exc irq 1\n" ∷ []
  unfolding in_base calls woven
  sum_of_woven = refl

  -- one text of both: of words by their addresses, `at` before `taken`, and then of what has no address
  sum_of_both : (counted code s).sums both
      ≡ codes "at 1000 2\n" ∷ codes "at 1004 2\n" ∷ codes "taken 1004 1\n" ∷ codes "at 1008 1\n" ∷ codes "on 2\n" ∷ codes "? 1\n"
      ∷ codes "gap 1\n" ∷ codes "stop 1\n" ∷ codes "exc irq 2\n" ∷ []
  unfolding in_base code both
  sum_of_both = refl

  sum_of_nothing : (counted code s).sums [] ≡ []
  unfolding code
  sum_of_nothing = refl

  -- no line comes with a byte
  nothing_gained : (counted code s).gains 0x10 [] 0 []
  nothing_gained = refl

-- the line of pairs that are not kept stands between words and marks
others_between :
    counts_lines calls (record { visits = 0 ∷ 2 ∷ []; taken = 0 ∷ 0 ∷ []; marks = 1 ∷ 0 ∷ 5 ∷ [] }) (record { entries = []; more = 3 })
    ≡ codes "at 1004 2\n" ∷ codes "to more 3\n" ∷ codes "on 1\n" ∷ codes "gap 5\n" ∷ []
unfolding in_base calls
others_between = refl

-- no pair begins where no word is
none_from_nowhere : pairs_of calls ((0x10, Instr 0x2000 low false) ∷ (0x10, Instr 0x1000 low false) ∷ []) ≡ []
unfolding calls
none_from_nowhere = refl

-- nor at another item, and a gap is entered nowhere
of_other_items :
    pairs_of calls ((0x10, Instr 0x1004 low false) ∷ (0x10, Unknown) ∷ (0x10, Exc 14 0x1004) ∷ (0x10, Instr 0x1004 low true) ∷ (0x10, Exc 14 0x1000)
    ∷ (0x10, Instr 0x1004 low false) ∷ (0x10, Instr 0x1004 low false) ∷ (0x10, On) ∷ [])
    ≡ (0x1004, 0x1000) ∷ (0x1004, 0x1004) ∷ []
unfolding calls
of_other_items = refl

-- ---- near misses

-- a line of a word is no line where its number is 0
no_line_of_none : number_lines (codes "at 1008") 0 ≡ codes "at 1008 0\n" ∷ [] → ⊥
no_line_of_none e = cc

-- a line with each byte
no_line_of_a_byte : (s : Sizes) → (counted code s).gains 0x10 [] 0 (codes "01 1000 0 s 0 0\n" ∷ []) → ⊥
no_line_of_a_byte s e = cc

-- marks begin with `on`
gaps_are_not_first : marks_lines 0 (1 ∷ []) ≡ codes "gap 1\n" ∷ [] → ⊥
unfolding in_base
gaps_are_not_first e = cc

-- a pair of two streams
no_pair_of_two : pairs_of calls ((0x10, Instr 0x1004 low false) ∷ (0x12, Instr 0x1000 low false) ∷ []) ≡ (0x1004, 0x1000) ∷ [] → ⊥
unfolding calls
no_pair_of_two e = cc

-- a pair of a branch and what comes behind a gap
no_pair_over_a_gap : pairs_of calls ((0x10, Instr 0x1004 low false) ∷ (0x10, Gap) ∷ (0x10, Instr 0x1000 low false) ∷ []) ≡ (0x1004, 0x1000) ∷ [] → ⊥
unfolding calls
no_pair_over_a_gap e = cc

-- a pair of an instruction that is no such branch
no_pair_of_a_nop : pairs_of calls ((0x10, Instr 0x1000 low false) ∷ (0x10, Instr 0x1004 low false) ∷ []) ≡ (0x1000, 0x1004) ∷ [] → ⊥
unfolding calls
no_pair_of_a_nop e = cc
