-- Lines that are written out in full, and texts that are none.
use Rattle.std.proofs.Common.{◌≡◌, ℕ, List, [], ◌∷◌, ◌++◌, length, Some, None, refl, ap, ◌∙◌, arith}
use Rattle.std.specs.Prelude.{codes, slice_index}
use Rattle.path_text.proofs.DigitLemmas.{decimal_step}
use Rattle.path_text.specs.Lines.{in_base}
use Rattle.program_image.specs.declared.fault.ImageWhy.TheVariants.{Unaligned, TooLong}
use Rattle.answer_lines.specs.ElfLine.{elf_line}
use Rattle.answer_lines.specs.ImageLine.{image_line}
use Rattle.answer_lines.specs.SummaryLine.{summary_line}
use Rattle.answer_lines.specs.UsageLine.{usage_line}
use Rattle.elf_image.specs.declared.fault.ElfWhy.TheVariants.{Header, Overlap, Segment}

-- ---- summaries

-- one stream, one round
pub of_0 : summary_line 0 None 7 ≡ codes "selftest 0: 1 streams, 1 rounds, 7 lines, same" ++ 10 ∷ []
unfolding in_base
of_0 = refl

-- all streams, one round; and then one stream again, two rounds
pub of_110 : summary_line 110 None 777 ≡ codes "selftest 110: 111 streams, 1 rounds, 777 lines, same" ++ 10 ∷ []
unfolding in_base
of_110 = refl

pub of_111 : summary_line 111 None 11 ≡ codes "selftest 111: 1 streams, 2 rounds, 11 lines, same" ++ 10 ∷ []
unfolding in_base
of_111 = refl

pub of_3441 : summary_line 3441 None 138 ≡ codes "selftest 3441: 1 streams, 32 rounds, 138 lines, same" ++ 10 ∷ []
unfolding in_base
of_3441 = refl

-- the highest number, whose digits are taken in pairs
digits_of_999 : in_base 10 999 ≡ codes "999"
unfolding in_base
digits_of_999 = refl

digits_of_100 : in_base 10 100 ≡ codes "100"
unfolding in_base
digits_of_100 = refl

digits_of_901 : in_base 10 901 ≡ codes "901"
unfolding in_base
digits_of_901 = refl

digits_of_3831 : in_base 10 3831 ≡ codes "3831"
unfolding in_base
digits_of_3831 = refl

pub of_99999 : summary_line 99999 None 383100 ≡ codes "selftest 99999: 100 streams, 901 rounds, 383100 lines, same" ++ 10 ∷ []
of_99999 =
    let whole_number : in_base 10 99999 ≡ codes "99999" =
    decimal_step 99999 (omega arith) ∙ ap (λ (l : List ℕ). l ++ (57 ∷ 57 ∷ [])) digits_of_999 in
    let all_lines : in_base 10 383100 ≡ codes "383100" =
    decimal_step 383100 (omega arith) ∙ ap (λ (l : List ℕ). l ++ (48 ∷ 48 ∷ [])) digits_of_3831 in
    rw (whole_number, digits_of_100, digits_of_901, all_lines) refl

-- frames that are cut: in the middle, and before the first
pub cut_at_31 : summary_line 0 (Some 31) 2 ≡ codes "selftest 0: 1 streams, 1 rounds, 2 lines, cut" ++ 10 ∷ []
unfolding in_base
cut_at_31 = refl

pub cut_at_0 : summary_line 0 (Some 0) 0 ≡ codes "selftest 0: 1 streams, 1 rounds, 0 lines, cut" ++ 10 ∷ []
unfolding in_base
cut_at_0 = refl

-- ---- near misses

-- the word tells what was asked, not whether bytes were left out
cut_behind_the_end : summary_line 0 (Some 32) 7 ≡ codes "selftest 0: 1 streams, 1 rounds, 7 lines, same" ++ 10 ∷ [] → ⊥
unfolding in_base
cut_behind_the_end e = absurd (omega (arith, ap length e))

-- it ends with LF, and with one
not_without_feed : summary_line 0 None 7 ≡ codes "selftest 0: 1 streams, 1 rounds, 7 lines, same" → ⊥
unfolding in_base
not_without_feed e = absurd (omega (arith, ap length e))

not_with_two : summary_line 0 None 7 ≡ codes "selftest 0: 1 streams, 1 rounds, 7 lines, same" ++ 10 ∷ 10 ∷ [] → ⊥
unfolding in_base
not_with_two e = absurd (omega (arith, ap length e))

-- one is counted as many are
not_as_one : summary_line 0 None 7 ≡ codes "selftest 0: 1 stream, 1 round, 7 lines, same" ++ 10 ∷ [] → ⊥
unfolding in_base
not_as_one e = absurd (omega (arith, ap length e))

-- no round is left out, and no stream
not_from_0 : summary_line 3441 None 138 ≡ codes "selftest 3441: 1 streams, 31 rounds, 138 lines, same" ++ 10 ∷ [] → ⊥
unfolding in_base
not_from_0 e = absurd (omega (arith, ap (λ (l : List ℕ). slice_index l 27) e))

not_one_less : summary_line 110 None 777 ≡ codes "selftest 110: 110 streams, 1 rounds, 777 lines, same" ++ 10 ∷ [] → ⊥
unfolding in_base
not_one_less e = absurd (omega (arith, ap (λ (l : List ℕ). slice_index l 16) e))

-- rounds do not come first
not_turned : summary_line 111 None 11 ≡ codes "selftest 111: 2 rounds, 1 streams, 11 lines, same" ++ 10 ∷ [] → ⊥
unfolding in_base
not_turned e = absurd (omega (arith, ap (λ (l : List ℕ). slice_index l 14) e))

-- ---- the line of usage

pub usage_is : usage_line ≡ codes "usage: etm path|packets|trace|retired|selftest|times" ++ 10 ∷ []
usage_is = refl

-- ---- the line of an ELF file that can't be used

pub bad_header : elf_line Header ≡ codes "elf: header" ++ 10 ∷ []
bad_header = refl

pub bad_segment : elf_line (Segment 41) ≡ codes "elf: segment 41" ++ 10 ∷ []
unfolding in_base
bad_segment = refl

-- headers count from 0
not_from_1 : elf_line (Overlap 0) ≡ codes "elf: overlap 1" ++ 10 ∷ [] → ⊥
unfolding in_base
not_from_1 e = absurd (omega (arith, ap (λ (l : List ℕ). slice_index l 13) e))

-- ---- the line of an image that is bad

pub bad_at_3 : image_line 3 Unaligned ≡ codes "image line 3: unaligned" ++ 10 ∷ []
unfolding in_base
bad_at_3 = refl

pub bad_as_a_whole : image_line 0 TooLong ≡ codes "image line 0: too-long" ++ 10 ∷ []
unfolding in_base
bad_as_a_whole = refl

-- it ends with one LF
not_two_feeds : image_line 3 Unaligned ≡ codes "image line 3: unaligned" ++ 10 ∷ 10 ∷ [] → ⊥
unfolding in_base
not_two_feeds e = absurd (omega (arith, ap length e))
