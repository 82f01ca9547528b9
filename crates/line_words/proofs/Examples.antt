-- Words and numbers that were worked out by hand, and near misses.
use Rattle.std.proofs.Common.{◌≡◌, [], ◌∷◌, Some, None, refl}
use Rattle.std.specs.Prelude.{codes}
use Rattle.hex.specs.Hex.{decode_pairs}
use Rattle.line_words.specs.Line.{decimal_of, number_of, short_number_of, two_digits_of, words_in}

words_by_spaces_and_tabs : words_in (9 ∷ 97 ∷ 32 ∷ 32 ∷ 98 ∷ 99 ∷ 32 ∷ []) ≡ (97 ∷ []) ∷ (98 ∷ 99 ∷ []) ∷ []
words_by_spaces_and_tabs = refl

-- LF and CR are bytes of a word
not_by_line_ends : words_in (97 ∷ 10 ∷ 98 ∷ 13 ∷ []) ≡ (97 ∷ 10 ∷ 98 ∷ 13 ∷ []) ∷ []
not_by_line_ends = refl

-- nor is any other byte below or beside the space a blank
not_by_other_bytes : words_in (97 ∷ 0 ∷ 8 ∷ 11 ∷ 31 ∷ 33 ∷ []) ≡ (97 ∷ 0 ∷ 8 ∷ 11 ∷ 31 ∷ 33 ∷ []) ∷ []
not_by_other_bytes = refl

blanks_alone : words_in (32 ∷ 9 ∷ []) ≡ []
blanks_alone = refl

-- ---- hex numbers

one_hex_digit : number_of (codes "c") ≡ Some 12
unfolding decode_pairs
one_hex_digit = refl

sixteen_digits : number_of (codes "000000000000fF0c") ≡ Some 0xff0c
unfolding decode_pairs
sixteen_digits = refl

seventeen_digits : number_of (codes "00000000000000004") ≡ None
seventeen_digits = refl

no_digits : number_of [] ≡ None
no_digits = refl

no_hex_digit : number_of (codes "fg") ≡ None
unfolding decode_pairs
no_hex_digit = refl

eight_digits : short_number_of (codes "0000000F") ≡ Some 15
unfolding decode_pairs
eight_digits = refl

nine_digits : short_number_of (codes "00000000F") ≡ None
nine_digits = refl

two_digits : two_digits_of (codes "6f") ≡ Some 111
unfolding decode_pairs
two_digits = refl

one_digit : two_digits_of (codes "1") ≡ None
one_digit = refl

three_digits : two_digits_of (codes "001") ≡ None
three_digits = refl

-- ---- decimal numbers

one_decimal_digit : decimal_of (codes "7") ≡ Some 7
one_decimal_digit = refl

ten_digits : decimal_of (codes "0000000004") ≡ Some 4
ten_digits = refl

greatest : decimal_of (codes "9999999999") ≡ Some 9999999999
greatest = refl

eleven_digits : decimal_of (codes "00000000004") ≡ None
eleven_digits = refl

no_decimal_digits : decimal_of [] ≡ None
no_decimal_digits = refl

no_sign : decimal_of (codes "+4") ≡ None
no_sign = refl
