-- The first line of a text, and the first word of a line.
use Rattle.std.proofs.Common.{◌≡◌, ℕ, suc, ◌+◌, ◌<◌, ◌≤◌, List, [], ◌∷◌, length, take, drop, Bool, true}
use Rattle.std.proofs.Common.{false, not, Some, None, nat_lt, refl, sym, ap, ◌∙◌, arith, cond, get_or, subst, inl, inr}
use Rattle.std.specs.Prelude.{filter, ◌==◌}
use Rattle.std.specs.List.{All, position, position_or_len, slice_split, onto_first}
use Rattle.std.specs.Option.{unwrap_or}
use Rattle.std.specs.Str.Lines.{lines, lines_of_parts, strip_carriage_return}
use Rattle.std.proofs.lemmas.List.Splits.{slice_split-cons_yes, slice_split_first, slice_split_none}
use Rattle.std.proofs.lemmas.List.Sums.{fails_before_first, passes_at_first, prefix_len-le-length}
use Rattle.std.proofs.lemmas.Bool.{cases_Bool, lt-ltb, ltb-true, ltb-false, ne_eqb}
use Rattle.std.proofs.lemmas.Option.{none-some, same_Some}
use Rattle.std.proofs.lemmas.List.{take_all, drop_all, drop_more, length-take-le}
use Rattle.line_words.specs.Line.{is_blank, words_in}

-- where an element is found
pub record Found {X : Type 0} (p : X → Bool) (xs : List X) (i : ℕ) : Type 0 where
  pub within : i < length xs
  pub first : position_or_len p xs ≡ i

found_by : (test : Bool) (n i : ℕ) → cond test (Some n) None ≡ Some i → (test ≡ true) × (n ≡ i)
found_by true n i e = (refl, same_Some n i e)
found_by false n i e = absurd (none-some i e)

pub found : {X : Type 0} (p : X → Bool) (xs : List X) (i : ℕ) → position p xs ≡ Some i → Found p xs i
found p xs i e =
    let by = found_by (nat_lt (position_or_len p xs) (length xs)) (position_or_len p xs) i e in
    let within = ltb-true (position_or_len p xs) (length xs) by.0 in
    record { within = omega (arith, within, by.1); first = by.1 }

-- where none is
none_by : (test : Bool) (n : ℕ) → cond test (Some n) None ≡ None → test ≡ false
none_by true n e = absurd (none-some n (sym e))
none_by false n e = refl

pub not_found : {X : Type 0} (p : X → Bool) (xs : List X) → position p xs ≡ None → position_or_len p xs ≡ length xs
not_found p xs e =
    let long = ltb-false (position_or_len p xs) (length xs) (none_by (nat_lt (position_or_len p xs) (length xs)) (position_or_len p xs) e) in
    let short = prefix_len-le-length (λ x. not (p x)) xs in
    omega (arith, long, short)

or_length : (test : Bool) (n len : ℕ) → nat_lt n len ≡ test → n ≤ len → unwrap_or (cond test (Some n) None) len ≡ n
or_length true n len e short = refl
or_length false n len e short = omega (arith, ltb-false n len e, short)

pub position_or_end : {X : Type 0} (p : X → Bool) (xs : List X) → unwrap_or (position p xs) (length xs) ≡ position_or_len p xs
position_or_end p xs =
    or_length (nat_lt (position_or_len p xs) (length xs)) (position_or_len p xs) (length xs) refl (prefix_len-le-length (λ x. not (p x)) xs)

-- ---- lines

-- a list that is cut has a first part
record HasFirst {X : Type 0} (parts : List X) : Type 0 where
  first : X
  more : List X
  is : parts ≡ first ∷ more

onto_has_first : (byte : ℕ) (parts : List (List ℕ)) → HasFirst (onto_first byte parts)
onto_has_first byte [] = record { first = byte ∷ []; more = []; is = refl }
onto_has_first byte (part ∷ parts) = record { first = byte ∷ part; more = parts; is = refl }

split_has_first : (p : ℕ → Bool) (text : List ℕ) → HasFirst (slice_split p text)
split_has_first p [] = record { first = []; more = []; is = refl }
split_has_first p (byte ∷ text) =
    elim (p byte) as (λ test. HasFirst (cond test ([] ∷ slice_split p text) (onto_first byte (slice_split p text)))) [
      | true ↦ record { first = []; more = slice_split p text; is = refl }
      | false ↦ onto_has_first byte (slice_split p text)
    ]

-- a line before the parts of a text
pub before_parts : (line : List ℕ) (p : ℕ → Bool) (text : List ℕ)
    → lines_of_parts (line ∷ slice_split p text) ≡ strip_carriage_return line ∷ lines_of_parts (slice_split p text)
before_parts line p text = let cut = split_has_first p text in rw (cut.is) refl

abbrev is_end : ℕ → Bool
is_end byte = byte == 10

pub line_found : (text : List ℕ) (end : ℕ) → position (λ byte. byte == 10) text ≡ Some end
    → lines text ≡ strip_carriage_return (take end text) ∷ lines (drop (end + 1) text)
line_found text end e =
    let at = found is_end text end e in
    let n = position_or_len is_end text in
    ap lines_of_parts (slice_split_first is_end text 0 (omega (arith, at.within, at.first)))
    ∙ before_parts (take n text) is_end (drop (n + 1) text)
    ∙ ap (λ (m : ℕ). strip_carriage_return (take m text) ∷ lines (drop (m + 1) text)) at.first

-- no byte passes before the first that does
none_passes : (p : ℕ → Bool) (xs : List ℕ) → position_or_len p xs ≡ length xs → All (λ x. p x ≡ false) xs
none_passes p xs e = λ k d h. fails_before_first p xs k d (omega (arith, h, e))

pub one_line : (text : List ℕ) → 0 < length text → position (λ byte. byte == 10) text ≡ None → lines text ≡ text ∷ []
one_line text some e =
    let whole = slice_split_none is_end text (none_passes is_end text (not_found is_end text e)) in
    let not_empty = ne_eqb (length text) 0 (λ z. omega (arith, z, some)) in
    ap lines_of_parts whole ∙ rw not_empty refl

-- ---- words

-- a blank in front of a line
blank_first : (byte : ℕ) (line : List ℕ) → is_blank byte ≡ true → words_in (byte ∷ line) ≡ words_in line
blank_first byte line blank = ap (filter (λ word. nat_lt 0 (length word))) (slice_split-cons_yes is_blank byte line blank)

abbrev is_of_word : ℕ → Bool
is_of_word byte = not (is_blank byte)

-- the line without its blanks in front
blank_or_not : (byte : ℕ) (line : List ℕ) (n : ℕ) (blank : Bool) → is_blank byte ≡ blank → words_in (drop n line) ≡ words_in line
    → words_in (drop (cond (not (not blank)) (1 + n) 0) (byte ∷ line)) ≡ words_in (byte ∷ line)
blank_or_not byte line n true e more =
    let one : 1 + n ≡ suc n = omega arith in
    ap (λ (m : ℕ). words_in (drop m (byte ∷ line))) one ∙ more ∙ sym (blank_first byte line e)
blank_or_not byte line n false e more = refl

blanks_first : (line : List ℕ) → words_in (drop (position_or_len is_of_word line) line) ≡ words_in line
blanks_first [] = refl
blanks_first (byte ∷ line) = blank_or_not byte line (position_or_len is_of_word line) (is_blank byte) refl (blanks_first line)

pub no_word : (line : List ℕ) → position (λ byte. not (is_blank byte)) line ≡ None → words_in line ≡ []
no_word line e =
    let none = not_found is_of_word line e in
    sym (blanks_first line) ∙ ap words_in (drop_all (position_or_len is_of_word line) line (omega (arith, none)))

-- a word that is not empty is kept
pub kept : (word : List ℕ) (words : List (List ℕ)) → 0 < length word
    → filter (λ word. nat_lt 0 (length word)) (word ∷ words) ≡ word ∷ filter (λ word. nat_lt 0 (length word)) words
kept word words some = let test = lt-ltb 0 (length word) some in rw test refl

-- a word in front of a line
word_first : (line : List ℕ) → 0 < position_or_len is_blank line
    → words_in line ≡ take (position_or_len is_blank line) line ∷ words_in (drop (position_or_len is_blank line) line)
word_first line some =
    let n = position_or_len is_blank line in
    let short : n ≤ length line = prefix_len-le-length (λ x. not (is_blank x)) line in
    let before : length (take n line) ≡ n = length-take-le n line short in
    elim (cases_Bool (nat_lt n (length line))) [
      | inl inside ↦
          let within : n < length line = ltb-true n (length line) inside in
          ap (filter (λ word. nat_lt 0 (length word))) (slice_split_first is_blank line 0 within)
          ∙ kept (take n line) (slice_split is_blank (drop (n + 1) line)) (omega (arith, before, some))
          ∙ ap (λ (words : List (List ℕ)). take n line ∷ words)
          (sym (blank_first (get_or line n 0) (drop (n + 1) line) (passes_at_first is_blank line 0 within))
          ∙ ap words_in (sym (drop_more line n 0 within)))
      | inr outside ↦
          let end : n ≡ length line = omega (arith, ltb-false n (length line) outside, short) in
          let all : take n line ≡ line = take_all n line (omega (arith, end)) in
          let rest : drop n line ≡ [] = drop_all n line (omega (arith, end)) in
          ap (filter (λ word. nat_lt 0 (length word))) (slice_split_none is_blank line (none_passes is_blank line end))
          ∙ kept line [] (omega (arith, end, some))
          ∙ ap (λ (word : List ℕ). word ∷ []) (sym all)
          ∙ ap (λ (more : List ℕ). take n line ∷ words_in more) (sym rest)
    ]

not_not : (b : Bool) → not b ≡ true → b ≡ false
not_not true e = sym e
not_not false e = refl

some_word : (byte : ℕ) (line : List ℕ) → is_blank byte ≡ false → 0 < position_or_len is_blank (byte ∷ line)
some_word byte line e = rw e (omega arith)

-- what a line has from the start of a word on
pub record WordAt (line rest : List ℕ) : Type 0 where
  pub some : 0 < position_or_len is_blank rest
  pub words : words_in line ≡ take (position_or_len is_blank rest) rest ∷ words_in (drop (position_or_len is_blank rest) rest)

pub word_found : (line : List ℕ) (start : ℕ) → position (λ byte. not (is_blank byte)) line ≡ Some start → WordAt line (drop start line)
word_found line start e =
    let at = found is_of_word line start e in
    let n = position_or_len is_of_word line in
    let within : n < length line = omega (arith, at.within, at.first) in
    let byte = not_not (is_blank (get_or line n 0)) (passes_at_first is_of_word line 0 within) in
    let some : 0 < position_or_len is_blank (drop n line) = rw (drop_more line n 0 within) (some_word (get_or line n 0) (drop (n + 1) line) byte) in
    let here : WordAt line (drop n line) = record { some = some; words = sym (blanks_first line) ∙ word_first (drop n line) some } in
    subst (λ (m : ℕ). WordAt line (drop m line)) at.first here

-- the word and what follows it
pub word_cut : (line rest word after : List ℕ) (end : ℕ) → WordAt line rest → end ≡ position_or_len is_blank rest → word ≡ take end rest
    → after ≡ drop end rest
    → words_in line ≡ word ∷ words_in after
word_cut line rest word after end at is_end is_word is_after = rw (is_word, is_after, is_end) (at.words)
