-- The text of what is left, one word or one mark on.
use Rattle.std.proofs.Common.{◌≡◌, ℕ, ◌+◌, ◌<◌, ◌≤◌, List, [], ◌∷◌, ◌++◌, ◌∙◌, ap, arith, drop, get_or, length, Some, None, inl, inr}
use Rattle.std.specs.Prelude.{slice_get}
use Rattle.std.proofs.lemmas.List.{drop_all, drop_more}
use Rattle.std.proofs.lemmas.Option.{get_or_from_slice_get, slice_get-get_or, slice_get_within}
use Rattle.std.proofs.lemmas.Bool.Decides.{leb_tells}
use Rattle.path_counts.specs.declared.targets.Target.{Target}
use Rattle.path_counts.specs.CountLines.{mark_key, marks_text, number_line, word_lines, words_text}

-- the text of the words from a place on
abbrev pub words_left : List ℕ → List ℕ → List ℕ → List Target → ℕ → List ℕ
words_left addresses visits taken entries place = words_text (drop place addresses) (drop place visits) (drop place taken) entries

pub words_next : (addresses visits taken : List ℕ) (entries : List Target) (place a : ℕ) → slice_get addresses place ≡ Some a
    → length visits ≡ length addresses → length taken ≡ length addresses
    → words_left addresses visits taken entries place
    ≡ word_lines a (get_or visits place 0) (get_or taken place 0) entries ++ words_left addresses visits taken entries (place + 1)
words_next addresses visits taken entries place a at long long' =
    let short = slice_get_within addresses place a at in
    let here = get_or_from_slice_get addresses place a 0 at in
    let b = get_or addresses place 0 in
    ap (λ (l : List ℕ). words_text l (drop place visits) (drop place taken) entries) (drop_more addresses place 0 short)
    ∙ ap (λ (l : List ℕ). words_text (b ∷ drop (place + 1) addresses) l (drop place taken) entries) (drop_more visits place 0 (omega (arith, short, long)))
    ∙ ap (λ (l : List ℕ). words_text (b ∷ drop (place + 1) addresses) (get_or visits place 0 ∷ drop (place + 1) visits) l entries)
    (drop_more taken place 0 (omega (arith, short, long')))
    ∙ ap (λ n. word_lines n (get_or visits place 0) (get_or taken place 0) entries ++ words_left addresses visits taken entries (place + 1)) here

pub words_end : (addresses visits taken : List ℕ) (entries : List Target) (place : ℕ) → length addresses ≤ place
    → words_left addresses visits taken entries place ≡ []
words_end addresses visits taken entries place past =
    ap (λ (l : List ℕ). words_text l (drop place visits) (drop place taken) entries) (drop_all place addresses past)

pub marks_next : (marks : List ℕ) (number : ℕ) → number < length marks
    → marks_text number (drop number marks) ≡ number_line (mark_key number) (get_or marks number 0) ++ marks_text (number + 1) (drop (number + 1) marks)
marks_next marks number short = ap (marks_text number) (drop_more marks number 0 short)

pub marks_end : (marks : List ℕ) (number : ℕ) → length marks ≤ number → marks_text number (drop number marks) ≡ []
marks_end marks number past = ap (marks_text number) (drop_all number marks past)

-- there is no element behind the last
pub slice_get_none : (xs : List ℕ) (i : ℕ) → slice_get xs i ≡ None → length xs ≤ i
slice_get_none xs i none = elim (leb_tells (length xs) i) [
  | inl past ↦ past.1
  | inr short ↦ let there = slice_get-get_or xs i 0 short.1 in absurd (let same = none in cc)
]
