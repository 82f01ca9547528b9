-- A fault is that of the first line that has one.
use Rattle.std.proofs.Common.{◌≡◌, ◌⊎◌, ℕ, ◌+◌, ◌<◌, List, [], ◌∷◌, ◌++◌, length, Bool, true}
use Rattle.std.proofs.Common.{false, Result, Ok, Err, nat_lt, refl, sym, ap, ◌∙◌, arith, cond, inl, inr}
use Rattle.std.specs.Str.Lines.{lines}
use Rattle.std.proofs.lemmas.Bool.{ltb-true}
use Rattle.program_image.specs.Part.{Part}
use Rattle.program_image.specs.ImageText.{add_line, add_lines, image_of, most_text, sorted, then_lines}
use Rattle.program_image.specs.FirstFault.{IsFirstFault}
use Rattle.program_image.specs.declared.fault.ImageWhy.{ImageWhy}
use Rattle.program_image.specs.declared.fault.ImageWhy.TheVariants.{Syntax, TooLong}

abbrev Told : Type 0
Told = Result (List Part) (ℕ × ImageWhy)

line_of : Told → ℕ
line_of (Ok parts) = 0
line_of (Err fault) = fault.0

why_of : Told → ImageWhy
why_of (Ok parts) = Syntax
why_of (Err fault) = fault.1

same_line : (a b : ℕ) (v w : ImageWhy) (r s : Told) → r ≡ Err (a, v) → s ≡ Err (b, w) → r ≡ s → a ≡ b
unfolding line_of
same_line a b v w r s x y e = ap line_of (sym x ∙ e ∙ y)

same_why : (a b : ℕ) (v w : ImageWhy) (r s : Told) → r ≡ Err (a, v) → s ≡ Err (b, w) → r ≡ s → v ≡ w
unfolding why_of
same_why a b v w r s x y e = ap why_of (sym x ∙ e ∙ y)

-- the same of lines that are numbered from `number` on, after parts
record Stops (number : ℕ) (parts : List Part) (all : List (List ℕ)) (line : ℕ) (why : ImageWhy) : Type 0 where
  before : List (List ℕ)
  bad : List ℕ
  rest : List (List ℕ)
  told : List Part
  all_is : all ≡ before ++ bad ∷ rest
  line_is : line ≡ length before + number
  good : add_lines number parts before ≡ Ok told
  fault : add_line told bad ≡ Err why

one_more : (number : ℕ) (parts next : List Part) (first : List ℕ) (all : List (List ℕ)) (line : ℕ) (why : ImageWhy) → add_line parts first ≡ Ok next
    → Stops (number + 1) next all line why
    → Stops number parts (first ∷ all) line why
one_more number parts next first all line why is s = record {
  before = first ∷ s.before;
  bad = s.bad;
  rest = s.rest;
  told = s.told;
  all_is = ap (λ (ls : List (List ℕ)). first ∷ ls) s.all_is;
  line_is = omega (arith, s.line_is);
  good = rw is s.good;
  fault = s.fault;
}

first_or_later : (number : ℕ) (parts : List Part) (first : List ℕ) (all : List (List ℕ)) (line : ℕ) (why : ImageWhy) (r : Result (List Part) ImageWhy)
    → add_line parts first ≡ r
    → ((next : List Part) → add_lines (number + 1) next all ≡ Err (line, why) → Stops (number + 1) next all line why)
    → then_lines number r (λ next. add_lines (number + 1) next all) ≡ Err (line, why) → Stops number parts (first ∷ all) line why
first_or_later number parts first all line why (Ok next) is more e = one_more number parts next first all line why is (more next e)
first_or_later number parts first all line why (Err w) is more e =
    let n = same_line number line w why (Err (number, w)) (Err (line, why)) refl refl e in
    let y = same_why number line w why (Err (number, w)) (Err (line, why)) refl refl e in
    record { before = []; bad = first; rest = all; told = parts; all_is = refl; line_is = omega (arith, n); good = refl; fault = is ∙ ap Err y }

stops : (number : ℕ) (parts : List Part) (all : List (List ℕ)) (line : ℕ) (why : ImageWhy) → add_lines number parts all ≡ Err (line, why)
    → Stops number parts all line why
stops number parts [] line why e = cc
stops number parts (first ∷ all) line why e =
    first_or_later number parts first all line why (add_line parts first) refl (λ next more. stops (number + 1) next all line why more) e

-- ---- of a text

abbrev pub FirstFault : List ℕ → ℕ → ImageWhy → Type 0
FirstFault text line why = ((most_text < length text) × (line ≡ 0) × (why ≡ TooLong)) ⊎ IsFirstFault text line why

unsorted : (r : Told) (fault : ℕ × ImageWhy) → sorted r ≡ Err fault → r ≡ Err fault
unsorted (Ok parts) fault e = cc
unsorted (Err other) fault e = e

long_or_lines : (text : List ℕ) (line : ℕ) (why : ImageWhy) (long : Bool) → nat_lt most_text (length text) ≡ long
    → cond long (Err (0, TooLong)) (sorted (add_lines 1 [] (lines text))) ≡ Err (line, why) → FirstFault text line why
long_or_lines text line why true long e =
    let n = same_line 0 line TooLong why (Err (0, TooLong)) (Err (line, why)) refl refl e in
    let y = same_why 0 line TooLong why (Err (0, TooLong)) (Err (line, why)) refl refl e in
    inl (ltb-true most_text (length text) long, sym n, sym y)
long_or_lines text line why false short e =
    let s = stops 1 [] (lines text) line why (unsorted (add_lines 1 [] (lines text)) (line, why) e) in
    inr (record { before = s.before; bad = s.bad; rest = s.rest; told = s.told; text_is = s.all_is; line_is = s.line_is; good = s.good; fault = s.fault })

pub first_fault : (text : List ℕ) (line : ℕ) (why : ImageWhy) → image_of text ≡ Err (line, why) → FirstFault text line why
unfolding image_of
first_fault text line why e = long_or_lines text line why (nat_lt most_text (length text)) refl e
