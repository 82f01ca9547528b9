-- The lines of counts, joined, are their text.
use Rattle.std.proofs.Common.{◌≡◌, ℕ, ◌+◌, ◌==◌, if◌then◌else◌, Bool, true, false, List, [], ◌∷◌, ◌++◌, codes, refl, ap, ◌∙◌, append-nil}
use Rattle.std.specs.List.{concat}
use Rattle.std.proofs.lemmas.List.Folds.{concat-append}
use Rattle.path_counts.specs.CountLines.{at_key, counts_text, from_entries, mark_key, marks_text, more_line, number_line, taken_key}
use Rattle.path_counts.specs.CountLines.{to_key, to_line, to_lines, word_lines, words_text}
use Rattle.path_counts.specs.Targets.{Targeting}
use Rattle.path_counts.specs.declared.targets.Target.{Target}
use Rattle.path_counts.specs.Counts.{Counting}
use Rattle.path_text.specs.Lines.{decimal}
use Rattle.program_image.specs.Places.{word_addresses}
use Rattle.program_image.specs.declared.image.Image.{Image}
use Rattle.count_streams.specs.Counted.{counts_lines, entries_lines, marks_lines, number_lines, one_lines, words_lines}

one_or_none : (none : Bool) (line : List ℕ) → concat (if none then [] else line ∷ []) ≡ (if none then [] else line)
one_or_none true line = refl
one_or_none false line = append-nil line

number_joined : (key : List ℕ) (n : ℕ) → concat (number_lines key n) ≡ number_line key n
number_joined key n = one_or_none (n == 0) (key ++ 32 ∷ (decimal n ++ 10 ∷ []))

joined : (xs ys : List (List ℕ)) (a b : List ℕ) → concat xs ≡ a → concat ys ≡ b → concat (xs ++ ys) ≡ a ++ b
joined xs ys a b first rest = concat-append xs ys ∙ ap (λ t. t ++ concat ys) first ∙ ap (λ t. a ++ t) rest

entries_joined : (entries : List Target) → concat (entries_lines entries) ≡ to_lines entries
entries_joined [] = refl
entries_joined (entry ∷ entries) =
    let key = to_key entry.from entry.to in
    joined (number_lines key entry.times) (entries_lines entries) (to_line entry) (to_lines entries) (number_joined key entry.times) (entries_joined entries)

one_joined : (address n m : ℕ) (entries : List Target) → concat (one_lines address n m entries) ≡ word_lines address n m entries
one_joined address n m entries =
    let own = from_entries address entries in
    joined (number_lines (at_key address) n) (number_lines (taken_key address) m ++ entries_lines own) (number_line (at_key address) n)
    (number_line (taken_key address) m ++ to_lines own) (number_joined (at_key address) n)
    (joined (number_lines (taken_key address) m) (entries_lines own) (number_line (taken_key address) m) (to_lines own)
    (number_joined (taken_key address) m) (entries_joined own))

words_joined : (addresses visits taken : List ℕ) (entries : List Target)
    → concat (words_lines addresses visits taken entries) ≡ words_text addresses visits taken entries
words_joined [] visits taken entries = refl
words_joined (address ∷ addresses) [] taken entries = refl
words_joined (address ∷ addresses) (n ∷ visits) [] entries = refl
words_joined (address ∷ addresses) (n ∷ visits) (m ∷ taken) entries =
    joined (one_lines address n m entries) (words_lines addresses visits taken entries) (word_lines address n m entries)
    (words_text addresses visits taken entries) (one_joined address n m entries) (words_joined addresses visits taken entries)

marks_joined : (number : ℕ) (marks : List ℕ) → concat (marks_lines number marks) ≡ marks_text number marks
marks_joined number [] = refl
marks_joined number (n ∷ marks) =
    joined (number_lines (mark_key number) n) (marks_lines (number + 1) marks) (number_line (mark_key number) n) (marks_text (number + 1) marks)
    (number_joined (mark_key number) n) (marks_joined (number + 1) marks)

pub counts_joined : (image : Image) (c : Counting) (t : Targeting) → concat (counts_lines image c t) ≡ counts_text image c t
counts_joined image c t =
    joined (words_lines (word_addresses image) c.visits c.taken t.entries) (number_lines (codes "to more") t.more ++ marks_lines 0 c.marks)
    (words_text (word_addresses image) c.visits c.taken t.entries) (more_line t.more ++ marks_text 0 c.marks)
    (words_joined (word_addresses image) c.visits c.taken t.entries)
    (joined (number_lines (codes "to more") t.more) (marks_lines 0 c.marks) (more_line t.more) (marks_text 0 c.marks)
    (number_joined (codes "to more") t.more) (marks_joined 0 c.marks))
