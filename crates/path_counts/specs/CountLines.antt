-- The lines of counts: each has what is counted, and last one number.
use Rattle.std.specs.Prelude.{ℕ, ◌+◌, ◌-◌, ◌==◌, if◌then◌else◌, List, [], ◌∷◌, ◌++◌, codes}
use Rattle.std.specs.List.{filter}
use Rattle.etm_types.specs.declared.item.Item.{Item}
use Rattle.path_text.specs.Lines.{decimal, hex}
use Rattle.path_text.specs.PathLines.{exception_names, name_among}
use Rattle.program_image.specs.Part.{Part}
use Rattle.program_image.specs.Places.{word_addresses}
use Rattle.path_counts.specs.declared.targets.Target.{Target}
use Rattle.path_counts.specs.Counts.{Counting, counts_of, first_exception}
use Rattle.path_counts.specs.Targets.{Targeting, targets_of}

-- the line of a key, unless its number is 0
abbrev pub number_line : List ℕ → ℕ → List ℕ
number_line key n = if n == 0 then [] else key ++ 32 ∷ (decimal n ++ 10 ∷ [])

abbrev pub at_key : ℕ → List ℕ
at_key address = codes "at " ++ hex address

abbrev pub taken_key : ℕ → List ℕ
taken_key address = codes "taken " ++ hex address

abbrev pub to_key : ℕ → ℕ → List ℕ
to_key from to = codes "to " ++ (hex from ++ 32 ∷ hex to)

-- the line of an entry
abbrev pub to_line : Target → List ℕ
to_line entry = number_line (to_key entry.from entry.to) entry.times

-- the lines of entries
abbrev pub to_lines : List Target → List ℕ
to_lines [] = []
to_lines (entry ∷ entries) = to_line entry ++ to_lines entries

-- those of the entries that are from an address
abbrev pub from_entries : ℕ → List Target → List Target
from_entries address entries = filter (λ entry. entry.from == address) entries

-- the lines of a word
abbrev pub word_lines : ℕ → ℕ → ℕ → List Target → List ℕ
word_lines address visits taken entries =
    number_line (at_key address) visits ++ (number_line (taken_key address) taken ++ to_lines (from_entries address entries))

-- the lines of words, by their addresses and the two numbers of each
abbrev pub words_text : List ℕ → List ℕ → List ℕ → List Target → List ℕ
words_text (address ∷ addresses) (n ∷ visits) (m ∷ taken) entries =
    word_lines address n m entries ++ words_text addresses visits taken entries
words_text _ _ _ _ = []

-- what the line of a mark begins with, by its number
abbrev pub mark_key : ℕ → List ℕ
mark_key number =
    if number == 0 then codes "on"
    else if number == 1 then codes "?"
    else if number == 2 then codes "gap"
    else if number == 3 then codes "stop"
    else codes "exc " ++ name_among exception_names (number - first_exception)

-- the lines of marks from a number on
abbrev pub marks_text : ℕ → List ℕ → List ℕ
marks_text number [] = []
marks_text number (n ∷ marks) = number_line (mark_key number) n ++ marks_text (number + 1) marks

-- the line of the pairs that are not kept
abbrev pub more_line : ℕ → List ℕ
more_line more = number_line (codes "to more") more

-- the text of counts
abbrev pub counts_text : List Part → Counting → Targeting → List ℕ
counts_text image counts targets =
    words_text (word_addresses image) counts.visits counts.taken targets.entries ++ (more_line targets.more ++ marks_text 0 counts.marks)

-- the text of the counts of items, and of pairs of where they went
abbrev pub items_text : List Part → List Item → List (ℕ × ℕ) → List ℕ
items_text image items pairs = counts_text image (counts_of image items) (targets_of pairs)
