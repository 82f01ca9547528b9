-- What is printed of streams whose paths are counted: nothing by a byte; once no more come, how often all paths have what is counted, and
-- where their branches to a register went; and how each stream ends.
use Rattle.std.specs.Prelude.{◌≡◌, ℕ, ◌+◌, ◌==◌, if◌then◌else◌, List, [], ◌∷◌, ◌++◌, codes, map}
use Rattle.capture_streams.specs.Paths.{PathEnds}
use Rattle.capture_streams.specs.Texts.{Listing}
use Rattle.etm_types.specs.Settings.{Sizes}
use Rattle.etm_types.specs.declared.item.Item.{Item}
use Rattle.path_counts.specs.CountLines.{at_key, from_entries, mark_key, taken_key, to_key}
use Rattle.path_counts.specs.Counts.{Counting, counts_of}
use Rattle.path_counts.specs.Targets.{Targeting, targets_of}
use Rattle.path_counts.specs.declared.targets.Target.{Target}
use Rattle.path_text.specs.Lines.{decimal}
use Rattle.program_image.specs.Places.{word_addresses}
use Rattle.program_image.specs.declared.image.Image.{Image}
use Rattle.stream_decoder.specs.Follows.{GrowsBy}
use Rattle.count_streams.specs.Pairs.{BranchesAre, Branching, pairs_of}

-- ---- the lines of counts

-- items without the IDs of their streams
abbrev pub items_alone : List (ℕ × Item) → List Item
items_alone items = map (λ (i : ℕ × Item). i.1) items

-- the line of a key, unless its number is 0
abbrev pub number_lines : List ℕ → ℕ → List (List ℕ)
number_lines key n = if n == 0 then [] else (key ++ 32 ∷ (decimal n ++ 10 ∷ [])) ∷ []

-- those of where branches went
abbrev pub entries_lines : List Target → List (List ℕ)
entries_lines [] = []
entries_lines (entry ∷ entries) = number_lines (to_key entry.from entry.to) entry.times ++ entries_lines entries

-- those of a word
abbrev pub one_lines : ℕ → ℕ → ℕ → List Target → List (List ℕ)
one_lines address n m entries =
    number_lines (at_key address) n ++ (number_lines (taken_key address) m ++ entries_lines (from_entries address entries))

-- those of words, by their addresses and the two numbers of each
abbrev pub words_lines : List ℕ → List ℕ → List ℕ → List Target → List (List ℕ)
words_lines (address ∷ addresses) (n ∷ visits) (m ∷ taken) entries = one_lines address n m entries ++ words_lines addresses visits taken entries
words_lines _ _ _ _ = []

-- those of the other items, by their numbers
abbrev pub marks_lines : ℕ → List ℕ → List (List ℕ)
marks_lines number [] = []
marks_lines number (n ∷ marks) = number_lines (mark_key number) n ++ marks_lines (number + 1) marks

abbrev pub counts_lines : Image → Counting → Targeting → List (List ℕ)
counts_lines image counts targets =
    words_lines (word_addresses image) counts.visits counts.taken targets.entries
    ++ (number_lines (codes "to more") targets.more ++ marks_lines 0 counts.marks)

-- ---- all of it

-- The paths of streams over an image, under the sizes of their trace units, of which no line is printed: each byte adds the items by which
-- the path of its stream grows, and the lines of the sum tell how often all these items have what is counted, and where branches went.
abbrev pub counted : Image → Sizes → Listing
counted image s = record {
  gains = λ id bytes byte lines. lines ≡ [];
  ends = PathEnds image s;
  adds = λ id bytes byte items. GrowsBy image s bytes byte items;
  sums = λ items. counts_lines image (counts_of image (items_alone items)) (targets_of (pairs_of image items));
}

-- what is kept of all paths
pub record PathCounting : Type 0 where
  pub counts : Counting
  pub branches : Branching

-- it is that of these items
pub record CountsAre (image : Image) (c : PathCounting) (items : List (ℕ × Item)) : Type 0 where
  pub counts : c.counts ≡ counts_of image (items_alone items)
  pub branches : BranchesAre image c.branches items
