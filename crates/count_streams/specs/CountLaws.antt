-- What the counts of streams are, as a whole.
use Rattle.std.specs.Prelude.{◌≡◌, ◌≤◌, ◌+◌, ◌<◌, ◌^◌, ℕ, All, Bool, true, List, [], ◌∷◌, ◌++◌, bytes_eq, drop, map, nat_eq, sum}
use Rattle.std.specs.Prelude.{IsSome}
use Rattle.std.specs.List.{starts_with}
use Rattle.capture_streams.specs.Laws.{HasByte}
use Rattle.capture_streams.specs.Paths.{paths}
use Rattle.capture_streams.specs.Texts.{AddedFrom, BodyFrom, IsText, Printed, by_sizes, is_source, of, sources}
use Rattle.etm_types.specs.Settings.{AreSettings, Sizes}
use Rattle.etm_types.specs.declared.item.Item.{Item}
use Rattle.packet_grammar.specs.declared.end.End.{End}
use Rattle.path_counts.specs.CountLines.{mark_key}
use Rattle.path_counts.specs.Counts.{first_exception, is_at, is_mark, times}
use Rattle.path_counts.specs.Levels.{one_if}
use Rattle.path_elements.specs.Path.{IsPath}
use Rattle.path_elements.specs.PathLaws.{BeginsWith}
use Rattle.path_text.specs.Lines.{hex}
use Rattle.program_image.specs.Part.{IsImage, word_of}
use Rattle.program_image.specs.declared.image.Image.{Image}
use Rattle.count_streams.specs.Counted.{counted, items_alone}
use Rattle.count_streams.specs.Pairs.{items_of_stream}

-- pairs of an ID and a byte have one text of their counts at most, whatever the sizes of each stream
abbrev pub OneTextOfCounts : Type 0
OneTextOfCounts =
    (image : Image) (t : ℕ → Sizes) → ((id : ℕ) → AreSettings (t id)) → (pairs : List (ℕ × ℕ)) (left : ℕ) (lines others : List Printed)
    (faulty also : Bool) → IsText (by_sizes (counted image) t) pairs left lines faulty → IsText (by_sizes (counted image) t) pairs left others also
    → (lines ≡ others) × (faulty ≡ also)

-- and one at least
abbrev pub SomeTextOfCounts : Type 0
SomeTextOfCounts =
    (image : Image) (t : ℕ → Sizes) → IsImage image → ((id : ℕ) → AreSettings (t id)) → (pairs : List (ℕ × ℕ)) (left : ℕ) → All HasByte pairs
    → (lines : List Printed) × (faulty : Bool) × IsText (by_sizes (counted image) t) pairs left lines faulty

-- ---- each stream is counted

-- the items of a source are those of the path of its own bytes, by its own sizes
abbrev pub EachStreamIsCounted : Type 0
EachStreamIsCounted =
    (image : Image) (t : ℕ → Sizes) → ((id : ℕ) → AreSettings (t id)) → (pairs : List (ℕ × ℕ)) (items : List (ℕ × Item))
    → AddedFrom (by_sizes (counted image) t) [] pairs items → (id : ℕ) → is_source id ≡ true
    → (last : End) × IsPath image (t id) (of id pairs) (items_of_stream id items) last

-- how many of all items pass a test is the sum of how many of each source do
abbrev pub CountsAreSums : Type 0
CountsAreSums =
    (image : Image) (t : ℕ → Sizes) (pairs : List (ℕ × ℕ)) (items : List (ℕ × Item)) → AddedFrom (by_sizes (counted image) t) [] pairs items
    → (test : Item → Bool) → times test (items_alone items) ≡ sum (map (λ id. times test (items_of_stream id items)) sources)

-- ---- counts grow

-- what bytes add is not taken back by those that follow
abbrev pub AddedItemsStay : Type 0
AddedItemsStay =
    (image : Image) (t : ℕ → Sizes) → ((id : ℕ) → AreSettings (t id)) → (pairs more : List (ℕ × ℕ)) (items all : List (ℕ × Item))
    → AddedFrom (by_sizes (counted image) t) [] pairs items → AddedFrom (by_sizes (counted image) t) [] (pairs ++ more) all → BeginsWith items all

-- so no count falls as bytes come
abbrev pub CountsNeverFall : Type 0
CountsNeverFall =
    (image : Image) (t : ℕ → Sizes) → ((id : ℕ) → AreSettings (t id)) → (pairs more : List (ℕ × ℕ)) (items all : List (ℕ × Item))
    → AddedFrom (by_sizes (counted image) t) [] pairs items → AddedFrom (by_sizes (counted image) t) [] (pairs ++ more) all
    → (test : Item → Bool) → times test (items_alone items) ≤ times test (items_alone all)

-- ---- counts are counts of lines

-- how many lines pass a test, without the ID of their stream and the space behind it
abbrev pub lines_that : (List ℕ → Bool) → List Printed → ℕ
lines_that passes [] = 0
lines_that passes (l ∷ lines) = one_if (passes (drop 3 l.line)) + lines_that passes lines

-- a line is this text
abbrev pub is_text : List ℕ → List ℕ → Bool
is_text text line = bytes_eq line (text ++ 10 ∷ [])

-- it begins with this text and a space
abbrev pub begins_with : List ℕ → List ℕ → Bool
begins_with text line = starts_with nat_eq line (text ++ 32 ∷ [])

-- how many lines are this address
abbrev pub lines_at : ℕ → List Printed → ℕ
lines_at address lines = lines_that (is_text (hex address)) lines

-- As many lines of paths are counted as items pass a test: of the lines that come with the bytes, and of all that is printed, where no
-- line of how a stream ends is counted, nor that of a frame that is cut.
abbrev pub AreAsMany : (List Printed → ℕ) → (Item → Bool) → Type 0
AreAsMany count test =
    (image : Image) (t : ℕ → Sizes) → ((id : ℕ) → AreSettings (t id)) → (pairs : List (ℕ × ℕ)) (items : List (ℕ × Item))
    → AddedFrom (by_sizes (counted image) t) [] pairs items
    → ((lines : List Printed) → BodyFrom (by_sizes (paths image) t) [] pairs lines → count lines ≡ times test (items_alone items))
    × ((left : ℕ) (lines : List Printed) (faulty : Bool) → IsText (by_sizes (paths image) t) pairs left lines faulty
    → count lines ≡ times test (items_alone items))

-- so many lines are an address
abbrev pub AddressesAreLines : Type 0
AddressesAreLines = (address : ℕ) → AreAsMany (lines_at address) (is_at address)

-- `on`, `?`, `gap` or `stop`
abbrev pub MarksAreLines : Type 0
MarksAreLines = (number : ℕ) → number < first_exception → AreAsMany (lines_that (is_text (mark_key number))) (is_mark number)

-- or begin with an exception
abbrev pub ExceptionsAreLines : Type 0
ExceptionsAreLines =
    (kind : ℕ) → AreAsMany (lines_that (begins_with (mark_key (first_exception + kind)))) (is_mark (first_exception + kind))

-- ---- what is counted stands in the image

-- each address that is counted is that of a word of the image
abbrev pub OnlyWordsAreCounted : Type 0
OnlyWordsAreCounted =
    (image : Image) (t : ℕ → Sizes) (pairs : List (ℕ × ℕ)) (items : List (ℕ × Item)) → AddedFrom (by_sizes (counted image) t) [] pairs items
    → (address : ℕ) → address < 2 ^ 64 → 0 < times (is_at address) (items_alone items) → IsSome (word_of image address)
