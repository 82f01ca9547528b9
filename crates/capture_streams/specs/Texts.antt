-- What is printed of many streams: lines as their bytes come, then the lines of what is summed over all of them, and then a line for how
-- each of them ends.
use Rattle.std.specs.Prelude.{◌≡◌, ℕ, ◌==◌, ◌&&◌, ◌||◌, nat_lt, nat_le, Bool, true, false, if◌then◌else◌, List, [], ◌∷◌, ◌++◌, map, Option, Some, None}
use Rattle.std.specs.List.{concat, range_with_len}
use Rattle.etm_types.specs.Settings.{Sizes}
use Rattle.etm_types.specs.declared.item.Item.{Item}
use Rattle.path_text.specs.EndLines.{frame_cut_line}
use Rattle.stream_decoder.specs.Follows.{items_under}

-- ---- lines

-- a line that is printed, with the ID of its stream, where it is of one
pub record Printed : Type 0 where
  pub id : Option ℕ
  pub line : List ℕ

-- lines of a stream
abbrev pub lines_under : ℕ → List (List ℕ) → List Printed
lines_under id lines = map (λ (line : List ℕ). record { id = Some id; line = line }) lines

-- what is printed of lines: one after the other
abbrev pub text_of : List Printed → List ℕ
text_of lines = concat (map (λ (l : Printed). l.line) lines)

-- ---- streams

-- the bytes of one stream among pairs of ID and byte, in order
abbrev pub of : ℕ → List (ℕ × ℕ) → List ℕ
of id [] = []
of id (pair ∷ pairs) = if pair.0 == id then pair.1 ∷ of id pairs else of id pairs

-- What is printed of streams: the lines that the stream of an ID gains by a byte, behind the bytes that it had; the line of how it
-- ends, with whether that is a fault; the items that it adds by a byte to what is summed over all streams; and the lines of the sum of
-- such items, each with the ID of its stream, in the order in which they came.
pub record Listing : Type 1 where
  pub gains : ℕ → List ℕ → ℕ → List (List ℕ) → Type 0
  pub ends : ℕ → List ℕ → List ℕ → Bool → Type 0
  pub adds : ℕ → List ℕ → ℕ → List Item → Type 0
  pub sums : List (ℕ × Item) → List (List ℕ)

-- what is printed of streams whose trace units have these sizes, each by its ID; the lines of a sum do not go by sizes
abbrev pub by_sizes : (Sizes → Listing) → (ℕ → Sizes) → Listing
by_sizes g t =
    record { gains = λ id. (g (t id)).gains id; ends = λ id. (g (t id)).ends id; adds = λ id. (g (t id)).adds id; sums = (g (t 0)).sums }

-- a stream adds nothing to a sum, and no line is printed of it
abbrev pub adds_nothing : ℕ → List ℕ → ℕ → List Item → Type 0
adds_nothing id bytes byte items = items ≡ []

abbrev pub no_sums : List (ℕ × Item) → List (List ℕ)
no_sums items = []

-- ---- the lines that come with the bytes

-- 01 to 6f are the IDs of sources
abbrev pub is_source : ℕ → Bool
is_source id = nat_lt 0 id && nat_le id 111

-- what a byte of a source adds, and one that is of none: nothing
abbrev pub GainsIf : Bool → Listing → List (ℕ × ℕ) → ℕ × ℕ → List (List ℕ) → Type 0
GainsIf true g before pair lines = g.gains pair.0 (of pair.0 before) pair.1 lines
GainsIf false g before pair lines = lines ≡ []

-- what a pair adds behind others
abbrev pub PairGains : Listing → List (ℕ × ℕ) → ℕ × ℕ → List (List ℕ) → Type 0
PairGains g before pair lines = GainsIf (is_source pair.0) g before pair lines

-- the lines that pairs add behind others, in order
abbrev pub BodyFrom : Listing → List (ℕ × ℕ) → List (ℕ × ℕ) → List Printed → Type 0
BodyFrom g before [] lines = lines ≡ []
BodyFrom g before (pair ∷ pairs) lines =
    (first : List (List ℕ)) × (rest : List Printed) × PairGains g before pair first × BodyFrom g (before ++ pair ∷ []) pairs rest
    × (lines ≡ lines_under pair.0 first ++ rest)

-- the lines that the bytes of one stream add behind others of it, in order
abbrev pub StreamBody : Listing → ℕ → List ℕ → List ℕ → List (List ℕ) → Type 0
StreamBody g id before [] lines = lines ≡ []
StreamBody g id before (b ∷ bytes) lines =
    (first : List (List ℕ)) × (rest : List (List ℕ)) × g.gains id before b first × StreamBody g id (before ++ b ∷ []) bytes rest
    × (lines ≡ first ++ rest)

-- ---- what is summed over all streams

-- what a byte of a source adds, and one that is of none: nothing
abbrev pub AddsIf : Bool → Listing → List (ℕ × ℕ) → ℕ × ℕ → List Item → Type 0
AddsIf true g before pair items = g.adds pair.0 (of pair.0 before) pair.1 items
AddsIf false g before pair items = items ≡ []

-- the items that pairs add behind others, in order
abbrev pub AddedFrom : Listing → List (ℕ × ℕ) → List (ℕ × ℕ) → List (ℕ × Item) → Type 0
AddedFrom g before [] items = items ≡ []
AddedFrom g before (pair ∷ pairs) items =
    (first : List Item) × (rest : List (ℕ × Item)) × AddsIf (is_source pair.0) g before pair first × AddedFrom g (before ++ pair ∷ []) pairs rest
    × (items ≡ items_under pair.0 first ++ rest)

-- the items that the bytes of one stream add behind others of it, in order
abbrev pub StreamAdded : Listing → ℕ → List ℕ → List ℕ → List Item → Type 0
StreamAdded g id before [] items = items ≡ []
StreamAdded g id before (b ∷ bytes) items =
    (first : List Item) × (rest : List Item) × g.adds id before b first × StreamAdded g id (before ++ b ∷ []) bytes rest × (items ≡ first ++ rest)

-- the lines of a sum, which are of no single stream
abbrev pub sum_lines : Listing → List (ℕ × Item) → List Printed
sum_lines g items = map (λ (line : List ℕ). record { id = None; line = line }) (g.sums items)

-- the lines of the sum of what these pairs add
abbrev pub IsSum : Listing → List (ℕ × ℕ) → List Printed → Type 0
IsSum g pairs lines = (items : List (ℕ × Item)) × AddedFrom g [] pairs items × (lines ≡ sum_lines g items)

-- ---- the lines of the ends

-- how a stream ends, where it had a byte
abbrev pub StreamEnds : Listing → ℕ → List ℕ → List Printed → Bool → Type 0
StreamEnds g id [] lines faulty = (lines ≡ []) × (faulty ≡ false)
StreamEnds g id (b ∷ bytes) lines faulty = (line : List ℕ) × g.ends id (b ∷ bytes) line faulty × (lines ≡ lines_under id (line ∷ []))

-- how the streams of these IDs end, in this order
abbrev pub EndsOf : Listing → List (ℕ × ℕ) → List ℕ → List Printed → Bool → Type 0
EndsOf g pairs [] lines faulty = (lines ≡ []) × (faulty ≡ false)
EndsOf g pairs (id ∷ ids) lines faulty =
    (first : List Printed) × (rest : List Printed) × (one : Bool) × (others : Bool) × StreamEnds g id (of id pairs) first one
    × EndsOf g pairs ids rest others × (lines ≡ first ++ rest) × (faulty ≡ one || others)

-- the IDs of all sources
unfoldable pub sources : List ℕ
sources = range_with_len 1 111

-- so many bytes of a frame are left over
abbrev pub cut_lines : ℕ → List Printed
cut_lines left = if left == 0 then [] else record { id = None; line = frame_cut_line left } ∷ []

-- The last lines of pairs of ID and byte, with so many bytes of a frame left over: the sum, then the ends by ID, and then the frame
-- that is cut. Faulty says whether a stream ends with a fault, or a frame is cut.
pub record IsEnding (g : Listing) (pairs : List (ℕ × ℕ)) (left : ℕ) (lines : List Printed) (faulty : Bool) : Type 0 where
  pub sums : List Printed
  pub summed : IsSum g pairs sums
  pub ends : List Printed
  pub some_fault : Bool
  pub ended : EndsOf g pairs sources ends some_fault
  pub all : lines ≡ sums ++ (ends ++ cut_lines left)
  pub fault : faulty ≡ some_fault || nat_lt 0 left

-- ---- all of it

-- what is printed of pairs of ID and byte, with so many bytes of a frame left over
pub record IsText (g : Listing) (pairs : List (ℕ × ℕ)) (left : ℕ) (lines : List Printed) (faulty : Bool) : Type 0 where
  pub body : List Printed
  pub ending : List Printed
  pub gained : BodyFrom g [] pairs body
  pub ended : IsEnding g pairs left ending faulty
  pub all : lines ≡ body ++ ending
