-- What holds of bytes that are parted, of their lines and of their texts, whatever is printed of a stream.
use Rattle.std.specs.Prelude.{◌≡◌, ◌≢◌, ◌<◌, ◌==◌, ℕ, All, Bool, false, List, [], ◌∷◌, ◌++◌, replicate, Option, Some, None}
use Rattle.std.specs.List.{filter}
use Rattle.capture_streams.specs.Demuxed.{raw_id, raw_pairs}
use Rattle.capture_streams.specs.Paths.{paths}
use Rattle.capture_streams.specs.Texts.{AddedFrom, BodyFrom, IsEnding, IsText, Listing, Printed, StreamBody, StreamEnds, by_sizes, lines_under, of}
use Rattle.etm_types.specs.Id.{IsId}
use Rattle.etm_types.specs.Settings.{Sizes, AreSettings}
use Rattle.etm_types.specs.declared.item.Item.{Item}
use Rattle.packet_grammar.specs.declared.end.End.{End}
use Rattle.path_elements.specs.Path.{IsPath}
use Rattle.path_elements.specs.PathLaws.{BeginsWith}
use Rattle.path_text.specs.EndLines.{end_line}
use Rattle.path_text.specs.Lines.{IsLine}
use Rattle.path_text.specs.PathLines.{line_list}
use Rattle.program_image.specs.Part.{IsImage}
use Rattle.program_image.specs.declared.image.Image.{Image}

-- ---- bytes are parted

-- a stream's bytes among joined pairs are joined
abbrev pub BytesJoin : Type 0
BytesJoin = (id : ℕ) (xs ys : List (ℕ × ℕ)) → of id (xs ++ ys) ≡ of id xs ++ of id ys

-- the zeros of the null ID that fill a frame are of no other stream
abbrev pub ZerosAreOfNone : Type 0
ZerosAreOfNone = (id n : ℕ) → 0 < id → of id (replicate n (0, 0)) ≡ []

-- all bytes that are not framed are of one stream
abbrev pub RawIsOfOne : Type 0
RawIsOfOne = (bytes : List ℕ) → of raw_id (raw_pairs bytes) ≡ bytes

abbrev pub RawIsOfNoOther : Type 0
RawIsOfNoOther = (id : ℕ) (bytes : List ℕ) → id ≢ raw_id → of id (raw_pairs bytes) ≡ []

-- ---- a body grows

-- bodies of pairs that come one after the other are a body of all
abbrev pub BodiesJoin : Listing → Type 0
BodiesJoin g =
    (before xs ys : List (ℕ × ℕ)) (lines more : List Printed) → BodyFrom g before xs lines → BodyFrom g (before ++ xs) ys more
    → BodyFrom g before (xs ++ ys) (lines ++ more)

-- and a body of all is that of the first, and then that of the others behind them
abbrev pub BodiesPart : Listing → Type 0
BodiesPart g =
    (before xs ys : List (ℕ × ℕ)) (lines : List Printed) → BodyFrom g before (xs ++ ys) lines
    → (first : List Printed) × (more : List Printed) × BodyFrom g before xs first × BodyFrom g (before ++ xs) ys more × (lines ≡ first ++ more)

-- a body of an input, in this layout, begins with one of each front of the input
abbrev pub FrontsBegin : (List ℕ → List (ℕ × ℕ)) → Listing → Type 0
FrontsBegin carried g =
    (bytes more : List ℕ) (lines : List Printed) → BodyFrom g [] (carried (bytes ++ more)) lines
    → (first : List Printed) × BodyFrom g [] (carried bytes) first × BeginsWith first lines

-- and what is printed of paths begins with every body of a front
abbrev pub FrontsOfPathsBegin : (List ℕ → List (ℕ × ℕ)) → Type 0
FrontsOfPathsBegin carried =
    (image : Image) (t : ℕ → Sizes) → ((id : ℕ) → AreSettings (t id)) → (bytes more : List ℕ) (first lines : List Printed)
    → BodyFrom (by_sizes (paths image) t) [] (carried bytes) first → BodyFrom (by_sizes (paths image) t) [] (carried (bytes ++ more)) lines
    → BeginsWith first lines

-- ---- a text is one

-- a stream gains one list of lines by a byte
abbrev pub GainsOnce : Listing → Type 0
GainsOnce g =
    (id : ℕ) (bytes : List ℕ) (byte : ℕ) (lines others : List (List ℕ)) → g.gains id bytes byte lines → g.gains id bytes byte others → lines ≡ others

-- it ends in one way
abbrev pub EndsOnce : Listing → Type 0
EndsOnce g =
    (id : ℕ) (bytes line other : List ℕ) (faulty also : Bool) → g.ends id bytes line faulty → g.ends id bytes other also
    → (line ≡ other) × (faulty ≡ also)

-- it adds one list of items to the sum by a byte
abbrev pub AddsOnce : Listing → Type 0
AddsOnce g =
    (id : ℕ) (bytes : List ℕ) (byte : ℕ) (items others : List Item) → g.adds id bytes byte items → g.adds id bytes byte others → items ≡ others

-- it gains lines by each byte
abbrev pub GainsAlways : Listing → Type 0
GainsAlways g =
    (id : ℕ) (bytes : List ℕ) (byte : ℕ) → All (λ b. b < 256) (bytes ++ byte ∷ []) → (lines : List (List ℕ)) × g.gains id bytes byte lines

-- it ends in some way
abbrev pub EndsAlways : Listing → Type 0
EndsAlways g = (id : ℕ) (bytes : List ℕ) → All (λ b. b < 256) bytes → (line : List ℕ) × (faulty : Bool) × g.ends id bytes line faulty

-- it adds items to the sum by each byte
abbrev pub AddsAlways : Listing → Type 0
AddsAlways g = (id : ℕ) (bytes : List ℕ) (byte : ℕ) → All (λ b. b < 256) (bytes ++ byte ∷ []) → (items : List Item) × g.adds id bytes byte items

-- a byte with an ID, whichever that is
abbrev pub HasByte : ℕ × ℕ → Type 0
HasByte pair = pair.1 < 256

abbrev pub OneBody : Listing → Type 0
OneBody g =
    GainsOnce g → (before pairs : List (ℕ × ℕ)) (lines others : List Printed) → BodyFrom g before pairs lines
    → BodyFrom g before pairs others → lines ≡ others

abbrev pub OneEnding : Listing → Type 0
OneEnding g =
    AddsOnce g → EndsOnce g → (pairs : List (ℕ × ℕ)) (left : ℕ) (lines others : List Printed) (faulty also : Bool)
    → IsEnding g pairs left lines faulty → IsEnding g pairs left others also → (lines ≡ others) × (faulty ≡ also)

abbrev pub OneText : Listing → Type 0
OneText g =
    GainsOnce g → AddsOnce g → EndsOnce g → (pairs : List (ℕ × ℕ)) (left : ℕ) (lines others : List Printed) (faulty also : Bool)
    → IsText g pairs left lines faulty → IsText g pairs left others also → (lines ≡ others) × (faulty ≡ also)

-- pairs add one list of items to the sum
abbrev pub OneSum : Listing → Type 0
OneSum g =
    AddsOnce g → (before pairs : List (ℕ × ℕ)) (items others : List (ℕ × Item)) → AddedFrom g before pairs items → AddedFrom g before pairs others
    → items ≡ others

-- and what they add behind others comes last: so a sum of an input begins with that of a front of it
abbrev pub SumsJoin : Listing → Type 0
SumsJoin g =
    (before xs ys : List (ℕ × ℕ)) (items more : List (ℕ × Item)) → AddedFrom g before xs items → AddedFrom g (before ++ xs) ys more
    → AddedFrom g before (xs ++ ys) (items ++ more)

abbrev pub SomeBody : Listing → Type 0
SomeBody g =
    GainsAlways g → (before pairs : List (ℕ × ℕ)) → All HasByte before → All HasByte pairs
    → (lines : List Printed) × BodyFrom g before pairs lines

abbrev pub SomeEnding : Listing → Type 0
SomeEnding g =
    AddsAlways g → EndsAlways g → (pairs : List (ℕ × ℕ)) (left : ℕ) → All HasByte pairs
    → (lines : List Printed) × (faulty : Bool) × IsEnding g pairs left lines faulty

abbrev pub SomeText : Listing → Type 0
SomeText g =
    GainsAlways g → AddsAlways g → EndsAlways g → (pairs : List (ℕ × ℕ)) (left : ℕ) → All HasByte pairs
    → (lines : List Printed) × (faulty : Bool) × IsText g pairs left lines faulty

-- what is printed of paths is so, whatever the sizes of each stream
abbrev pub OneTextOfPaths : Type 0
OneTextOfPaths =
    (image : Image) (t : ℕ → Sizes) → ((id : ℕ) → AreSettings (t id)) → (pairs : List (ℕ × ℕ)) (left : ℕ) (lines others : List Printed)
    (faulty also : Bool) → IsText (by_sizes (paths image) t) pairs left lines faulty → IsText (by_sizes (paths image) t) pairs left others also
    → (lines ≡ others) × (faulty ≡ also)

abbrev pub SomeTextOfPaths : Type 0
SomeTextOfPaths =
    (image : Image) (t : ℕ → Sizes) → IsImage image → ((id : ℕ) → AreSettings (t id)) → (pairs : List (ℕ × ℕ)) (left : ℕ) → All HasByte pairs
    → (lines : List Printed) × (faulty : Bool) × IsText (by_sizes (paths image) t) pairs left lines faulty

-- ---- a stream is alone

-- what is printed of a stream by its own bytes alone: the lines that they add, and that of how it ends
pub record StreamLines (g : Listing) (id : ℕ) (bytes : List ℕ) (lines : List Printed) : Type 0 where
  pub gained : List (List ℕ)
  pub ending : List Printed
  pub faulty : Bool
  pub body : StreamBody g id [] bytes gained
  pub ends : StreamEnds g id bytes ending faulty
  pub all : lines ≡ lines_under id gained ++ ending

-- it is of the stream with this ID
abbrev pub has_id : ℕ → Option ℕ → Bool
has_id id None = false
has_id id (Some other) = other == id

-- the lines of one stream among others, in order
abbrev pub lines_with : ℕ → List Printed → List Printed
lines_with id lines = filter (λ (l : Printed). has_id id l.id) lines

-- whatever else is printed, the lines of a source are those of its own bytes
abbrev pub SourceIsAlone : Listing → Type 0
SourceIsAlone g =
    (pairs : List (ℕ × ℕ)) (left : ℕ) (lines : List Printed) (faulty : Bool) (id : ℕ) → IsId id → IsText g pairs left lines faulty
    → StreamLines g id (of id pairs) (lines_with id lines)

-- no line is printed of an ID that is of no source
abbrev pub OthersHaveNone : Listing → Type 0
OthersHaveNone g =
    (pairs : List (ℕ × ℕ)) (left : ℕ) (lines : List Printed) (faulty : Bool) (id : ℕ) → (IsId id → ⊥) → IsText g pairs left lines faulty
    → lines_with id lines ≡ []

-- So the lines of a source stay the same where the bytes of other streams change, or where its own stand among them; and where the sizes
-- of other streams change.
abbrev pub OthersDoNotCount : (Sizes → Listing) → Type 0
OthersDoNotCount g =
    (t u : ℕ → Sizes) (id : ℕ) → IsId id → t id ≡ u id → GainsOnce (g (u id)) → EndsOnce (g (u id))
    → (pairs more : List (ℕ × ℕ)) (left some : ℕ) (lines others : List Printed) (faulty also : Bool) → of id pairs ≡ of id more
    → IsText (by_sizes g t) pairs left lines faulty → IsText (by_sizes g u) more some others also → lines_with id lines ≡ lines_with id others

-- what is printed of a path: the lines of its items, and that of how it ends; and nothing of no byte
abbrev pub PathPrinted : Image → Sizes → ℕ → List ℕ → List Printed → Type 0
PathPrinted image s id [] lines = lines ≡ []
PathPrinted image s id (b ∷ bytes) lines =
    (items : List Item) × (last : End) × IsPath image s (b ∷ bytes) items last
    × (lines ≡ lines_under id (line_list id None items ++ end_line id last ∷ []))

-- the lines of a source among paths are those of the path of its own bytes, by its own sizes
abbrev pub PathIsAlone : Type 0
PathIsAlone =
    (image : Image) (t : ℕ → Sizes) (id : ℕ) → IsId id → AreSettings (t id)
    → (pairs : List (ℕ × ℕ)) (left : ℕ) (lines : List Printed) (faulty : Bool) → IsText (by_sizes (paths image) t) pairs left lines faulty
    → PathPrinted image (t id) id (of id pairs) (lines_with id lines)

-- ---- lines

-- each line among paths has one LF, which ends it
abbrev pub EachIsALine : Type 0
EachIsALine =
    (image : Image) (t : ℕ → Sizes) (pairs : List (ℕ × ℕ)) (left : ℕ) (lines : List Printed) (faulty : Bool)
    → IsText (by_sizes (paths image) t) pairs left lines faulty → All (λ (l : Printed). IsLine l.line) lines
