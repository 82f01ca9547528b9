-- What holds of the path of a stream, over any image and under any settings.
use Rattle.std.specs.Prelude.{◌≡◌, ◌<◌, ℕ, All, List, ◌++◌, map, None, is_some}
use Rattle.etm_types.specs.Settings.{Sizes, AreSettings}
use Rattle.etm_types.specs.declared.element.Elem.{Elem}
use Rattle.etm_types.specs.declared.item.Item.{Item}
use Rattle.packet_grammar.specs.declared.end.End.{End}
use Rattle.packet_grammar.specs.declared.end.End.TheVariants as end
use Rattle.packet_grammar.specs.declared.packet.Packet.{Packet}
use Rattle.packet_grammar.specs.declared.stream_fault.Fault.{Fault}
use Rattle.path_elements.specs.Elements.{Told, all_elements, with_gained}
use Rattle.path_elements.specs.Path.{IsPathTaking, unplaced}
use Rattle.program_image.specs.Part.{IsImage}
use Rattle.program_image.specs.declared.image.Image.{Image}

-- a stream has one path at most: one list of items, one end, and the same elements taken
abbrev pub OnePath : Type 0
OnePath =
    (image : Image) (s : Sizes) → AreSettings s → (bytes : List ℕ) (items others : List Item) (last other : End) (took also : List (ℕ × Elem))
    → IsPathTaking image s bytes items last took → IsPathTaking image s bytes others other also
    → (items ≡ others) × (last ≡ other) × (took ≡ also)

-- and over every image it has one
abbrev pub SomePath : Type 0
SomePath =
    (image : Image) (s : Sizes) → IsImage image → AreSettings s → (bytes : List ℕ) → All (λ b. b < 256) bytes
    → (items : List Item) × (last : End) × (took : List (ℕ × Elem)) × IsPathTaking image s bytes items last took

-- a list begins with another
abbrev pub BeginsWith : {X : Type 0} → List X → List X → Type 0
BeginsWith {X} front whole = (rest : List X) × (whole ≡ front ++ rest)

-- what bytes show is not taken back by those that follow
abbrev pub PathGrows : Type 0
PathGrows =
    (image : Image) (s : Sizes) → AreSettings s → (bytes more : List ℕ) (items others : List Item) (last other : End) (took also : List (ℕ × Elem))
    → IsPathTaking image s bytes items last took → IsPathTaking image s (bytes ++ more) others other also
    → BeginsWith items others × BeginsWith took also

-- after a fault, of whatever kind, all stays as it is
abbrev pub FaultIsLast : Type 0
FaultIsLast =
    (image : Image) (s : Sizes) → AreSettings s → (bytes more : List ℕ) (items others : List Item) (at : ℕ) (fault : Fault) (other : End)
    (took also : List (ℕ × Elem))
    → IsPathTaking image s bytes items (end.Fault at fault) took → IsPathTaking image s (bytes ++ more) others other also
    → (others ≡ items) × (other ≡ end.Fault at fault) × (also ≡ took)

-- so that the path up to the fault is that of any longer stream
abbrev pub FaultStays : Type 0
FaultStays =
    (image : Image) (s : Sizes) → AreSettings s → (bytes more : List ℕ) (items : List Item) (at : ℕ) (fault : Fault) (took : List (ℕ × Elem))
    → All (λ b. b < 256) (bytes ++ more)
    → IsPathTaking image s bytes items (end.Fault at fault) took → IsPathTaking image s (bytes ++ more) items (end.Fault at fault) took

-- after packets that all may come where they do, others add their elements
abbrev pub ElementsJoin : Type 0
ElementsJoin =
    (told : Told) (packets more : List (ℕ × Packet))
    → (all_elements told packets).awaited ≡ None
    → all_elements told (packets ++ more) ≡ with_gained (all_elements told packets).elements (all_elements (all_elements told packets).told more)

-- the packets without their offsets
abbrev pub packets_alone : List (ℕ × Packet) → List Packet
packets_alone packets = map (λ (p : ℕ × Packet). p.1) packets

-- wherever the same packets stand, they have the same elements, or as many of them up to one that may not come
abbrev pub OffsetsDoNotCount : Type 0
OffsetsDoNotCount =
    (told : Told) (packets others : List (ℕ × Packet)) → packets_alone packets ≡ packets_alone others
    → (unplaced (all_elements told packets).elements ≡ unplaced (all_elements told others).elements)
    × (is_some (all_elements told packets).awaited ≡ is_some (all_elements told others).awaited)
    × ((all_elements told packets).told ≡ (all_elements told others).told)
