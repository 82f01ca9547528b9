-- What holds of what is printed of packets as a whole.
use Rattle.std.specs.Prelude.{◌≡◌, ℕ, All, Bool, List, [], ◌∷◌, ◌++◌}
use Rattle.capture_streams.specs.Laws.{HasByte, lines_with}
use Rattle.capture_streams.specs.Texts.{BodyFrom, IsText, Printed, by_sizes, lines_under, of}
use Rattle.etm_types.specs.Id.{IsId}
use Rattle.etm_types.specs.Settings.{AreSettings, Sizes}
use Rattle.packet_grammar.specs.Ends.{end_of}
use Rattle.packet_grammar.specs.Parsed.{Ending, IsStream}
use Rattle.packet_grammar.specs.declared.packet.Packet.{Packet}
use Rattle.path_elements.specs.PathLaws.{BeginsWith}
use Rattle.path_text.specs.EndLines.{end_line}
use Rattle.path_text.specs.Lines.{IsLine}
use Rattle.packet_list.specs.PacketList.{packet_lines, packet_lists}

-- pairs of an ID and a byte have one text of their packets at most, whatever the sizes of each stream
abbrev pub OneTextOfPackets : Type 0
OneTextOfPackets =
    (t : ℕ → Sizes) → ((id : ℕ) → AreSettings (t id)) → (pairs : List (ℕ × ℕ)) (left : ℕ) (lines others : List Printed) (faulty also : Bool)
    → IsText (by_sizes packet_lists t) pairs left lines faulty → IsText (by_sizes packet_lists t) pairs left others also
    → (lines ≡ others) × (faulty ≡ also)

-- and one at least
abbrev pub SomeTextOfPackets : Type 0
SomeTextOfPackets =
    (t : ℕ → Sizes) → ((id : ℕ) → AreSettings (t id)) → (pairs : List (ℕ × ℕ)) (left : ℕ) → All HasByte pairs
    → (lines : List Printed) × (faulty : Bool) × IsText (by_sizes packet_lists t) pairs left lines faulty

-- what is printed of packets before the ends, in this layout, begins with what is printed of each front of the input
abbrev pub FrontsOfPacketsBegin : (List ℕ → List (ℕ × ℕ)) → Type 0
FrontsOfPacketsBegin carried =
    (t : ℕ → Sizes) → ((id : ℕ) → AreSettings (t id)) → (bytes more : List ℕ) (first lines : List Printed)
    → BodyFrom (by_sizes packet_lists t) [] (carried bytes) first → BodyFrom (by_sizes packet_lists t) [] (carried (bytes ++ more)) lines
    → BeginsWith first lines

-- what is printed of the packets of a stream: their lines, and that of how it ends; and nothing of no byte
abbrev pub PacketsPrinted : Sizes → ℕ → List ℕ → List Printed → Type 0
PacketsPrinted s id [] lines = lines ≡ []
PacketsPrinted s id (b ∷ bytes) lines =
    (packets : List (ℕ × Packet)) × (ending : Ending) × IsStream s (b ∷ bytes) packets ending
    × (lines ≡ lines_under id (packet_lines id packets ++ end_line id (end_of ending) ∷ []))

-- whatever else is printed, the lines of a source are those of the packets of its own bytes, by its own sizes
abbrev pub PacketsAreAlone : Type 0
PacketsAreAlone =
    (t : ℕ → Sizes) (id : ℕ) → IsId id → AreSettings (t id)
    → (pairs : List (ℕ × ℕ)) (left : ℕ) (lines : List Printed) (faulty : Bool) → IsText (by_sizes packet_lists t) pairs left lines faulty
    → PacketsPrinted (t id) id (of id pairs) (lines_with id lines)

-- each line among packets has one LF, which ends it
abbrev pub EachPacketIsALine : Type 0
EachPacketIsALine =
    (t : ℕ → Sizes) (pairs : List (ℕ × ℕ)) (left : ℕ) (lines : List Printed) (faulty : Bool)
    → IsText (by_sizes packet_lists t) pairs left lines faulty → All (λ (l : Printed). IsLine l.line) lines
