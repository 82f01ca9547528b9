-- How the elements of a list of packets come of those of each packet.
use Rattle.std.specs.Prelude.{◌≡◌, ◌<◌, All, ℕ, if◌then◌else◌, List, [], ◌∷◌, ◌++◌, Some, None}
use Rattle.etm_types.specs.Settings.{Sizes}
use Rattle.packet_grammar.specs.Ranges.{IsPacket}
use Rattle.packet_grammar.specs.Spelling.{SpellsPacket}
use Rattle.packet_grammar.specs.declared.packet.Packet.{Packet}
use Rattle.path_elements.specs.Held.{CanBeTaken}
use Rattle.path_elements.specs.Elements.{Told, Gained, untold, all_elements, elements_of, told_after, is_misplaced, with_offset}

-- no packet, no element
abbrev pub NoneAtFirst : Type 0
NoneAtFirst = all_elements untold [] ≡ record { elements = []; awaited = None; told = untold }

-- what one packet more adds to what was gained
abbrev pub with_packet : Gained → ℕ → Packet → Gained
with_packet gained at packet =
    if is_misplaced gained.told packet then record gained { awaited = Some at }
    else record gained { elements = gained.elements ++ with_offset at (elements_of gained.told packet); told = told_after gained.told packet }

-- after packets that all may come where they do, one more adds its elements, or may not come
abbrev pub EachPacketAdds : Type 0
EachPacketAdds =
    (told : Told) (packets : List (ℕ × Packet)) (at : ℕ) (packet : Packet)
    → (all_elements told packets).awaited ≡ None
    → all_elements told (packets ++ (at, packet) ∷ []) ≡ with_packet (all_elements told packets) at packet

-- after a packet that may not come where it does, no packet counts
abbrev pub NoneBehind : Type 0
NoneBehind =
    (told : Told) (packets more : List (ℕ × Packet)) (at : ℕ)
    → (all_elements told packets).awaited ≡ Some at
    → all_elements told (packets ++ more) ≡ all_elements told packets

-- a packet whose values are in their ranges can be taken
abbrev pub PacketsInRange : Type 0
PacketsInRange = (s : Sizes) (packet : Packet) → IsPacket s packet → CanBeTaken packet

-- and so can a packet that bytes spell, under whatever sizes
abbrev pub PacketsSpelled : Type 0
PacketsSpelled = (s : Sizes) (packet : Packet) (bytes : List ℕ) → All (λ b. b < 256) bytes → SpellsPacket s packet bytes → CanBeTaken packet
