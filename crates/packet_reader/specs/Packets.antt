-- Packets that are taken one after the other.
use Rattle.std.specs.Prelude.{ℕ, ◌<◌, All, List, [], ◌∷◌, ◌++◌, length, Ok, ⊤}
use Rattle.etm_types.specs.Settings.{Sizes}
use Rattle.packet_grammar.specs.Parsed.{Spells}
use Rattle.packet_grammar.specs.declared.packet.Packet.{Packet}
use Rattle.packet_reader.specs.Stands.{PacketReading, TakesPacket}

-- each of these texts, of at least one byte, spells the packet beside it
abbrev pub ArePackets : Sizes → List (List ℕ × Packet) → Type 0
ArePackets s [] = ⊤
ArePackets s (p ∷ ps) = (0 < length p.0) × All (λ (b : ℕ). b < 256) p.0 × Spells s (Ok p.1) p.0 × ArePackets s ps

abbrev pub bytes_of : List (List ℕ × Packet) → List ℕ
bytes_of [] = []
bytes_of (p ∷ ps) = p.0 ++ bytes_of ps

abbrev pub length_of : List (List ℕ × Packet) → ℕ
length_of ps = length (bytes_of ps)

-- a reader takes packets, and then one more, at this offset
abbrev pub TakesPackets : PacketReading → List (List ℕ × Packet) → List ℕ × Packet → ℕ → PacketReading → Type 0
TakesPackets r [] end at r' = TakesPacket r r' end.0 at end.1
TakesPackets r (p ∷ ps) end at r' = (first : ℕ) × (next : PacketReading) × TakesPacket r next p.0 first p.1 × TakesPackets next ps end at r'
