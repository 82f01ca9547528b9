-- How the bytes of a stream parse: which packets they are, each with its offset, and how they end (Arm IHI 0064, "Alignment
-- Synchronization packet", "Descriptions of Trace Packets").
use Rattle.std.specs.Prelude.{All, ◌≡◌, ◌⊎◌, ℕ, ◌+◌, ◌<◌, List, [], ◌∷◌, ◌++◌, length, drop, Ok, Err, IsTrue, nat_eq}
use Rattle.std.specs.List.{starts_with}
use Rattle.etm_types.specs.Settings.{Sizes}
use Rattle.packet_grammar.specs.declared.packet.Packet.{Packet}
use Rattle.packet_grammar.specs.declared.fault.PacketFault.{PacketFault}
use Rattle.packet_grammar.specs.Parts.{Outcome}
use Rattle.packet_grammar.specs.Spelling.{SpellsPacket}
use Rattle.packet_grammar.specs.Faults.{SpellsFault}

-- the bytes are a spelling of the outcome
abbrev pub Spells : Sizes → Outcome Packet → List ℕ → Type 0
Spells s (Ok packet) bytes = SpellsPacket s packet bytes
Spells s (Err fault) bytes = SpellsFault s fault bytes

-- the bytes are a spelling that lacks its end, which is a list of bytes too
pub record Begins (s : Sizes) (bytes : List ℕ) : Type 0 where
  pub outcome : Outcome Packet
  pub more : List ℕ
  pub some : 0 < length more
  pub small : All (λ b. b < 256) more
  pub spells : Spells s outcome (bytes ++ more)

-- how a stream ends: no A-sync stands in it; after a packet; within one, of which so many bytes are there; or with a
-- fault, which begins at an offset
pub data Ending : Type 0 where
  no_sync : Ending
  clean : Ending
  cut : ℕ → Ending
  fault : ℕ → PacketFault → Ending

-- The bytes, of which the first has this offset, are these packets, one after the other, each with the offset of its first
-- byte, and so they end. What follows a fault is not read.
abbrev pub Parses : Sizes → ℕ → List ℕ → List (ℕ × Packet) → Ending → Type 0
Parses s at bytes [] no_sync = ⊥
Parses s at bytes [] clean = bytes ≡ []
Parses s at bytes [] (cut n) = (length bytes ≡ n) × (0 < n) × Begins s bytes
Parses s at bytes [] (fault place f) =
    (text : List ℕ) × (rest : List ℕ) × (place ≡ at) × (bytes ≡ text ++ rest) × Spells s (Err f) text
Parses s at bytes (packet ∷ packets) ending =
    (text : List ℕ) × (rest : List ℕ) × (packet.0 ≡ at) × (bytes ≡ text ++ rest) × Spells s (Ok packet.1) text × Parses s (at + length text) rest packets
    ending

-- Alignment Synchronization packet: eleven bytes 00, and 80
abbrev pub sync : List ℕ
sync = 0 ∷ 0 ∷ 0 ∷ 0 ∷ 0 ∷ 0 ∷ 0 ∷ 0 ∷ 0 ∷ 0 ∷ 0 ∷ 0x80 ∷ []

-- an A-sync stands at this offset
abbrev pub SyncAt : ℕ → List ℕ → Type 0
SyncAt at bytes = IsTrue (starts_with nat_eq (drop at bytes) sync)

-- the first A-sync stands at this offset
pub record FirstSync (at : ℕ) (bytes : List ℕ) : Type 0 where
  pub here : SyncAt at bytes
  pub none_before : (before : ℕ) → before < at → SyncAt before bytes → ⊥

-- Bytes are skipped up to the first A-sync. From there, with that A-sync as the first packet, the stream is packets.
abbrev pub IsStream : Sizes → List ℕ → List (ℕ × Packet) → Ending → Type 0
IsStream s bytes packets ending =
    ((at : ℕ) × FirstSync at bytes × Parses s at (drop at bytes) packets ending)
    ⊎ (((at : ℕ) → SyncAt at bytes → ⊥) × (packets ≡ []) × (ending ≡ no_sync))
