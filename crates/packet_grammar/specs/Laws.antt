-- What holds of the spellings as a whole, under any settings (Arm IHI 0064, "Descriptions of Trace Packets").
use Rattle.std.specs.Prelude.{◌≡◌, ◌⊎◌, ℕ, ◌<◌, ◌≤◌, All, Contains, List, [], ◌∷◌, ◌++◌, length, drop, Ok, Err}
use Rattle.etm_types.specs.Settings.{Sizes, AreSettings}
use Rattle.packet_grammar.specs.declared.packet.Packet.{Packet}
use Rattle.packet_grammar.specs.declared.packet.Packet.TheVariants.{Async}
use Rattle.packet_grammar.specs.Parts.{Outcome}
use Rattle.packet_grammar.specs.Ranges.{IsPacket}
use Rattle.packet_grammar.specs.Spelling.{SpellsPacket}
use Rattle.packet_grammar.specs.declared.fault.PacketFault.{PacketFault}
use Rattle.packet_grammar.specs.Entering.{EntersAt}
use Rattle.packet_grammar.specs.Parsed.{Begins, Ending, clean, fault, FirstSync, IsStream, Spells, SyncAt}

-- a spelling that stands at the front of a spelling is all of it
abbrev pub NoneBeginsAnother : Type 0
NoneBeginsAnother =
    (s : Sizes) → AreSettings s → (outcome other : Outcome Packet) (text rest : List ℕ)
    → Spells s outcome (text ++ rest) → Spells s other text → rest ≡ []

-- bytes spell one outcome at most
abbrev pub OneOutcome : Type 0
OneOutcome =
    (s : Sizes) → AreSettings s → (outcome other : Outcome Packet) (bytes : List ℕ)
    → Spells s outcome bytes → Spells s other bytes → outcome ≡ other

-- a spelling stands at the front of the bytes
pub record BeginsWithOne (s : Sizes) (bytes : List ℕ) : Type 0 where
  pub outcome : Outcome Packet
  pub text : List ℕ
  pub rest : List ℕ
  pub parts : bytes ≡ text ++ rest
  pub spells : Spells s outcome text

-- bytes lack the end of a spelling, or a spelling stands at their front
abbrev pub SpelledOrBegun : Type 0
SpelledOrBegun =
    (s : Sizes) → AreSettings s → (bytes : List ℕ) → All (λ b. b < 256) bytes → Begins s bytes ⊎ BeginsWithOne s bytes

abbrev pub NotBoth : Type 0
NotBoth = (s : Sizes) → AreSettings s → (bytes : List ℕ) → Begins s bytes → BeginsWithOne s bytes → ⊥

-- the most bytes of a packet: a Trace Info packet of a header, a control byte and four sections of five bytes
abbrev pub longest_packet : ℕ
longest_packet = 22

-- no spelling has more bytes
abbrev pub AtMost : ℕ → Type 0
AtMost most = (s : Sizes) → AreSettings s → (outcome : Outcome Packet) (bytes : List ℕ) → Spells s outcome bytes → length bytes ≤ most

-- what a stream is: its packets, each with its offset, and how it ends
pub record Stream (s : Sizes) (bytes : List ℕ) : Type 0 where
  pub packets : List (ℕ × Packet)
  pub ending : Ending
  pub is : IsStream s bytes packets ending

-- each list of bytes is a stream
abbrev pub EachIsAStream : Type 0
EachIsAStream = (s : Sizes) → AreSettings s → (bytes : List ℕ) → All (λ b. b < 256) bytes → Stream s bytes

-- in one way alone
abbrev pub OneStream : Type 0
OneStream =
    (s : Sizes) → AreSettings s → (bytes : List ℕ) (packets others : List (ℕ × Packet)) (ending other : Ending)
    → IsStream s bytes packets ending → IsStream s bytes others other → (packets ≡ others) × (ending ≡ other)

-- with the A-sync that was found as its first packet
abbrev pub StartsWithSync : Type 0
StartsWithSync =
    (s : Sizes) → AreSettings s → (bytes : List ℕ) (packets : List (ℕ × Packet)) (ending : Ending) (at : ℕ)
    → IsStream s bytes packets ending → FirstSync at bytes → (others : List (ℕ × Packet)) × (packets ≡ (at, Async) ∷ others)

-- After whole packets one spelling more is one packet more, at the offset where they end ..
abbrev pub GoesOnByAPacket : Type 0
GoesOnByAPacket =
    (s : Sizes) (bytes text : List ℕ) (packets : List (ℕ × Packet)) (packet : Packet)
    → IsStream s bytes packets clean → Spells s (Ok packet) text → IsStream s (bytes ++ text) (packets ++ (length bytes, packet) ∷ []) clean

-- .. or the fault there, whatever follows it
abbrev pub GoesOnByAFault : Type 0
GoesOnByAFault =
    (s : Sizes) (bytes text rest : List ℕ) (packets : List (ℕ × Packet)) (f : PacketFault)
    → IsStream s bytes packets clean → Spells s (Err f) text → IsStream s (bytes ++ (text ++ rest)) packets (fault (length bytes) f)

-- a stream with a fault stays as it is, whatever follows
abbrev pub FaultStays : Type 0
FaultStays =
    (s : Sizes) (bytes more : List ℕ) (packets : List (ℕ × Packet)) (at : ℕ) (f : PacketFault)
    → IsStream s bytes packets (fault at f) → IsStream s (bytes ++ more) packets (fault at f)

-- the packets of a longer stream begin with those of its front
abbrev pub BeginsAlike : Type 0
BeginsAlike =
    (s : Sizes) → AreSettings s → (bytes more : List ℕ) (packets others : List (ℕ × Packet)) (ending other : Ending)
    → IsStream s bytes packets ending → IsStream s (bytes ++ more) others other → (rest : List (ℕ × Packet)) × (others ≡ packets ++ rest)

-- and where a fault ends the front, it has no packet more and ends with the same fault
abbrev pub FaultEndsBoth : Type 0
FaultEndsBoth =
    (s : Sizes) → AreSettings s → (bytes more : List ℕ) (packets others : List (ℕ × Packet)) (at : ℕ) (f : PacketFault) (other : Ending)
    → IsStream s bytes packets (fault at f) → IsStream s (bytes ++ more) others other → (others ≡ packets) × (other ≡ fault at f)

-- an A-sync anywhere in the bytes of a stream that ends behind a packet is one of its packets: no other packets have such bytes in them
abbrev pub EachSyncIsAPacket : Type 0
EachSyncIsAPacket =
    (s : Sizes) → AreSettings s → (bytes : List ℕ) (packets : List (ℕ × Packet)) (at : ℕ)
    → IsStream s bytes packets clean → SyncAt at bytes → Contains packets (at, Async)

-- so a reader of its last bytes alone reads the packets from the first A-sync in them on
abbrev pub LastBytesAreAStream : Type 0
LastBytesAreAStream =
    (s : Sizes) → AreSettings s → (bytes : List ℕ) (packets : List (ℕ × Packet)) (missing offset : ℕ)
    → IsStream s bytes packets clean → FirstSync offset (drop missing bytes) → EntersAt s bytes packets missing offset

-- the values of a packet that bytes spell are in their ranges
abbrev pub ValuesFit : Type 0
ValuesFit = (s : Sizes) (packet : Packet) (bytes : List ℕ) → All (λ b. b < 256) bytes → SpellsPacket s packet bytes → IsPacket s packet
