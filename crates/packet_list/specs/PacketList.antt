-- What is printed of a stream's packets.
use Rattle.std.specs.Prelude.{◌≡◌, ℕ, ◌<◌, Bool, false, All, List, [], ◌∷◌, ◌++◌, length, map, Option}
use Rattle.etm_types.specs.Settings.{AreSettings, Sizes}
use Rattle.packet_grammar.specs.declared.fault.PacketFault.{PacketFault}
use Rattle.packet_grammar.specs.declared.packet.Packet.{Packet}
use Rattle.capture_streams.specs.Texts.{Listing, adds_nothing, no_sums}
use Rattle.packet_grammar.specs.Ends.{end_of, is_fault}
use Rattle.packet_grammar.specs.Parsed.{Ending, IsStream}
use Rattle.packet_reader.specs.Answered.{fault_of}
use Rattle.packet_reader.specs.Stands.{PacketReading, StandsAt, TakesPacket}
use Rattle.path_text.specs.EndLines.{end_line}
use Rattle.path_text.specs.PacketLines.{packet_line}

-- the lines of packets, each with its offset
abbrev pub packet_lines : ℕ → List (ℕ × Packet) → List (List ℕ)
packet_lines id packets = map (λ (p : ℕ × Packet). packet_line id p.0 p.1) packets

-- the lines of the packets by which the parse of a stream grows with a byte
abbrev pub PacketGains : Sizes → ℕ → List ℕ → ℕ → List (List ℕ) → Type 0
PacketGains s id bytes byte lines =
    (packets : List (ℕ × Packet)) × (more : List (ℕ × Packet)) × (ending : Ending) × (next : Ending) × IsStream s bytes packets ending
    × IsStream s (bytes ++ byte ∷ []) (packets ++ more) next × (lines ≡ packet_lines id more)

-- the line of how it ends
abbrev pub PacketEnds : Sizes → ℕ → List ℕ → List ℕ → Bool → Type 0
PacketEnds s id bytes line faulty =
    (packets : List (ℕ × Packet)) × (ending : Ending) × IsStream s bytes packets ending × (line ≡ end_line id (end_of ending))
    × (faulty ≡ is_fault (end_of ending))

-- the packets of streams, under the sizes of their trace units
abbrev pub packet_lists : Sizes → Listing
packet_lists s = record { gains = PacketGains s; ends = PacketEnds s; adds = adds_nothing; sums = no_sums }

-- ---- at which bytes a stream stands

-- a stream whose packets are listed: the reader of its packets, the fault that its bytes showed, and whether a write failed
pub record Listed : Type 0 where
  pub reader : PacketReading
  pub fault : Option (ℕ × PacketFault)
  pub broken : Bool

-- a reader took these bytes, and this is the fault that they show
pub record HasRead (r : PacketReading) (found : Option (ℕ × PacketFault)) (bytes : List ℕ) : Type 0 where
  pub small : All (λ b. b < 256) bytes
  pub stands : StandsAt r bytes
  pub packets : List (ℕ × Packet)
  pub ending : Ending
  pub stream : IsStream r.settings bytes packets ending
  pub fault : fault_of ending ≡ found

-- a reader took some bytes, under settings
pub record IsReading (r : PacketReading) (found : Option (ℕ × PacketFault)) : Type 0 where
  pub settings : AreSettings r.settings
  pub bytes : List ℕ
  pub read : HasRead r found bytes

-- these bytes were taken, and no write failed
pub record ListedAt (l : Listed) (bytes : List ℕ) : Type 0 where
  pub whole : l.broken ≡ false
  pub read : HasRead l.reader l.fault bytes

-- a reader took the packet at the front of some bytes, and the others stand behind it
pub record TakesFront (old new : PacketReading) (bytes behind : List ℕ) (at : ℕ) (packet : Packet) : Type 0 where
  pub text : List ℕ
  pub parts : bytes ≡ text ++ behind
  pub some : 0 < length text
  pub takes : TakesPacket old new text at packet
