-- At which bytes a reader stands, and what a byte more brings (Arm IHI 0064, "Alignment Synchronization packet", "Descriptions
-- of Trace Packets").
use Rattle.std.specs.Prelude.{◌≡◌, ◌↔◌, Bool, true, false, ℕ, suc, ◌+◌, ◌-◌, ◌<◌, ◌≤◌, ◌==◌, List, [], ◌∷◌, ◌++◌, length, replicate, Ok, Err, nat_lt}
use Rattle.std.specs.Prelude.{if◌then◌else◌}
use Rattle.etm_types.specs.Settings.{Sizes}
use Rattle.packet_grammar.specs.declared.packet.Packet.{Packet}
use Rattle.packet_grammar.specs.declared.fault.PacketFault.{PacketFault}
use Rattle.packet_grammar.specs.Parts.{Outcome}
use Rattle.packet_grammar.specs.Ranges.{IsPacket}
use Rattle.packet_grammar.specs.Parsed.{Spells, Ending, no_sync, clean, cut, fault, IsStream, SyncAt}
use Rattle.packet_reader.specs.declared.state.State.{State}
use Rattle.packet_reader.specs.declared.state.Progress.{Progress}
use Rattle.packet_reader.specs.declared.state.Progress.TheVariants.{Next, Done}
use Rattle.packet_reader.specs.declared.phase.Phase.{Phase}
use Rattle.packet_reader.specs.declared.phase.Phase.TheVariants.{Hunting, Between, Within, Failed}
use Rattle.packet_reader.specs.declared.step.Step.{Step}
use Rattle.packet_reader.specs.declared.step.Step.TheVariants.{Skipped, More, Whole, Bad, Stopped}
use Rattle.packet_reader.specs.Trees.{Leads}
use Rattle.packet_reader.specs.States.{tree_of, Fits}

-- what contracts see of a reader
pub record PacketReading : Type 0 where
  pub settings : Sizes
  pub phase : Phase
  pub start : ℕ
  pub offset : ℕ

-- how many 00 an A-sync has
abbrev pub zeros_of_sync : ℕ
zeros_of_sync = 11

abbrev pub FitsPhase : Phase → Type 0
FitsPhase (Hunting zeros) = zeros ≤ zeros_of_sync
FitsPhase (Within state) = Fits state
FitsPhase _ = Unit

-- how many bytes a phase has counted
abbrev pub zeros_in : Phase → ℕ
zeros_in (Hunting zeros) = zeros
zeros_in _ = 0

-- a list ends in so many 00, and unless these are eleven, in no more
pub record Zeros (zeros : ℕ) (bytes : List ℕ) : Type 0 where
  pub front : List ℕ
  pub whole : bytes ≡ front ++ replicate zeros 0x00
  pub most : zeros ≤ zeros_of_sync
  pub all : zeros < zeros_of_sync → (other : List ℕ) → bytes ≡ other ++ replicate (suc zeros) 0x00 → ⊥

-- The bytes are whole packets and the bytes of a begun one, and what may follow these is what may follow in the state.
pub record PartOfPacket (s : Sizes) (state : State) (start : ℕ) (bytes : List ℕ) : Type 0 where
  pub front : List ℕ
  pub text : List ℕ
  pub parts : bytes ≡ front ++ text
  pub starts : length front ≡ start
  pub some : 0 < length text
  pub packets : List (ℕ × Packet)
  pub whole : IsStream s front packets clean
  pub follows : (outcome : Outcome Packet) (more : List ℕ) → Spells s outcome (text ++ more) ↔ Leads (tree_of s state) outcome more

abbrev pub InPhase : Sizes → Phase → ℕ → List ℕ → Type 0
InPhase s (Hunting zeros) start bytes = ((at : ℕ) → SyncAt at bytes → ⊥) × Zeros zeros bytes
InPhase s Between start bytes = (length bytes ≡ start) × ((packets : List (ℕ × Packet)) × IsStream s bytes packets clean)
InPhase s (Within state) start bytes = PartOfPacket s state start bytes
InPhase s Failed start bytes = (packets : List (ℕ × Packet)) × (at : ℕ) × (f : PacketFault) × IsStream s bytes packets (fault at f)

-- the reader took these bytes
abbrev pub StandsAt : PacketReading → List ℕ → Type 0
StandsAt r bytes = (length bytes ≡ r.offset) × InPhase r.settings r.phase r.start bytes

-- an ending from which a stream may go on
abbrev pub Goes : Ending → Type 0
Goes clean = Unit
Goes (cut n) = Unit
Goes no_sync = ⊥
Goes (fault at f) = ⊥

-- What the parse of a stream gains by a byte: it was so and is so. The packets and the ending of each list are settled by
-- its bytes.
abbrev pub Gains : Sizes → List ℕ → ℕ → Step → Type 0
Gains s bytes byte Skipped = IsStream s bytes [] no_sync × IsStream s (bytes ++ byte ∷ []) [] no_sync
Gains s bytes byte More =
    (packets : List (ℕ × Packet)) × (ending : Ending) × (n : ℕ) × Goes ending × IsStream s bytes packets ending
    × IsStream s (bytes ++ byte ∷ []) packets (cut n)
Gains s bytes byte (Whole at packet) =
    (packets : List (ℕ × Packet)) × (ending : Ending) × IsStream s bytes packets ending × IsStream s (bytes ++ byte ∷ []) (packets ++ (at, packet) ∷ []) clean
Gains s bytes byte (Bad at f) =
    (packets : List (ℕ × Packet)) × (ending : Ending) × Goes ending × IsStream s bytes packets ending × IsStream s (bytes ++ byte ∷ []) packets (fault at f)
Gains s bytes byte Stopped =
    (packets : List (ℕ × Packet)) × (at : ℕ) × (f : PacketFault) × IsStream s bytes packets (fault at f) × IsStream s (bytes ++ byte ∷ []) packets (fault at f)

-- What the parse of a stream gains by the bytes of a whole packet, the first of which has this offset.
abbrev pub GainsPacket : Sizes → List ℕ → List ℕ → ℕ → Packet → Type 0
GainsPacket s bytes text at packet =
    (packets : List (ℕ × Packet)) × (ending : Ending) × IsStream s bytes packets ending × IsStream s (bytes ++ text) (packets ++ (at, packet) ∷ []) clean

-- a reader took the bytes of a whole packet
pub record TakesPacket (old new : PacketReading) (text : List ℕ) (at : ℕ) (packet : Packet) : Type 0 where
  pub settings : new.settings ≡ old.settings
  pub offset : new.offset ≡ old.offset + length text
  pub stands : (bytes : List ℕ) → StandsAt old bytes → StandsAt new (bytes ++ text)
  pub gains : (bytes : List ℕ) → StandsAt old bytes → GainsPacket old.settings bytes text at packet
  pub values : IsPacket old.settings packet

-- what a byte makes of a reader: the phase, the offset at which the begun packet starts or the next one, and the answer
pub record Moved : Type 0 where
  pub phase : Phase
  pub start : ℕ
  pub step : Step

-- what progress on a packet that began at an offset makes of a reader that has taken so many bytes
abbrev pub settled : Progress → ℕ → ℕ → Moved
settled (Next state) at offset = record { phase = Within state; start = at; step = More }
settled (Done (Ok packet)) at offset = record { phase = Between; start = offset; step = Whole at packet }
settled (Done (Err f)) at offset = record { phase = Failed; start = offset; step = Bad at f }

-- in how many 00 bytes end, with one more
abbrev pub zeros_after : ℕ → ℕ → ℕ
zeros_after zeros byte = if byte == 0x00 then (if nat_lt zeros zeros_of_sync then zeros + 1 else zeros_of_sync) else 0

-- from a list to the list with a byte more
abbrev pub Moves : Sizes → Phase → ℕ → ℕ → ℕ → Moved → Type 0
Moves s phase start offset byte m =
    (bytes : List ℕ) → length bytes + 1 ≡ offset → InPhase s phase start bytes → InPhase s m.phase m.start (bytes ++ byte ∷ []) × Gains s bytes byte m.step

abbrev pub is_synced : Phase → Bool
is_synced (Hunting zeros) = false
is_synced _ = true

-- how many bytes of a begun packet a reader has taken
abbrev pub rest_in : Phase → ℕ → ℕ → ℕ
rest_in (Within state) start offset = offset - start
rest_in _ start offset = 0

-- how many bytes a stream has after its last packet
abbrev pub rest_of : Ending → ℕ
rest_of (cut n) = n
rest_of _ = 0
