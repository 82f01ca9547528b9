-- The answers to the bytes of a stream, one after the other.
use Rattle.std.specs.Prelude.{◌≡◌, ℕ, List, [], ◌∷◌, ◌++◌, Option, Some, None}
use Rattle.etm_types.specs.Settings.{Sizes, AreSettings}
use Rattle.packet_grammar.specs.declared.packet.Packet.{Packet}
use Rattle.packet_grammar.specs.declared.fault.PacketFault.{PacketFault}
use Rattle.packet_grammar.specs.Parsed.{Ending, no_sync, clean, cut, fault, IsStream}
use Rattle.packet_reader.specs.declared.step.Step.{Step}
use Rattle.packet_reader.specs.declared.step.Step.TheVariants.{Skipped, More, Whole, Bad, Stopped}
use Rattle.packet_reader.specs.Stands.{Gains}

-- each byte, behind those before it, has its answer
abbrev pub Answered : Sizes → List ℕ → List ℕ → List Step → Type 0
Answered s before [] [] = Unit {0}
Answered s before (byte ∷ bytes) (step ∷ steps) = Gains s before byte step × Answered s (before ++ byte ∷ []) bytes steps
Answered s before bytes steps = ⊥

-- the packet that an answer tells
abbrev pub told : Step → List (ℕ × Packet)
told (Whole at packet) = (at, packet) ∷ []
told step = []

-- the packets that the answers tell
abbrev pub packets_in : List Step → List (ℕ × Packet)
packets_in [] = []
packets_in (step ∷ steps) = told step ++ packets_in steps

-- the last fault that was told, after an answer
abbrev pub fault_after : Option (ℕ × PacketFault) → Step → Option (ℕ × PacketFault)
fault_after last (Bad at f) = Some (at, f)
fault_after last step = last

-- and after all of them
abbrev pub fault_in : Option (ℕ × PacketFault) → List Step → Option (ℕ × PacketFault)
fault_in last [] = last
fault_in last (step ∷ steps) = fault_in (fault_after last step) steps

-- the fault with which a stream ends
abbrev pub fault_of : Ending → Option (ℕ × PacketFault)
fault_of (fault at f) = Some (at, f)
fault_of ending = None

-- the stream is the packets that the answers tell, and ends with their fault, or else with none
pub record AddUp (s : Sizes) (bytes : List ℕ) (steps : List Step) : Type 0 where
  pub ending : Ending
  pub stream : IsStream s bytes (packets_in steps) ending
  pub fault : fault_of ending ≡ fault_in None steps

-- the last of some packets, which the last byte ends
abbrev pub newest : List (ℕ × Packet) → Step
newest [] = Skipped
newest (p ∷ []) = Whole p.0 p.1
newest (p ∷ q ∷ packets) = newest (q ∷ packets)

-- The answer to a byte, by how the stream before it ends, and by the packets and the end of the stream with it. So each
-- answer comes exactly there.
abbrev pub answer : Ending → List (ℕ × Packet) → Ending → Step
answer before packets no_sync = Skipped
answer before packets (cut n) = More
answer before packets clean = newest packets
answer (fault place g) packets (fault at f) = Stopped
answer before packets (fault at f) = Bad at f

abbrev pub EachHasItsAnswer : Type 0
EachHasItsAnswer =
    (s : Sizes) → AreSettings s → (bytes : List ℕ) (byte : ℕ) (step : Step) (packets others : List (ℕ × Packet)) (before ending : Ending)
    → Gains s bytes byte step → IsStream s bytes packets before → IsStream s (bytes ++ byte ∷ []) others ending → step ≡ answer before others ending
