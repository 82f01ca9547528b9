-- How a reader answers to the bytes of a packet.
use Rattle.std.specs.Prelude.{◌≡◌, ℕ, ◌-◌, ◌<◌, All, List, [], ◌∷◌, ◌++◌, length, replicate}
use Rattle.etm_types.specs.Settings.{Sizes, AreSettings}
use Rattle.packet_grammar.specs.declared.packet.Packet.{Packet}
use Rattle.packet_grammar.specs.Spelling.{SpellsPacket}
use Rattle.packet_grammar.specs.Parsed.{clean, IsStream}
use Rattle.packet_reader.specs.declared.step.Step.{Step}
use Rattle.packet_reader.specs.declared.step.Step.TheVariants.{More, Whole}
use Rattle.packet_reader.specs.Answered.{Answered}

-- behind whole packets, the bytes of a spelling have the answer More, but for the last: it has the packet, with the offset of the
-- first
abbrev pub EachSpellingIsTold : Type 0
EachSpellingIsTold =
    (s : Sizes) → AreSettings s → (bytes text : List ℕ) (packets : List (ℕ × Packet)) (packet : Packet) (steps : List Step)
    → IsStream s bytes packets clean → All (λ b. b < 256) text → SpellsPacket s packet text → Answered s bytes text steps
    → steps ≡ replicate (length text - 1) More ++ Whole (length bytes) packet ∷ []
