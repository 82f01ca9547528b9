-- Where a reader enters a stream of whose bytes the first are missing (Arm IHI 0064, "Alignment Synchronization packet").
use Rattle.std.specs.Prelude.{◌≡◌, ℕ, ◌+◌, ◌-◌, List, [], ◌∷◌, ◌++◌, drop}
use Rattle.etm_types.specs.Settings.{Sizes}
use Rattle.packet_grammar.specs.Parsed.{IsStream, clean}
use Rattle.packet_grammar.specs.declared.packet.Packet.{Packet}
use Rattle.packet_grammar.specs.declared.packet.Packet.TheVariants.{Async}

-- packets with the offsets that they have where so many bytes are missing
abbrev pub earlier : ℕ → List (ℕ × Packet) → List (ℕ × Packet)
earlier missing [] = []
earlier missing (p ∷ packets) = (p.0 - missing, p.1) ∷ earlier missing packets

-- The first bytes are missing, and an A-sync stands at this offset of the others. It is a packet of the whole stream, and the other
-- bytes are a stream too: that packet, and all packets behind it.
pub record EntersAt (s : Sizes) (bytes : List ℕ) (packets : List (ℕ × Packet)) (missing offset : ℕ) : Type 0 where
  pub front : List (ℕ × Packet)
  pub rest : List (ℕ × Packet)
  pub parts : packets ≡ front ++ (missing + offset, Async) ∷ rest
  pub stream : IsStream s (drop missing bytes) (earlier missing ((missing + offset, Async) ∷ rest)) clean
