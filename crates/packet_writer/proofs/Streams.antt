-- Packets that are written one after the other are the stream of these packets.
use Rattle.std.proofs.Common.{ℕ, ◌+◌, List, [], ◌∷◌, length, refl, inl, arith}
use Rattle.std.specs.Prelude.{All}
use Rattle.std.specs.List.{flat_map}
use Rattle.std.proofs.lemmas.List.Elements.{All-head, All-tail}
use Rattle.etm_types.specs.Settings.{Sizes}
use Rattle.packet_grammar.specs.declared.packet.Packet.{Packet}
use Rattle.packet_grammar.specs.declared.packet.Packet.TheVariants.{Async}
use Rattle.packet_grammar.specs.Parsed.{clean, Parses}
use Rattle.packet_writer.specs.Spelling.{spelling}
use Rattle.packet_writer.specs.Fitting.{HasSpelling}
use Rattle.packet_writer.specs.Laws.{with_offsets, WrittenIsRead}
use Rattle.packet_writer.proofs.Having.{it_spells}

parses : (s : Sizes) (at : ℕ) (packets : List Packet) → All (HasSpelling s) packets → Parses s at (flat_map (spelling s) packets) (with_offsets s at packets) clean
parses s at [] have = refl
parses s at (p ∷ packets) have = (
  spelling s p,
  flat_map (spelling s) packets,
  refl,
  refl,
  it_spells s p (All-head (HasSpelling s) p packets have),
  parses s (at + length (spelling s p)) packets (All-tail (HasSpelling s) p packets have),
)

pub written_is_read : WrittenIsRead
written_is_read s packets have =
    inl (
      0,
      record { here = refl; none_before = λ before less there. absurd (omega (arith, less)) },
      (spelling s Async, flat_map (spelling s) packets, refl, refl, refl, parses s 12 packets have),
    )
