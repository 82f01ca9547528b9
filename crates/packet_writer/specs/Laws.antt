-- What the bytes that are written for packets are, under any settings (Arm IHI 0064, "Descriptions of Trace Packets").
use Rattle.std.specs.Prelude.{◌≡◌, ◌↔◌, ℕ, ◌+◌, ◌<◌, ◌≤◌, false, All, List, [], ◌∷◌, Some, None, length, slice_index}
use Rattle.std.specs.List.{flat_map}
use Rattle.etm_types.specs.Settings.{Sizes}
use Rattle.packet_grammar.specs.declared.packet.Packet.{Packet}
use Rattle.packet_grammar.specs.declared.packet.Packet.TheVariants.{Async, CtxInfo, Addr}
use Rattle.packet_grammar.specs.Fields.{bit, field}
use Rattle.etm_types.specs.declared.address.AddrForm.TheVariants.{Long32, Long64}
use Rattle.packet_grammar.specs.Spelling.{SpellsPacket}
use Rattle.packet_grammar.specs.Parsed.{clean, IsStream}
use Rattle.packet_writer.specs.Spelling.{spelling}
use Rattle.packet_writer.specs.Fitting.{Fits, HasSpelling}

-- where a packet has a spelling, this is one ..
abbrev pub ItSpells : Type 0
ItSpells = (s : Sizes) (packet : Packet) → HasSpelling s packet → SpellsPacket s packet (spelling s packet)

-- .. of bytes ..
abbrev pub OfBytes : Type 0
OfBytes = (s : Sizes) (packet : Packet) → HasSpelling s packet → All (λ b. b < 256) (spelling s packet)

-- .. and none has fewer
abbrev pub NoneIsShorter : Type 0
NoneIsShorter =
    (s : Sizes) (packet : Packet) (other : List ℕ) → All (λ b. b < 256) other → SpellsPacket s packet other → length (spelling s packet) ≤ length other

-- of an info byte a reader passes over bits 2 and 3, and bit 6 or 7 where the field has no byte
abbrev pub PlainInfo : Sizes → ℕ → Type 0
PlainInfo s info = (field 3 2 info ≡ 0) × (s.vmid_bytes ≡ 0 → bit 6 info ≡ false) × (s.cid_bytes ≡ 0 → bit 7 info ≡ false)

-- of a long address behind a header it passes over bit 7 of the first two bytes
abbrev pub PlainAddress : List ℕ → Type 0
PlainAddress bytes = (bit 7 (slice_index bytes 1) ≡ false) × (bit 7 (slice_index bytes 2) ≡ false)

-- each bit of a packet's bytes that a reader passes over is 0
abbrev pub PassedOverAreZero : Sizes → Packet → List ℕ → Type 0
PassedOverAreZero s (CtxInfo ctx) bytes = PlainInfo s (slice_index bytes 1)
PassedOverAreZero s (Addr (Long32 a) (Some ctx)) bytes = PlainAddress bytes × PlainInfo s (slice_index bytes 5)
PassedOverAreZero s (Addr (Long64 a) (Some ctx)) bytes = PlainAddress bytes × PlainInfo s (slice_index bytes 9)
PassedOverAreZero s (Addr (Long32 a) None) bytes = PlainAddress bytes
PassedOverAreZero s (Addr (Long64 a) None) bytes = PlainAddress bytes
PassedOverAreZero s packet bytes = Unit {0}

abbrev pub NoneIsSet : Type 0
NoneIsSet = (s : Sizes) (packet : Packet) → HasSpelling s packet → PassedOverAreZero s packet (spelling s packet)

-- a packet has a spelling exactly where its values fit
abbrev pub SpelledWhereFits : Type 0
SpelledWhereFits = (s : Sizes) (packet : Packet) → HasSpelling s packet ↔ Fits s packet

-- packets with their offsets, where they are written one after the other from an offset on
abbrev pub with_offsets : Sizes → ℕ → List Packet → List (ℕ × Packet)
with_offsets s at [] = []
with_offsets s at (packet ∷ packets) = (at, packet) ∷ with_offsets s (at + length (spelling s packet)) packets

-- what is written for packets, an A-sync first, is a stream of these packets, and it ends behind the last of them
abbrev pub WrittenIsRead : Type 0
WrittenIsRead =
    (s : Sizes) (packets : List Packet) → All (HasSpelling s) packets
    → IsStream s (flat_map (spelling s) (Async ∷ packets)) (with_offsets s 0 (Async ∷ packets)) clean
