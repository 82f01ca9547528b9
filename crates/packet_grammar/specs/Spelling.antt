-- Which bytes spell which packet (Arm IHI 0064, "Descriptions of Trace Packets").
use Rattle.std.specs.Prelude.{◌≡◌, ◌≤◌, ℕ, ◌+◌, ◌-◌, ◌^◌, ◌==◌, not, replicate, Bool, false, List, [], ◌∷◌, ◌++◌, Option, Some, None, Ok, Err, nat_lt}
use Rattle.std.specs.Prelude.{if◌then◌else◌}
use Rattle.etm_types.specs.Settings.{Sizes}
use Rattle.etm_types.specs.Atoms.{IsAtomRun, atoms_in}
use Rattle.etm_types.specs.declared.address.AddrForm.TheVariants.{Match, Short1, Short2, Long32, Long64}
use Rattle.atom_formats.specs.Formats.{Spells as TellsAtoms}
use Rattle.packet_grammar.specs.declared.packet.Packet.{Packet}
use Rattle.packet_grammar.specs.declared.packet.Packet.TheVariants.{Async, Discard, Overflow, Info, On, Ignore, Event, Time, Exc, Commit, Cancel, Mispredict}
use Rattle.packet_grammar.specs.declared.packet.Packet.TheVariants.{Cancel2, Cancel3, CtxSame, CtxInfo, Addr, Atoms}
use Rattle.packet_grammar.specs.declared.fault.PacketFault.TheVariants.{InfoControl, InfoMode}
use Rattle.packet_grammar.specs.Parts.{Part, Known, Byte, Where, Then, As}
use Rattle.packet_grammar.specs.Fields.{bit, field, lowest}
use Rattle.packet_grammar.specs.Numbers.{Number, TimeStamp}
use Rattle.packet_grammar.specs.Contexts.{Context, ShortAddress, LongAddress32, LongAddress64}
use Rattle.packet_grammar.specs.Headers.{few_atoms}

-- a section of a trace info packet, where its bit says that it is there
abbrev pub Section : Bool → Part ℕ → Part (Option ℕ)
Section there number = Where there (As number (λ n. Some n)) (Known (Ok None))

-- INFO: only 0 is a mode of this profile
abbrev pub Mode : Part ℕ
Mode = Then Number (λ mode. Known (if mode == 0 then Ok mode else Err (InfoMode mode)))

-- a control byte, whose bits 0 to 3 say which of INFO, KEY, SPEC and CYCT follow
abbrev pub TraceInfo : Part Packet
TraceInfo =
    Byte (λ control. Where (nat_lt control (2 ^ 4))
    (Then (Section (bit 0 control) Mode) (λ info. Then (Section (bit 1 control) Number) (λ key.
    Then (Section (bit 2 control) Number) (λ spec. As (Section (bit 3 control) Number) (λ cyct. Info info key spec cyct)))))
    (Known (Err (InfoControl control))))

-- one byte, from the first to the last of these
abbrev pub OneOf : ℕ → ℕ → ℕ → List ℕ → Type 0
OneOf first last header bytes = (first ≤ header) × (header ≤ last) × (bytes ≡ header ∷ [])

-- the bytes as a whole are a spelling of the packet
abbrev pub SpellsPacket : Sizes → Packet → List ℕ → Type 0
-- Alignment Synchronization packet
SpellsPacket s Async bytes = bytes ≡ 0x00 ∷ replicate 10 0x00 ++ 0x80 ∷ []
-- Discard packet
SpellsPacket s Discard bytes = bytes ≡ 0x00 ∷ 0x03 ∷ []
-- Overflow packet
SpellsPacket s Overflow bytes = bytes ≡ 0x00 ∷ 0x05 ∷ []
-- Trace Info packet
SpellsPacket s (Info info key spec cyct) bytes = (rest : List ℕ) × (bytes ≡ 0x01 ∷ rest) × TraceInfo (Ok (Info info key spec cyct)) rest
-- Timestamp packet
SpellsPacket s (Time bits low) bytes = (rest : List ℕ) × (bytes ≡ 0x02 ∷ rest) × TimeStamp (Ok (record { bits = bits; low = low })) rest
-- Trace On packet
SpellsPacket s On bytes = bytes ≡ 0x04 ∷ []
-- Exception instruction trace packet: bits 6 and 0 (E1 and E0) are 0 1 where the address that follows is the preferred return
-- address alone, and 1 0 where it is the target of the P0 element before too; bits 5 to 1 are the type (TYPE), and bit 7 (C) says
-- that another byte follows
SpellsPacket s (Exc kind target) bytes =
    (b : ℕ) × (bytes ≡ 0x06 ∷ b ∷ []) × (bit 7 b ≡ false) × (bit 6 b ≡ target) × (bit 0 b ≡ not target) × (kind ≡ field 5 1 b)
-- Commit packet
SpellsPacket s (Commit n) bytes = (rest : List ℕ) × (bytes ≡ 0x2d ∷ rest) × Number (Ok n) rest
-- Cancel Format 1 packet: bit 0 (M) says that a prediction was wrong
SpellsPacket s (Cancel n flip) bytes = (rest : List ℕ) × (bytes ≡ (if flip then 0x2f else 0x2e) ∷ rest) × Number (Ok n) rest
-- Mispredict packet
SpellsPacket s (Mispredict few) bytes = (h : ℕ) × OneOf 0x30 0x33 h bytes × (few ≡ few_atoms h)
-- Cancel Format 2 packet
SpellsPacket s (Cancel2 few) bytes = (h : ℕ) × OneOf 0x34 0x37 h bytes × (few ≡ few_atoms h)
-- Cancel Format 3 packet: bit 0 (A) is an atom E, and bits 2 and 1 (CC) are the number of elements less 2
SpellsPacket s (Cancel3 e n) bytes = (h : ℕ) × OneOf 0x38 0x3f h bytes × (e ≡ (lowest 1 h == 1)) × (n ≡ field 2 1 h + 2)
-- Ignore packet
SpellsPacket s Ignore bytes = bytes ≡ 0x70 ∷ []
-- Event packet: bits 3 to 0 (EVENT) are the events
SpellsPacket s (Event n) bytes = (h : ℕ) × OneOf 0x71 0x7f h bytes × (n ≡ lowest 4 h)
-- Context packet
SpellsPacket s CtxSame bytes = bytes ≡ 0x80 ∷ []
SpellsPacket s (CtxInfo ctx) bytes = (rest : List ℕ) × (bytes ≡ 0x81 ∷ rest) × Context s (Ok ctx) rest
-- Address with Context packet
SpellsPacket s (Addr (Long32 a) (Some ctx)) bytes =
    (given : List ℕ) × (rest : List ℕ) × (bytes ≡ 0x82 ∷ given ++ rest) × LongAddress32 (Ok (Long32 a)) given × Context s (Ok ctx) rest
SpellsPacket s (Addr (Long64 a) (Some ctx)) bytes =
    (given : List ℕ) × (rest : List ℕ) × (bytes ≡ 0x85 ∷ given ++ rest) × LongAddress64 (Ok (Long64 a)) given × Context s (Ok ctx) rest
SpellsPacket s (Addr form (Some ctx)) bytes = ⊥
-- Exact Match Address packet
SpellsPacket s (Addr (Match index) None) bytes = (h : ℕ) × OneOf 0x90 0x92 h bytes × (index ≡ h - 0x90)
-- Short Address packet
SpellsPacket s (Addr (Short1 a) None) bytes = (rest : List ℕ) × (bytes ≡ 0x95 ∷ rest) × ShortAddress (Ok (Short1 a)) rest
SpellsPacket s (Addr (Short2 a) None) bytes = (rest : List ℕ) × (bytes ≡ 0x95 ∷ rest) × ShortAddress (Ok (Short2 a)) rest
-- Long Address packets
SpellsPacket s (Addr (Long32 a) None) bytes = (rest : List ℕ) × (bytes ≡ 0x9a ∷ rest) × LongAddress32 (Ok (Long32 a)) rest
SpellsPacket s (Addr (Long64 a) None) bytes = (rest : List ℕ) × (bytes ≡ 0x9d ∷ rest) × LongAddress64 (Ok (Long64 a)) rest
-- Atom Format 1 to 6 packets
SpellsPacket s (Atoms run) bytes = (h : ℕ) × OneOf 0xc0 0xff h bytes × IsAtomRun run × TellsAtoms h (atoms_in run)
