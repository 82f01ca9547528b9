-- The bytes that are written for a packet (Arm IHI 0064, "Descriptions of Trace Packets").
use Rattle.std.specs.Prelude.{ℕ, ◌+◌, ◌-◌, not, replicate, if◌then◌else◌, List, [], ◌∷◌, ◌++◌, Option, Some, None}
use Rattle.std.specs.Option.{is_some}
use Rattle.etm_types.specs.Settings.{Sizes}
use Rattle.etm_types.specs.declared.address.AddrForm.TheVariants.{Match, Short1, Short2, Long32, Long64}
use Rattle.packet_grammar.specs.Fields.{from_bit}
use Rattle.packet_grammar.specs.declared.packet.Packet.{Packet}
use Rattle.packet_grammar.specs.declared.packet.Packet.TheVariants.{Async, Discard, Overflow, Info, On, Ignore, Event, Time, Exc, Commit, Cancel, Mispredict}
use Rattle.packet_grammar.specs.declared.packet.Packet.TheVariants.{Cancel2, Cancel3, CtxSame, CtxInfo, Addr, Atoms}
use Rattle.packet_writer.specs.Numbers.{number, time_stamp}
use Rattle.packet_writer.specs.Contexts.{bit_where, context, short_1, short_2, long_32, long_64}
use Rattle.packet_writer.specs.Atoms.{few, run_byte}

-- a section of a trace info packet
abbrev pub section : Option ℕ → List ℕ
section None = []
section (Some n) = number n

-- bits 0 to 3 of a control byte say which of INFO, KEY, SPEC and CYCT follow
abbrev pub control : Option ℕ → Option ℕ → Option ℕ → Option ℕ → ℕ
control info key spec cyct = bit_where 0 (is_some info) + bit_where 1 (is_some key) + bit_where 2 (is_some spec) + bit_where 3 (is_some cyct)

-- the shortest spelling of a packet that has any; of others nothing is meant
abbrev pub spelling : Sizes → Packet → List ℕ
-- Alignment Synchronization packet
spelling s Async = 0x00 ∷ replicate 10 0x00 ++ 0x80 ∷ []
-- Discard packet
spelling s Discard = 0x00 ∷ 0x03 ∷ []
-- Overflow packet
spelling s Overflow = 0x00 ∷ 0x05 ∷ []
-- Trace Info packet
spelling s (Info info key spec cyct) = 0x01 ∷ control info key spec cyct ∷ section info ++ (section key ++ (section spec ++ section cyct))
-- Timestamp packet
spelling s (Time bits low) = 0x02 ∷ time_stamp bits low
-- Trace On packet
spelling s On = 0x04 ∷ []
-- Exception instruction trace packet: bits 5 to 1 (TYPE), and bit 6 (E1) where the address is the target too, else bit 0 (E0)
spelling s (Exc kind target) = 0x06 ∷ (from_bit 1 kind + bit_where 6 target + bit_where 0 (not target)) ∷ []
-- Commit packet
spelling s (Commit n) = 0x2d ∷ number n
-- Cancel Format 1 packet: bit 0 (M)
spelling s (Cancel n flip) = (if flip then 0x2f else 0x2e) ∷ number n
-- Mispredict packet
spelling s (Mispredict atoms) = (0x30 + few atoms) ∷ []
-- Cancel Format 2 packet
spelling s (Cancel2 atoms) = (0x34 + few atoms) ∷ []
-- Cancel Format 3 packet: bits 2 and 1 (CC), and bit 0 (A)
spelling s (Cancel3 e n) = (0x38 + from_bit 1 (n - 2) + bit_where 0 e) ∷ []
-- Ignore packet
spelling s Ignore = 0x70 ∷ []
-- Event packet: bits 3 to 0 (EVENT)
spelling s (Event n) = (0x70 + n) ∷ []
-- Context packet
spelling s CtxSame = 0x80 ∷ []
spelling s (CtxInfo ctx) = 0x81 ∷ context s ctx
-- Address with Context packet
spelling s (Addr (Long32 a) (Some ctx)) = 0x82 ∷ long_32 a ++ context s ctx
spelling s (Addr (Long64 a) (Some ctx)) = 0x85 ∷ long_64 a ++ context s ctx
spelling s (Addr form (Some ctx)) = []
-- Exact Match Address packet
spelling s (Addr (Match index) None) = (0x90 + index) ∷ []
-- Short Address packet
spelling s (Addr (Short1 a) None) = 0x95 ∷ short_1 a
spelling s (Addr (Short2 a) None) = 0x95 ∷ short_2 a
-- Long Address packets
spelling s (Addr (Long32 a) None) = 0x9a ∷ long_32 a
spelling s (Addr (Long64 a) None) = 0x9d ∷ long_64 a
-- Atom Format 1 to 6 packets
spelling s (Atoms run) = run_byte run ∷ []
