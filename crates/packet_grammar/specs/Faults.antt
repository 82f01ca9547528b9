-- Which bytes show which fault: each time the bytes from a packet's first one up to the one that shows it (Arm IHI 0064,
-- "Descriptions of Trace Packets").
use Rattle.std.specs.Prelude.{◌≡◌, ◌≢◌, ℕ, ◌<◌, ◌≤◌, ◌||◌, not, replicate, Bool, true, List, [], ◌∷◌, ◌++◌, length, Some, Err, if◌then◌else◌}
use Rattle.etm_types.specs.SameContext.{same_flag}
use Rattle.etm_types.specs.Settings.{Sizes}
use Rattle.packet_grammar.specs.declared.fault.PacketFault.{PacketFault}
use Rattle.packet_grammar.specs.declared.fault.PacketFault.TheVariants.{Extension, BrokenSync, ExceptionTwoByte, ExceptionForm}
use Rattle.packet_grammar.specs.Fields.{bit}
use Rattle.packet_grammar.specs.Numbers.{Number}
use Rattle.packet_grammar.specs.Contexts.{Context}
use Rattle.packet_grammar.specs.Headers.{refused_headers, fault_in}
use Rattle.packet_grammar.specs.Spelling.{TraceInfo}

-- Alignment Synchronization packet: so many 00 and one byte more that break off what could be one, a byte other than 00 among
-- its zeros, or other than 80 after them. Another 00 stands before these bytes.
pub record BreaksSync (bytes : List ℕ) : Type 0 where
  pub zeros : ℕ
  pub last : ℕ
  pub whole : bytes ≡ replicate zeros 0x00 ++ last ∷ []
  pub some : 1 ≤ zeros
  pub most : zeros ≤ 10
  pub early : zeros < 10 → last ≢ 0x00
  pub late : zeros ≡ 10 → last ≢ 0x80

-- Alignment Synchronization packet, Discard packet, Overflow packet: what shows a fault after their first 00
abbrev pub BadSync : PacketFault → List ℕ → Type 0
BadSync (Extension b) bytes = (bytes ≡ b ∷ []) × (b ≢ 0x00) × (b ≢ 0x03) × (b ≢ 0x05)
BadSync BrokenSync bytes = BreaksSync bytes
BadSync fault bytes = ⊥

-- the packet that a fault is in
pub data FaultyPart : Type 0 where
  in_header : FaultyPart
  in_sync : FaultyPart
  in_info : FaultyPart
  in_exception : FaultyPart
  in_number : FaultyPart
  in_context : FaultyPart
  in_context_of_32 : FaultyPart
  in_context_of_64 : FaultyPart

abbrev pub ShowsAt : Sizes → FaultyPart → PacketFault → List ℕ → Type 0
-- a header that is no packet's
ShowsAt s in_header fault bytes = (h : ℕ) × (bytes ≡ h ∷ []) × (fault_in refused_headers h ≡ Some fault)
-- Alignment Synchronization packet, Discard packet, Overflow packet
ShowsAt s in_sync fault bytes = (rest : List ℕ) × (bytes ≡ 0x00 ∷ rest) × BadSync fault rest
-- Trace Info packet: bits 7 to 4 of the control byte (PLCTL), an INFO other than 0, or a number that is too long
ShowsAt s in_info fault bytes = (rest : List ℕ) × (bytes ≡ 0x01 ∷ rest) × TraceInfo (Err fault) rest
-- Exception instruction trace packet: another byte follows, or bits 6 and 0 (E1 and E0) are the same
ShowsAt s in_exception fault bytes =
    (b : ℕ) × (bytes ≡ 0x06 ∷ b ∷ []) × ((bit 7 b || same_flag (bit 6 b) (bit 0 b)) ≡ true)
    × (fault ≡ (if bit 7 b then ExceptionTwoByte b else ExceptionForm b))
-- Commit packet, Cancel Format 1 packet
ShowsAt s in_number fault bytes = (h : ℕ) × (rest : List ℕ) × (0x2d ≤ h) × (h ≤ 0x2f) × (bytes ≡ h ∷ rest) × Number (Err fault) rest
-- Context packet: an info byte in AArch32 state
ShowsAt s in_context fault bytes = (rest : List ℕ) × (bytes ≡ 0x81 ∷ rest) × Context s (Err fault) rest
-- Address with Context packet
ShowsAt s in_context_of_32 fault bytes =
    (given : List ℕ) × (rest : List ℕ) × (bytes ≡ 0x82 ∷ given ++ rest) × (length given ≡ 4) × Context s (Err fault) rest
ShowsAt s in_context_of_64 fault bytes =
    (given : List ℕ) × (rest : List ℕ) × (bytes ≡ 0x85 ∷ given ++ rest) × (length given ≡ 8) × Context s (Err fault) rest

-- the bytes show the fault, and the last of them is the first that does
abbrev pub SpellsFault : Sizes → PacketFault → List ℕ → Type 0
SpellsFault s fault bytes = (place : FaultyPart) × ShowsAt s place fault bytes
