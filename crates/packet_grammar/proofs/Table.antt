-- The spellings by their headers: what each header says of the bytes behind it.
use Rattle.std.specs.Prelude.{◌≡◌, ◌+◌, ◌-◌, replicate, ℕ, ◌/◌, ◌%◌, ◌==◌, ◌&&◌, Bool, true}
use Rattle.std.specs.Prelude.{false, List, [], ◌∷◌, ◌++◌, Option, Some, None, Ok, Err, nat_le, if◌then◌else◌}
use Rattle.etm_types.specs.Settings.{Sizes}
use Rattle.etm_types.specs.Atoms.{IsAtomRun, atoms_in}
use Rattle.etm_types.specs.declared.address.AddrForm.TheVariants.{Match}
use Rattle.etm_types.specs.declared.atoms.AtomRun.{AtomRun}
use Rattle.atom_formats.specs.Formats.{Spells as TellsAtoms}
use Rattle.packet_grammar.specs.declared.packet.Packet.{Packet}
use Rattle.packet_grammar.specs.declared.packet.Packet.TheVariants.{Async, Discard, Overflow, On, Ignore, Event, Time, Exc}
use Rattle.packet_grammar.specs.declared.packet.Packet.TheVariants.{Commit, Cancel, Mispredict, Cancel2, Cancel3, CtxSame, CtxInfo, Addr, Atoms}
use Rattle.packet_grammar.specs.declared.fault.PacketFault.{PacketFault}
use Rattle.packet_grammar.specs.declared.fault.PacketFault.TheVariants.{ExceptionTwoByte, ExceptionForm}
use Rattle.packet_grammar.specs.Parts.{Outcome, Part, Known, Byte, Then, As}
use Rattle.packet_grammar.specs.Numbers.{Number, TimeStamp}
use Rattle.packet_grammar.specs.Fields.{bit}
use Rattle.packet_grammar.specs.Contexts.{Context, ShortAddress, LongAddress32, LongAddress64}
use Rattle.packet_grammar.specs.Headers.{few_atoms, refused_headers, fault_in}
use Rattle.packet_grammar.specs.Spelling.{TraceInfo}
use Rattle.packet_grammar.specs.Faults.{BadSync}

-- what a header says of the bytes behind it
pub data Body : Type 0 where
  alone : Outcome Packet → Body
  atoms : ℕ → Body
  extension : Body
  trace_info : Body
  time_stamp : Body
  exception : Body
  commit : Body
  cancel : Bool → Body
  context : Body
  short_address : Body
  long_32 : Body
  long_64 : Body
  long_32_with_context : Body
  long_64_with_context : Body

-- the header is all
abbrev pub whole : Packet → Body
whole packet = alone (Ok packet)

-- the first header and the last, and what each of them says
unfoldable pub headers : List (ℕ × ℕ × (ℕ → Body))
headers =
    -- Alignment Synchronization packet, Discard packet, Overflow packet
    (0x00, 0x00, λ h. extension)
    -- Trace Info packet
    ∷ (0x01, 0x01, λ h. trace_info)
    -- Timestamp packet
    ∷ (0x02, 0x02, λ h. time_stamp)
    -- Trace On packet
    ∷ (0x04, 0x04, λ h. whole On)
    -- Exception packet
    ∷ (0x06, 0x06, λ h. exception)
    -- Commit packet
    ∷ (0x2d, 0x2d, λ h. commit)
    -- Cancel Format 1 packet
    ∷ (0x2e, 0x2e, λ h. cancel false)
    ∷ (0x2f, 0x2f, λ h. cancel true)
    -- Mispredict packet
    ∷ (0x30, 0x33, λ h. whole (Mispredict (few_atoms h)))
    -- Cancel Format 2 packet
    ∷ (0x34, 0x37, λ h. whole (Cancel2 (few_atoms h)))
    -- Cancel Format 3 packet: bit 0 is an atom E, and bits 2 and 1 are the number of elements less 2
    ∷ (0x38, 0x3f, λ h. whole (Cancel3 (h % 2 == 1) (h / 2 % 4 + 2)))
    -- Ignore packet
    ∷ (0x70, 0x70, λ h. whole Ignore)
    -- Event packet
    ∷ (0x71, 0x7f, λ h. whole (Event (h % 16)))
    -- Context packet
    ∷ (0x80, 0x80, λ h. whole CtxSame)
    ∷ (0x81, 0x81, λ h. context)
    -- Address with Context packet
    ∷ (0x82, 0x82, λ h. long_32_with_context)
    ∷ (0x85, 0x85, λ h. long_64_with_context)
    -- Exact Match Address packet
    ∷ (0x90, 0x92, λ h. whole (Addr (Match (h - 0x90)) None))
    -- Short Address packet
    ∷ (0x95, 0x95, λ h. short_address)
    -- Long Address packets
    ∷ (0x9a, 0x9a, λ h. long_32)
    ∷ (0x9d, 0x9d, λ h. long_64)
    -- Atom Format 1 to 6 packets
    ∷ (0xc0, 0xff, λ h. atoms h)
    ∷ []

-- what a header says, by the row that has it
abbrev pub body_in : List (ℕ × ℕ × (ℕ → Body)) → ℕ → Option Body
body_in [] h = None
body_in (row ∷ rows) h = if nat_le row.0 h && nat_le h row.1 then Some (row.2 h) else body_in rows h

-- what a header says, a packet's or one that is refused
abbrev pub pick : Option Body → Option PacketFault → Option Body
pick (Some body) fault = Some body
pick None (Some fault) = Some (alone (Err fault))
pick None None = None

abbrev pub body_of : ℕ → Option Body
body_of h = pick (body_in headers h) (fault_in refused_headers h)

-- Behind 00. With it an A-sync has eleven 00.
abbrev pub AfterZero : Part Packet
AfterZero (Ok Async) bytes = bytes ≡ replicate 10 0x00 ++ 0x80 ∷ []
AfterZero (Ok Discard) bytes = bytes ≡ 0x03 ∷ []
AfterZero (Ok Overflow) bytes = bytes ≡ 0x05 ∷ []
AfterZero (Ok packet) bytes = ⊥
AfterZero (Err fault) bytes = BadSync fault bytes

-- bits 7, 6 and 0 of the byte behind an exception's header: another byte follows, E1, and E0
abbrev pub exception_by : Bool → Bool → Bool → ℕ → Outcome Packet
exception_by more e1 e0 b =
    if more then Err (ExceptionTwoByte b)
    else if e1 then (if e0 then Err (ExceptionForm b) else Ok (Exc (b / 2 % 32) true))
    else if e0 then Ok (Exc (b / 2 % 32) false)
    else Err (ExceptionForm b)

-- bits 5 to 1 are the type
abbrev pub Exception : Part Packet
Exception = Byte (λ b. Known (exception_by (bit 7 b) (bit 6 b) (bit 0 b) b))

-- a run of atoms, in the header
abbrev pub AtomsOf : ℕ → Part Packet
AtomsOf h outcome bytes = (run : AtomRun) × (outcome ≡ Ok (Atoms run)) × IsAtomRun run × TellsAtoms h (atoms_in run) × (bytes ≡ [])

-- what follows a header
abbrev pub Follows : Sizes → Body → Part Packet
Follows s (alone outcome) = Known outcome
Follows s (atoms h) = AtomsOf h
Follows s extension = AfterZero
Follows s trace_info = TraceInfo
Follows s time_stamp = As TimeStamp (λ stamp. Time stamp.bits stamp.low)
Follows s exception = Exception
Follows s commit = As Number (λ n. Commit n)
Follows s (cancel flip) = As Number (λ n. Cancel n flip)
Follows s context = As (Context s) (λ ctx. CtxInfo ctx)
Follows s short_address = As ShortAddress (λ form. Addr form None)
Follows s long_32 = As LongAddress32 (λ form. Addr form None)
Follows s long_64 = As LongAddress64 (λ form. Addr form None)
Follows s long_32_with_context = Then LongAddress32 (λ form. As (Context s) (λ ctx. Addr form (Some ctx)))
Follows s long_64_with_context = Then LongAddress64 (λ form. As (Context s) (λ ctx. Addr form (Some ctx)))

-- the bytes are spelled so
pub record Told (s : Sizes) (outcome : Outcome Packet) (bytes : List ℕ) : Type 0 where
  pub header : ℕ
  pub rest : List ℕ
  pub body : Body
  pub whole : bytes ≡ header ∷ rest
  pub says : body_of header ≡ Some body
  pub follows : Follows s body outcome rest
