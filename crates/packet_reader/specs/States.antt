-- What may follow in each state of a reader (Arm IHI 0064, "Descriptions of Trace Packets").
use Rattle.std.specs.Prelude.{◌≡◌, ◌↔◌, List, ◌∷◌, ℕ, ◌+◌, ◌-◌, ◌^◌, ◌<◌, ◌≤◌, ◌==◌, true, false, Option, Some, None, Ok, Err, nat_lt, if◌then◌else◌}
use Rattle.etm_types.specs.Settings.{Sizes}
use Rattle.etm_types.specs.Atoms.{IsAtomRun, atoms_in}
use Rattle.etm_types.specs.declared.address.AddrForm.{AddrForm}
use Rattle.etm_types.specs.declared.address.AddrForm.TheVariants.{Short1, Short2, Long32, Long64}
use Rattle.etm_types.specs.declared.context.CtxBits.{CtxBits}
use Rattle.atom_formats.specs.Formats.{Spells as TellsAtoms}
use Rattle.packet_grammar.specs.declared.packet.Packet.{Packet}
use Rattle.packet_grammar.specs.declared.packet.Packet.TheVariants.{Discard, Overflow, Info, Exc, Commit, Cancel, CtxInfo, Addr, Atoms}
use Rattle.packet_grammar.specs.declared.fault.PacketFault.TheVariants.{Extension, InfoControl, InfoMode, ExceptionTwoByte, ExceptionForm, Aarch32Context}
use Rattle.packet_grammar.specs.Parts.{Outcome}
use Rattle.packet_grammar.specs.Fields.{bit, field as field_in, lowest, from_bit, continues, is_last}
use Rattle.packet_reader.specs.declared.state.State.{State}
use Rattle.packet_reader.specs.declared.state.State.TheVariants.{Extension as AtExtension, Zeros, Control, Number, Stamp, Exception, Short, ShortHigh}
use Rattle.packet_reader.specs.declared.state.State.TheVariants.{LongFirst, LongSecond, LongHigh, Context, Vmid, Cid}
use Rattle.packet_reader.specs.declared.state.Purpose.{Purpose}
use Rattle.packet_reader.specs.declared.state.Purpose.TheVariants.{Commit as ForCommit, Cancel as ForCancel, Mode, Key, Spec, Cycles}
use Rattle.packet_reader.specs.declared.state.Long.{Long}
use Rattle.packet_reader.specs.declared.state.Field.{Field}
use Rattle.packet_reader.specs.declared.state.Progress.{Progress}
use Rattle.packet_reader.specs.declared.state.Progress.TheVariants.{Next, Done}
use Rattle.packet_grammar.specs.Parsed.{Spells}
use Rattle.packet_reader.specs.Trees.{Tree, Leads, known, byte, number_tree, stamp_tree, bytes_tree, field_tree, sync_tree}

-- Alignment Synchronization packet, Discard packet, Overflow packet: after one 00
abbrev pub third_kind : ℕ → Outcome Packet
third_kind b = if b == 0x03 then Ok Discard else if b == 0x05 then Ok Overflow else Err (Extension b)

abbrev pub extension_tree : Tree
extension_tree = byte (λ b. if b == 0x00 then sync_tree 9 else known (third_kind b))

-- Trace Info packet: the sections, from the last one on
abbrev pub cycles_tree : ℕ → Option ℕ → Option ℕ → Option ℕ → Tree
cycles_tree control info key spec =
    if bit 3 control then number_tree 4 0 0 (λ n. known (Ok (Info info key spec (Some n)))) else known (Ok (Info info key spec None))

abbrev pub spec_tree : ℕ → Option ℕ → Option ℕ → Tree
spec_tree control info key =
    if bit 2 control then number_tree 4 0 0 (λ n. cycles_tree control info key (Some n)) else cycles_tree control info key None

abbrev pub key_tree : ℕ → Option ℕ → Tree
key_tree control info = if bit 1 control then number_tree 4 0 0 (λ n. spec_tree control info (Some n)) else spec_tree control info None

abbrev pub mode_tree : ℕ → ℕ → Tree
mode_tree control n = if n == 0 then key_tree control (Some n) else known (Err (InfoMode n))

abbrev pub info_tree : ℕ → Tree
info_tree control = if bit 0 control then number_tree 4 0 0 (mode_tree control) else key_tree control None

abbrev pub control_tree : Tree
control_tree = byte (λ control. if nat_lt control (2 ^ 4) then info_tree control else known (Err (InfoControl control)))

-- after a number
abbrev pub behind_number : Purpose → ℕ → Tree
behind_number ForCommit n = known (Ok (Commit n))
behind_number (ForCancel flip) n = known (Ok (Cancel n flip))
behind_number (Mode control) n = mode_tree control n
behind_number (Key control info) n = spec_tree control info (Some n)
behind_number (Spec control info key) n = cycles_tree control info key (Some n)
behind_number (Cycles info key spec) n = known (Ok (Info info key spec (Some n)))

-- Exception instruction trace packet: bit 7 (C), then bits 6 and 0 (E1 and E0)
abbrev pub exception_form : ℕ → Outcome Packet
exception_form b =
    if bit 7 b then Err (ExceptionTwoByte b)
    else if bit 6 b then (if bit 0 b then Err (ExceptionForm b) else Ok (Exc (field_in 5 1 b) true))
    else if bit 0 b then Ok (Exc (field_in 5 1 b) false)
    else Err (ExceptionForm b)

abbrev pub exception_tree : Tree
exception_tree = byte (λ b. known (exception_form b))

-- Context packet, Address with Context packet: a context, alone or after an address
abbrev pub with_context : Option AddrForm → CtxBits → Outcome Packet
with_context None ctx = Ok (CtxInfo ctx)
with_context (Some form) ctx = Ok (Addr form (Some ctx))

abbrev pub context_of : ℕ → Option ℕ → Option ℕ → CtxBits
context_of info vmid cid = record { el = lowest 2 info; ns = bit 5 info; vmid = vmid; cid = cid }

-- the bytes of a context ID, of which some may be read
abbrev pub last_field_tree : Option AddrForm → ℕ → Option ℕ → Field → Tree
last_field_tree form info vmid field =
    bytes_tree field.left field.count field.value (λ cid. known (with_context form (context_of info vmid (Some cid))))

abbrev pub cid_tree : Sizes → Option AddrForm → ℕ → Option ℕ → Tree
cid_tree s form info vmid = field_tree (bit 7 info) s.cid_bytes (λ cid. known (with_context form (context_of info vmid cid)))

abbrev pub vmid_tree : Sizes → Option AddrForm → ℕ → Tree
vmid_tree s form info = field_tree (bit 6 info) s.vmid_bytes (cid_tree s form info)

abbrev pub context_tree : Sizes → Option AddrForm → Tree
context_tree s form = byte (λ info. if bit 4 info then vmid_tree s form info else known (Err (Aarch32Context info)))

-- Short Address packet
abbrev pub short_high_tree : ℕ → Tree
short_high_tree low = byte (λ b. known (Ok (Addr (Short2 (low + from_bit 9 b)) None)))

abbrev pub short_tree : Tree
short_tree = byte (λ a. if is_last a then known (Ok (Addr (Short1 (from_bit 2 a)) None)) else short_high_tree (from_bit 2 (a - continues)))

-- Long Address packets, Address with Context packet: after the bytes of the address
abbrev pub form_of : Long → ℕ → AddrForm
form_of long value = if long.wide then Long64 value else Long32 value

abbrev pub behind_long : Sizes → Long → ℕ → Tree
behind_long s long value = if long.with_context then context_tree s (Some (form_of long value)) else known (Ok (Addr (form_of long value) None))

abbrev pub high_tree : Sizes → Long → ℕ → Field → Tree
high_tree s long low field = bytes_tree field.left field.count field.value (λ value. behind_long s long (low + from_bit 16 value))

abbrev pub second_tree : Sizes → Long → ℕ → Tree
second_tree s long low = byte (λ b. high_tree s long (low + from_bit 9 (lowest 7 b)) (record { left = if long.wide then 6 else 2; count = 0; value = 0 }))

abbrev pub long_tree : Sizes → Long → Tree
long_tree s long = byte (λ a. second_tree s long (from_bit 2 (lowest 7 a)))

-- what may follow in a state
abbrev pub tree_of : Sizes → State → Tree
tree_of s AtExtension = extension_tree
tree_of s (Zeros left) = sync_tree left
tree_of s Control = control_tree
tree_of s (Number purpose left groups value) = number_tree left groups value (behind_number purpose)
tree_of s (Stamp left groups low) = stamp_tree left groups low
tree_of s Exception = exception_tree
tree_of s Short = short_tree
tree_of s (ShortHigh low) = short_high_tree low
tree_of s (LongFirst long) = long_tree s long
tree_of s (LongSecond long low) = second_tree s long low
tree_of s (LongHigh long low field) = high_tree s long low field
tree_of s (Context form) = context_tree s form
tree_of s (Vmid form info field) = bytes_tree field.left field.count field.value (λ vmid. cid_tree s form info (Some vmid))
tree_of s (Cid form info vmid field) = last_field_tree form info vmid field

-- and what after a byte
abbrev pub tree_after : Sizes → Progress → Tree
tree_after s (Next state) = tree_of s state
tree_after s (Done outcome) = known outcome

-- what a byte made of a state that it may have changed where it is: the state is read further, or something else comes of it
abbrev pub made_of : Option Progress → State → Progress
made_of None state = Next state
made_of (Some progress) state = progress

-- what became of a state that was changed where it is: it is read further, or its outcome is known
abbrev pub progress_of : Option (Outcome Packet) → State → Progress
progress_of None state = Next state
progress_of (Some outcome) state = Done outcome

-- at most so many bytes, of which some are left
abbrev pub FitsField : ℕ → Field → Type 0
FitsField most field = (1 ≤ field.left) × (field.left + field.count ≤ most) × (field.value < 256 ^ field.count)

-- what a state holds is no more than its bytes could hold
abbrev pub Fits : State → Type 0
Fits (Number purpose left groups value) = (left + groups ≡ 4) × (value < 128 ^ groups)
Fits (Stamp left groups low) = (left + groups ≡ 8) × (low < 128 ^ groups)
Fits (ShortHigh low) = low < 2 ^ 9
Fits (LongSecond long low) = low < 2 ^ 9
Fits (LongHigh long low field) = (low < 2 ^ 16) × FitsField 6 field
Fits (Vmid form info field) = FitsField 4 field
Fits (Cid form info vmid field) = FitsField 4 field
Fits _ = Unit

abbrev pub FitsAfter : Progress → Type 0
FitsAfter (Next state) = Fits state
FitsAfter (Done outcome) = Unit

-- a header, with what it makes of a packet that has not begun: what may follow it is what may follow then
abbrev pub HeadsBy : ℕ → Progress → Type 0
HeadsBy header progress =
    (s : Sizes) (outcome : Outcome Packet) (bytes : List ℕ) → Spells s outcome (header ∷ bytes) ↔ Leads (tree_after s progress) outcome bytes

-- Atom Format 1 to 6 packets: the run of atoms of a header
abbrev pub IsRun : ℕ → Progress → Type 0
IsRun header (Done (Ok (Atoms run))) = IsAtomRun run × TellsAtoms header (atoms_in run)
IsRun header progress = ⊥

-- behind the header of a commit packet
abbrev pub behind_commit : State
behind_commit = Number ForCommit 4 0 0
