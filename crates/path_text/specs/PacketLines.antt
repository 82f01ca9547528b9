-- The lines of packets.
use Rattle.std.specs.Prelude.{ℕ, ◌≤◌, ◌==◌, List, ◌++◌, map, codes, Bool, true, false, if◌then◌else◌, Option, Some, None}
use Rattle.etm_types.specs.Atoms.{IsFewAtoms, atoms_in, most_atoms}
use Rattle.etm_types.specs.declared.address.AddrForm.{AddrForm}
use Rattle.etm_types.specs.declared.address.AddrForm.TheVariants.{Match, Short1, Short2, Long32, Long64}
use Rattle.etm_types.specs.declared.atoms.AtomRun.{AtomRun}
use Rattle.etm_types.specs.declared.atoms.FewAtoms.{FewAtoms}
use Rattle.etm_types.specs.declared.context.CtxBits.{CtxBits}
use Rattle.packet_grammar.specs.declared.packet.Packet.{Packet}
use Rattle.packet_grammar.specs.declared.packet.Packet.TheVariants as packet
use Rattle.path_text.specs.Lines.{hex, decimal, number_or_dash, security, line_start, line_of}

-- the letter of an atom
abbrev pub letter : Bool → ℕ
letter true = 69
letter false = 78

-- the letters of a run of atoms, the oldest first
abbrev pub atoms_text : AtomRun → List ℕ
atoms_text run = map letter (atoms_in run)

-- no atom, E, EE or N
abbrev pub few_text : FewAtoms → List ℕ
few_text few = if few.count == 0 then codes "-" else if few.count == 2 then codes "EE" else if few.first then codes "E" else codes "N"

-- the form of an address with the bits that it gives, in place
abbrev pub form_text : AddrForm → List ℕ
form_text (Match index) = codes "match " ++ decimal index
form_text (Short1 value) = codes "short1 " ++ hex value
form_text (Short2 value) = codes "short2 " ++ hex value
form_text (Long32 value) = codes "long32 " ++ hex value
form_text (Long64 value) = codes "long64 " ++ hex value

-- a context packet gives a number or leaves it out
abbrev pub told_context_text : CtxBits → List ℕ
told_context_text ctx =
    codes "ctx el" ++ decimal ctx.el ++ security ctx.ns ++ number_or_dash hex ctx.vmid ++ codes " " ++ number_or_dash hex ctx.cid

-- a context that an address carries
abbrev pub carried_text : Option CtxBits → List ℕ
carried_text None = codes ""
carried_text (Some ctx) = codes " " ++ told_context_text ctx

abbrev pub mispredict_text : Bool → List ℕ
mispredict_text flip = if flip then codes " mispredict" else codes ""

-- an exception whose address is the target of what stood before it too
abbrev pub target_text : Bool → List ℕ
target_text target = if target then codes " target" else codes ""

abbrev pub packet_text : Packet → List ℕ
packet_text packet.Async = codes "async"
packet_text packet.Discard = codes "discard"
packet_text packet.Overflow = codes "overflow"
packet_text packet.On = codes "on"
packet_text packet.Ignore = codes "ignore"
packet_text (packet.Info info key spec cyct) =
    codes "info " ++ number_or_dash decimal info ++ codes " " ++ number_or_dash decimal key ++ codes " "
    ++ number_or_dash decimal spec ++ codes " " ++ number_or_dash decimal cyct
packet_text (packet.Event n) = codes "event " ++ decimal n
packet_text (packet.Time bits low) = codes "time " ++ decimal bits ++ codes " " ++ decimal low
packet_text (packet.Exc kind target) = codes "exc " ++ decimal kind ++ target_text target
packet_text (packet.Commit n) = codes "commit " ++ decimal n
packet_text (packet.Cancel n flip) = codes "cancel " ++ decimal n ++ mispredict_text flip
packet_text (packet.Mispredict few) = codes "mispredict " ++ few_text few
packet_text (packet.Cancel2 few) = codes "cancel2 " ++ few_text few
packet_text (packet.Cancel3 e n) = (if e then codes "cancel3 E " else codes "cancel3 - ") ++ decimal n
packet_text packet.CtxSame = codes "ctx same"
packet_text (packet.CtxInfo ctx) = told_context_text ctx
packet_text (packet.Addr form ctx) = codes "addr " ++ form_text form ++ carried_text ctx
packet_text (packet.Atoms run) = codes "atoms " ++ atoms_text run

-- a packet's line has its offset in the stream
abbrev pub packet_line : ℕ → ℕ → Packet → List ℕ
packet_line id at packet = line_of id (decimal at ++ codes " " ++ packet_text packet)

-- the line begins with it
abbrev pub packet_head : ℕ → ℕ → List ℕ
packet_head id at = line_start id ++ decimal at ++ codes " "

-- a packet has a text where its atoms are some that a packet can tell
abbrev pub HasText : Packet → Type 0
HasText (packet.Mispredict few) = IsFewAtoms few
HasText (packet.Cancel2 few) = IsFewAtoms few
HasText (packet.Atoms run) = run.count ≤ most_atoms
HasText packet = Unit {0}
