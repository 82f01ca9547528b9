-- The elements of packets (Arm IHI 0064, "Descriptions of Trace Elements" and "Descriptions of Trace Packets").
use Rattle.std.specs.Prelude.{ℕ, Bool, true, false, not, ◌&&◌, if◌then◌else◌, List, [], ◌∷◌, ◌++◌, map, replicate, Option, Some, None, is_some}
use Rattle.std.specs.Option.{unwrap_or}
use Rattle.etm_types.specs.declared.address.AddrForm.{AddrForm}
use Rattle.etm_types.specs.declared.context.Ctx.{Ctx}
use Rattle.etm_types.specs.declared.element.Elem.{Elem}
use Rattle.etm_types.specs.declared.element.Elem.TheVariants as elem
use Rattle.etm_types.specs.declared.element.P0.TheVariants as p0
use Rattle.etm_types.specs.Atoms.{atoms_in}
use Rattle.etm_types.specs.Context.{initial_context}
use Rattle.etm_types.specs.CtxBits.{context_told}
use Rattle.address_history.specs.Forms.{address_told, no_address, put_first}
use Rattle.packet_grammar.specs.declared.packet.Packet.{Packet}
use Rattle.packet_grammar.specs.declared.packet.Packet.TheVariants as packet
use Rattle.path_elements.specs.declared.maker.Interrupt.{Interrupt}

-- what packets so far gave
pub record Told : Type 0 where
  -- the address history: the three addresses that were traced last, the newest first
  pub history : List ℕ
  -- the last context
  pub context : Ctx
  -- whether a trace info packet came
  pub informed : Bool
  -- an exception whose address is still to come
  pub awaiting : Option Interrupt

-- before the first packet
abbrev pub untold : Told
untold = record { history = no_address; context = initial_context; informed = false; awaiting = None }

-- atoms as elements, oldest first
abbrev pub atoms : List Bool → List Elem
atoms taken = map (λ t. elem.P0 (p0.Atom t)) taken

-- The elements of an address: it is that of the next instruction, or the preferred return address of an exception that came before
-- it, or both, and then the address stands before the exception.
abbrev pub with_address : Option Interrupt → ℕ → List Elem
with_address None addr = elem.Addr addr ∷ []
with_address (Some e) addr =
    if e.target then elem.Addr addr ∷ elem.P0 (p0.Exc e.kind addr) ∷ [] else elem.P0 (p0.Exc e.kind addr) ∷ []

-- the elements of a packet, by what came before it; a mispredict stands after the atoms
abbrev pub elements_in : Told → Packet → List Elem
elements_in told packet.Async = []
elements_in told packet.Discard = elem.Discard ∷ []
elements_in told packet.Overflow = elem.Overflow ∷ []
elements_in told (packet.Info info key spec cyct) = elem.Info (unwrap_or spec 0) ∷ []
elements_in told packet.On = elem.On ∷ []
elements_in told packet.Ignore = []
elements_in told (packet.Event n) = []
elements_in told (packet.Time bits low) = []
elements_in told (packet.Exc kind target) = []
elements_in told (packet.Commit n) = elem.Commit n ∷ []
elements_in told (packet.Cancel n flip) = elem.Cancel n ∷ (if flip then elem.Flip ∷ [] else [])
elements_in told (packet.Mispredict few) = atoms (replicate few.count few.first) ++ elem.Flip ∷ []
elements_in told (packet.Cancel2 few) = atoms (replicate few.count few.first) ++ elem.Cancel 1 ∷ elem.Flip ∷ []
elements_in told (packet.Cancel3 e n) = atoms (if e then true ∷ [] else []) ++ elem.Cancel n ∷ elem.Flip ∷ []
elements_in told packet.CtxSame = elem.Ctx told.context ∷ []
elements_in told (packet.CtxInfo bits) = elem.Ctx (context_told bits told.context) ∷ []
elements_in told (packet.Addr form None) = with_address told.awaiting (address_told told.history form)
elements_in told (packet.Addr form (Some bits)) =
    elem.Ctx (context_told bits told.context) ∷ with_address told.awaiting (address_told told.history form)
elements_in told (packet.Atoms run) = atoms (atoms_in run)

-- An address of whatever form is put first in the address history. No exception awaits it any more.
abbrev pub after_address : Told → AddrForm → Told
after_address told form = record told { history = put_first (address_told told.history form) told.history; awaiting = None }

-- What holds after a packet. A cancel takes no address and no context back.
abbrev pub told_by : Told → Packet → Told
told_by told (packet.Info info key spec cyct) = record told { history = no_address; context = initial_context; informed = true }
told_by told packet.Discard = record told { awaiting = None }
told_by told packet.Overflow = record told { awaiting = None }
told_by told (packet.Exc kind target) = record told { awaiting = Some (record { kind = kind; target = target }) }
told_by told (packet.CtxInfo bits) = record told { context = context_told bits told.context }
told_by told (packet.Addr form None) = after_address told form
told_by told (packet.Addr form (Some bits)) = after_address (record told { context = context_told bits told.context }) form
told_by told packet = told

-- whether a packet counts: before the first trace info no other one does
abbrev pub tells : Told → Packet → Bool
tells told (packet.Info info key spec cyct) = true
tells told packet = told.informed

abbrev pub elements_of : Told → Packet → List Elem
elements_of told packet = if tells told packet then elements_in told packet else []

abbrev pub told_after : Told → Packet → Told
told_after told packet = if tells told packet then told_by told packet else told

-- the packets that may come between an exception packet and its address packet, and the latter
abbrev pub may_follow_exception : Packet → Bool
may_follow_exception packet.Async = true
may_follow_exception packet.Discard = true
may_follow_exception packet.Overflow = true
may_follow_exception packet.Ignore = true
may_follow_exception (packet.Event n) = true
may_follow_exception (packet.Time bits low) = true
may_follow_exception packet.CtxSame = true
may_follow_exception (packet.CtxInfo bits) = true
may_follow_exception (packet.Addr form ctx) = true
may_follow_exception packet = false

-- an exception awaits its address, and the packet is none that may come there
abbrev pub is_misplaced : Told → Packet → Bool
is_misplaced told packet = tells told packet && is_some told.awaiting && not (may_follow_exception packet)

-- what is gained of a list of packets
pub record Gained : Type 0 where
  -- the elements, each with the offset of its packet
  pub elements : List (ℕ × Elem)
  -- the offset of the first packet that may not come where it does; what stands after it is not read
  pub awaited : Option ℕ
  -- what holds before that packet, or after all
  pub told : Told

-- elements, each with the offset of their packet
abbrev pub with_offset : ℕ → List Elem → List (ℕ × Elem)
with_offset at elements = map (λ e. (at, e)) elements

-- elements of earlier packets, and after them what is gained of later ones
abbrev pub with_gained : List (ℕ × Elem) → Gained → Gained
with_gained elements gained = record gained { elements = elements ++ gained.elements }

-- what is gained of packets, each of which stands at an offset
abbrev pub all_elements : Told → List (ℕ × Packet) → Gained
all_elements told [] = record { elements = []; awaited = None; told = told }
all_elements told (p ∷ packets) =
    if is_misplaced told p.1 then record { elements = []; awaited = Some p.0; told = told }
    else with_gained (with_offset p.0 (elements_of told p.1)) (all_elements (told_after told p.1) packets)
