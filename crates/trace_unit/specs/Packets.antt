-- The packets that orders are written in, where a unit puts off what it can (Arm IHI 0064, "Descriptions of Trace Packets"). They tell
-- the elements of the whole form.
use Rattle.std.specs.Prelude.{ℕ, zero, suc, ◌+◌, ◌*◌, ◌/◌, ◌%◌, ◌^◌, ◌==◌, nat_le, Bool, true, false, if◌then◌else◌, List, [], ◌∷◌, ◌++◌}
use Rattle.std.specs.Prelude.{length, take, drop, slice_index, Option, Some, None}
use Rattle.std.specs.Option.{unwrap_or}
use Rattle.address_history.specs.Forms.{first_form, no_address, put_first}
use Rattle.etm_types.specs.Context.{initial_context}
use Rattle.etm_types.specs.CtxBits.{bits_against}
use Rattle.etm_types.specs.SameContext.{same_context}
use Rattle.etm_types.specs.declared.address.AddrForm.{AddrForm}
use Rattle.etm_types.specs.declared.address.AddrForm.TheVariants.{Long32, Long64}
use Rattle.etm_types.specs.declared.atoms.AtomRun.{AtomRun}
use Rattle.etm_types.specs.declared.atoms.FewAtoms.{FewAtoms}
use Rattle.etm_types.specs.declared.context.Ctx.{Ctx}
use Rattle.packet_grammar.specs.declared.packet.Packet.{Packet}
use Rattle.packet_grammar.specs.declared.packet.Packet.TheVariants as packet
use Rattle.spec_run.specs.Runs.{ByOff, ByOverflow, Closing}
use Rattle.trace_unit.specs.Orders.{Address, Branch, Cancel, Close, Context, Exception, ExceptionAtTarget, Flip, Notice, On, Order, Place, Retire}
use Rattle.trace_unit.specs.Orders.{Settle, Start, Sync, Tell, target_notice}
use Rattle.trace_unit.specs.Packing.{longest}
use Rattle.trace_unit.specs.Whole.{PutOff, is_full, out, waits, with_atom}

-- What both ends have of the packets so far, and tell later ones against: the address history, the newest first, and the last context.
-- What is taken back leaves it as it is.
pub record Shared : Type 0 where
  pub history : List ℕ
  pub context : Ctx

-- before the first packet, and behind a trace info
abbrev pub nothing_shared : Shared
nothing_shared = record { history = no_address; context = initial_context }

-- ---- notices

-- the form that is chosen for an address, which is a multiple of 4
abbrev pub form_of : List ℕ → ℕ → AddrForm
form_of history addr = unwrap_or (first_form history addr) (Long64 addr)

-- with a context there are only the two long forms: bits 63 to 32 may be left out where they are those of the newest address
abbrev pub long_form : List ℕ → ℕ → AddrForm
long_form history addr = if addr / 2 ^ 32 == slice_index history 0 / 2 ^ 32 then Long32 (addr % 2 ^ 32) else Long64 addr

abbrev pub with_context : Shared → AddrForm → Ctx → Packet
with_context shared form ctx = packet.Addr form (Some (bits_against shared.context ctx))

abbrev pub context_packet : Shared → Ctx → Packet
context_packet shared ctx = if same_context ctx shared.context then packet.CtxSame else packet.CtxInfo (bits_against shared.context ctx)

-- the number of P0 elements that a trace info announces is left out where it is 0
abbrev pub announced : ℕ → Option ℕ
announced zero = None
announced (suc n) = Some (suc n)

abbrev pub notice_packets : Shared → Notice → List Packet
notice_packets shared (Sync n) = packet.Async ∷ packet.Info (Some 0) None (announced n) None ∷ []
notice_packets shared On = packet.On ∷ []
notice_packets shared (Start addr ctx) = with_context shared (Long64 addr) ctx ∷ []
notice_packets shared (Place addr ctx) = with_context shared (long_form shared.history addr) ctx ∷ []
notice_packets shared (Address addr) = packet.Addr (form_of shared.history addr) None ∷ []
notice_packets shared (Context ctx) = context_packet shared ctx ∷ []

abbrev pub with_address : Shared → ℕ → Shared
with_address shared addr = record shared { history = put_first addr shared.history }

abbrev pub shared_by : Shared → Notice → Shared
shared_by shared (Sync n) = nothing_shared
shared_by shared On = shared
shared_by shared (Start addr ctx) = record (with_address shared addr) { context = ctx }
shared_by shared (Place addr ctx) = record (with_address shared addr) { context = ctx }
shared_by shared (Address addr) = with_address shared addr
shared_by shared (Context ctx) = record shared { context = ctx }

-- ---- P0 elements

abbrev pub exception_packets : Shared → ℕ → ℕ → List Packet
exception_packets shared kind ret = packet.Exc kind false ∷ packet.Addr (form_of shared.history ret) None ∷ []

-- E1 and E0 are 1 and 0: one address packet tells the target and the return address
abbrev pub target_packets : Shared → Option Ctx → ℕ → ℕ → List Packet
target_packets shared context kind addr = packet.Exc kind true ∷ notice_packets shared (target_notice context addr)

-- bit 0 is the oldest atom
abbrev pub bits_of : List Bool → ℕ
bits_of [] = 0
bits_of (a ∷ atoms) = (if a then 1 else 0) + 2 * bits_of atoms

abbrev pub run_of : List Bool → AtomRun
run_of atoms = record { count = length atoms; bits = bits_of atoms }

-- the longest front that one packet tells
abbrev pub front_packet : List Bool → Packet
front_packet atoms = packet.Atoms (run_of (take (longest atoms) atoms))

-- all atoms, one longest front after the other, in so many packets at most
abbrev pub packed_within : ℕ → List Bool → List Packet
packed_within zero atoms = []
packed_within (suc n) [] = []
packed_within (suc n) (a ∷ atoms) = front_packet (a ∷ atoms) ∷ packed_within n (drop (longest (a ∷ atoms)) (a ∷ atoms))

abbrev pub packed : List Bool → List Packet
packed atoms = packed_within (length atoms) atoms

-- ---- what waits

abbrev pub cancel_packets : ℕ → List Packet
cancel_packets zero = []
cancel_packets (suc n) = packet.Cancel (suc n) false ∷ []

abbrev pub commit_packets : ℕ → List Packet
commit_packets zero = []
commit_packets (suc n) = packet.Commit (suc n) ∷ []

abbrev pub out_packets : PutOff → List Packet
out_packets u = cancel_packets u.cancels ++ packed u.atoms

abbrev pub settle_packets : ℕ → PutOff → List Packet
settle_packets depth u = out_packets u ++ commit_packets (out depth u).commits

abbrev pub spilled_packets : Bool → PutOff → List Packet
spilled_packets true u = cancel_packets u.cancels ++ front_packet u.atoms ∷ []
spilled_packets false u = []

abbrev pub no_atoms : FewAtoms
no_atoms = record { count = 0; first = false }

-- a mispredict behind the cancel of so many elements, in one packet
abbrev pub flip_packet : ℕ → Packet
flip_packet zero = packet.Mispredict no_atoms
flip_packet (suc zero) = packet.Cancel2 no_atoms
flip_packet n = if nat_le n 5 then packet.Cancel3 false n else packet.Cancel n true

-- an atom that is held is turned before it is written
abbrev pub flip_packets : PutOff → List Bool → List Packet
flip_packets u [] = flip_packet u.cancels ∷ []
flip_packets u (a ∷ atoms) = []

abbrev pub closing_packet : Closing → Packet
closing_packet ByOverflow = packet.Overflow
closing_packet ByOff = packet.Discard

-- ---- an order

abbrev pub packets_of : ℕ → PutOff → Shared → Order → List Packet
packets_of depth u shared (Tell notice) = out_packets u ++ notice_packets shared notice
packets_of depth u shared (Branch taken) = spilled_packets (is_full (with_atom depth u taken)) (with_atom depth u taken)
packets_of depth u shared (Exception kind ret) = out_packets u ++ exception_packets shared kind ret
packets_of depth u shared (ExceptionAtTarget context kind addr) = out_packets u ++ target_packets shared context kind addr
packets_of depth u shared (Retire n) = []
packets_of depth u shared (Cancel n) = []
packets_of depth u shared Flip = flip_packets u u.atoms
packets_of depth u shared Settle = settle_packets depth u
packets_of depth u shared (Close closing) = settle_packets depth u ++ closing_packet closing ∷ []

abbrev pub shared_after : Shared → Order → Shared
shared_after shared (Tell notice) = shared_by shared notice
shared_after shared (Exception kind ret) = with_address shared ret
shared_after shared (ExceptionAtTarget context kind addr) = shared_by shared (target_notice context addr)
shared_after shared order = shared

-- ---- all orders

abbrev pub packets_all : ℕ → PutOff → Shared → List Order → List Packet
packets_all depth u shared [] = []
packets_all depth u shared (order ∷ orders) =
    packets_of depth u shared order ++ packets_all depth (waits depth u order) (shared_after shared order) orders

abbrev pub shared_all : Shared → List Order → Shared
shared_all shared [] = shared
shared_all shared (order ∷ orders) = shared_all (shared_after shared order) orders
