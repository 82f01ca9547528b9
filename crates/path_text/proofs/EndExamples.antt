-- The line of each end of a stream and of each fault, written out by hand from the formats that docs/FORMATS.md gives.
use Rattle.std.proofs.Common.{◌≡◌, ℕ, List, [], ◌∷◌, ◌++◌, codes, refl, ap, get_or, arith}
use Rattle.etm_types.specs.declared.queue_fault.QueueFault.TheVariants as queue
use Rattle.etm_types.specs.declared.walk_fault.WalkFault.TheVariants as walk
use Rattle.packet_grammar.specs.declared.fault.PacketFault.TheVariants as packet
use Rattle.packet_grammar.specs.declared.fault.RefusedKind.{RefusedKind}
use Rattle.packet_grammar.specs.declared.fault.RefusedKind.TheVariants as kind
use Rattle.packet_grammar.specs.declared.stream_fault.Fault.{Fault}
use Rattle.packet_grammar.specs.declared.stream_fault.Fault.TheVariants as fault
use Rattle.path_text.specs.Lines.{in_base}
use Rattle.path_text.specs.EndLines.{end_line, frame_cut_line}
use Rattle.packet_grammar.specs.declared.end.End.{End}
use Rattle.packet_grammar.specs.declared.end.End.TheVariants as end

-- the end of stream 01 has this line
abbrev HasLine : End → List ℕ → Type 0
HasLine last text = end_line 1 last ≡ text ++ (10 ∷ [])

-- and a fault of it at an offset
abbrev HasReason : ℕ → Fault → List ℕ → Type 0
HasReason at why text = HasLine (end.Fault at why) text

-- and the refusal of a header
abbrev IsRefused : ℕ → RefusedKind → List ℕ → Type 0
IsRefused byte about text = HasReason 0 (fault.Packet (packet.Refused about byte)) text

-- ---- ends

pub begun_frame : frame_cut_line 15 ≡ codes "frame cut 15" ++ (10 ∷ [])
unfolding in_base
begun_frame = refl

pub clean : HasLine end.Clean (codes "01 end")
unfolding in_base
clean = refl

pub cut : HasLine (end.Cut 2) (codes "01 cut 2")
unfolding in_base
cut = refl

pub no_sync : HasLine end.NoSync (codes "01 nosync")
unfolding in_base
no_sync = refl

-- ---- faults

pub reserved : HasReason 12 (fault.Packet (packet.Reserved 0x08)) (codes "01 fault 12 reserved 08")
unfolding in_base
reserved = refl

pub extension : HasReason 12 (fault.Packet (packet.Extension 0x04)) (codes "01 fault 12 extension 04")
unfolding in_base
extension = refl

pub info_control : HasReason 12 (fault.Packet (packet.InfoControl 0x11)) (codes "01 fault 12 info-control 11")
unfolding in_base
info_control = refl

pub exception_two_byte : HasReason 26 (fault.Packet (packet.ExceptionTwoByte 0x9d)) (codes "01 fault 26 exception-two-byte 9d")
unfolding in_base
exception_two_byte = refl

pub exception_form : HasReason 26 (fault.Packet (packet.ExceptionForm 0x1c)) (codes "01 fault 26 exception-form 1c")
unfolding in_base
exception_form = refl

pub aarch32_context : HasReason 26 (fault.Packet (packet.Aarch32Context 0x21)) (codes "01 fault 26 aarch32-context 21")
unfolding in_base
aarch32_context = refl

pub broken_sync : HasReason 15 (fault.Packet packet.BrokenSync) (codes "01 fault 15 broken-sync")
unfolding in_base
broken_sync = refl

pub info_mode : HasReason 12 (fault.Packet (packet.InfoMode 5)) (codes "01 fault 12 info-mode 5")
unfolding in_base
info_mode = refl

pub number_too_long : HasReason 26 (fault.Packet packet.NumberTooLong) (codes "01 fault 26 number-too-long")
unfolding in_base
number_too_long = refl

pub address_awaited : HasReason 28 fault.AddressAwaited (codes "01 fault 28 address-awaited")
unfolding in_base
address_awaited = refl

pub commit_overrun : HasReason 29 (fault.Queue (queue.CommitOverrun 5 3)) (codes "01 fault 29 commit-overrun 5 3")
unfolding in_base
commit_overrun = refl

pub cancel_overrun : HasReason 26 (fault.Queue (queue.CancelOverrun 1 0)) (codes "01 fault 26 cancel-overrun 1 0")
unfolding in_base
cancel_overrun = refl

pub no_atom : HasReason 26 (fault.Queue (queue.NoAtomToFlip 0)) (codes "01 fault 26 no-atom 0")
unfolding in_base
no_atom = refl

pub spec_too_deep : HasReason 12 (fault.Queue (queue.SpecTooDeep 17 16)) (codes "01 fault 12 spec-too-deep 17 16")
unfolding in_base
spec_too_deep = refl

pub address_mismatch : HasReason 29 (fault.Walk (walk.AddressMismatch 0x100c 0x1000)) (codes "01 fault 29 address-mismatch 100c 1000")
unfolding in_base
address_mismatch = refl

pub no_code : HasReason 26 (fault.Walk (walk.NoCode 0x9000)) (codes "01 fault 26 no-code 9000")
unfolding in_base
no_code = refl

pub odd : HasReason 27 (fault.Walk (walk.Odd 0x100c)) (codes "01 fault 27 odd 100c")
unfolding in_base
odd = refl

pub bad_atom : HasReason 27 (fault.Walk (walk.BadAtom 0x100c)) (codes "01 fault 27 bad-atom 100c")
unfolding in_base
bad_atom = refl

pub return_missed : HasReason 28 (fault.Walk (walk.ReturnMissed 0x1004 0x1008)) (codes "01 fault 28 return-missed 1004 1008")
unfolding in_base
return_missed = refl

pub refused_headers :
    IsRefused 0x0c kind.CycleCount (codes "01 fault 0 refused cycle-count 0c")
    × IsRefused 0x03 kind.TimeCycle (codes "01 fault 0 refused time-cycle 03")
    × IsRefused 0x20 kind.DataSync (codes "01 fault 0 refused data-sync 20")
    × IsRefused 0x6f kind.Conditional (codes "01 fault 0 refused conditional 6f")
    × IsRefused 0xaf kind.Q (codes "01 fault 0 refused q af")
    × IsRefused 0x05 kind.MProfile (codes "01 fault 0 refused m-profile 05")
    × IsRefused 0x9e kind.Aarch32Address (codes "01 fault 0 refused aarch32-address 9e")
unfolding in_base
refused_headers = (refl, refl, refl, refl, refl, refl, refl)

-- ---- near misses: the numbers in the other order, an offset in hex, a byte in decimal

pub held_is_not_first : HasReason 29 (fault.Queue (queue.CommitOverrun 5 3)) (codes "01 fault 29 commit-overrun 3 5") → ⊥
unfolding in_base
held_is_not_first e = let first : 53 ≡ 51 = ap (λ t. get_or t 27 0) e in absurd (omega (arith, first))

pub no_offset_in_hex : HasReason 29 (fault.Walk (walk.BadAtom 0x100c)) (codes "01 fault 1d bad-atom 100c") → ⊥
unfolding in_base
no_offset_in_hex e = let first : 50 ≡ 49 = ap (λ t. get_or t 9 0) e in absurd (omega (arith, first))

pub no_byte_in_decimal : HasReason 12 (fault.Packet (packet.Reserved 0x0b)) (codes "01 fault 12 reserved 11") → ⊥
unfolding in_base
no_byte_in_decimal e = let first : 48 ≡ 49 = ap (λ t. get_or t 21 0) e in absurd (omega (arith, first))
