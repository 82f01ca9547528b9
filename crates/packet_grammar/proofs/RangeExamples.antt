-- The values of packets at both ends of their ranges, and those out of them by one; how streams end; and a stream that is cut by one byte.
use Rattle.std.proofs.Common.{◌≡◌, ◌<◌, ℕ, [], ◌∷◌, map, Bool, true, false, Option, Some, None, Ok, ap, refl, inl, inr, arith}
use Rattle.std.proofs.lemmas.List.Elements.{All-cons, All-nil}
use Rattle.etm_types.specs.Settings.{Sizes}
use Rattle.etm_types.specs.declared.address.AddrForm.TheVariants.{Long32, Long64}
use Rattle.etm_types.specs.declared.atoms.FewAtoms.{FewAtoms}
use Rattle.etm_types.specs.declared.context.CtxBits.{CtxBits}
use Rattle.packet_grammar.specs.Ends.{end_of, is_fault}
use Rattle.packet_grammar.specs.Parsed.{Begins, Parses, no_sync, clean, cut, fault}
use Rattle.packet_grammar.specs.Ranges.{IsContext, IsPacket, IsStampSize}
use Rattle.packet_grammar.specs.declared.end.End.TheVariants as end
use Rattle.packet_grammar.specs.declared.fault.PacketFault.TheVariants.{BrokenSync}
use Rattle.packet_grammar.specs.declared.packet.Packet.TheVariants.{Async, Discard, Overflow, Info, On, Ignore, Event, Time, Exc}
use Rattle.packet_grammar.specs.declared.packet.Packet.TheVariants.{Commit, Cancel, Mispredict, Cancel2, Cancel3, CtxSame, CtxInfo, Addr, Atoms}
use Rattle.packet_grammar.specs.declared.stream_fault.Fault.TheVariants as stream

-- a VMID of one byte and a context ID of four
abbrev one_and_four : Sizes
one_and_four = record { depth = 8; vmid_bytes = 1; cid_bytes = 4 }

abbrev none : Sizes
none = record { depth = 8; vmid_bytes = 0; cid_bytes = 0 }

abbrev context : ℕ → Option ℕ → Option ℕ → CtxBits
context el vmid cid = record { el = el; ns = true; vmid = vmid; cid = cid }

abbrev few : ℕ → Bool → FewAtoms
few count first = record { count = count; first = first }

-- ---- both ends of each range

pub numbers_of_info : IsPacket none (Info (Some 0) (Some 0xffffffff) (Some 0xffffffff) (Some 0xffffffff)) × IsPacket none (Info None None None None)
numbers_of_info = ((refl, omega arith, omega arith, omega arith), (tt, tt, tt, tt))

pub events : IsPacket none (Event 1) × IsPacket none (Event 15)
events = ((omega arith, omega arith), (omega arith, omega arith))

pub stamp_of_7_bits : IsPacket none (Time 7 127)
stamp_of_7_bits = (inr (1, omega arith, omega arith, refl), omega arith)

pub stamp_of_56_bits : IsPacket none (Time 56 0xffffffffffffff)
stamp_of_56_bits = (inr (8, omega arith, omega arith, refl), omega arith)

pub stamp_of_64_bits : IsPacket none (Time 64 0xffffffffffffffff)
stamp_of_64_bits = (inl refl, omega arith)

pub type_31 : IsPacket none (Exc 31 true) × IsPacket none (Exc 0 false)
type_31 = (omega arith, omega arith)

pub largest_numbers : IsPacket none (Commit 0xffffffff) × IsPacket none (Cancel 0xffffffff true)
largest_numbers = (omega arith, omega arith)

pub few_of_each : IsPacket none (Mispredict (few 0 false)) × IsPacket none (Mispredict (few 1 true)) × IsPacket none (Cancel2 (few 2 true))
    × IsPacket none (Cancel2 (few 1 false))
few_of_each = (inl refl, inr (inl refl), inr (inr (inl refl)), inr (inr (inr refl)))

pub two_to_five : IsPacket none (Cancel3 true 2) × IsPacket none (Cancel3 false 5)
two_to_five = ((omega arith, omega arith), (omega arith, omega arith))

pub largest_context : IsPacket one_and_four (CtxInfo (context 3 (Some 0xff) (Some 0xffffffff)))
largest_context = record { el = omega arith; vmid = (omega arith, omega arith); cid = (omega arith, omega arith) }

pub no_numbers : IsPacket none (CtxInfo (context 0 None None))
no_numbers = record { el = omega arith; vmid = tt; cid = tt }

pub address_alone : IsPacket none (Addr (Long64 0xfffffffffffffffc) None)
address_alone = (refl, tt)

pub address_and_context : IsPacket one_and_four (Addr (Long32 0xfffffffc) (Some (context 3 (Some 0xff) None)))
address_and_context = ((omega arith, refl), record { el = omega arith; vmid = (omega arith, omega arith); cid = tt })

pub most_atoms : IsPacket none (Atoms (record { count = 24; bits = 0xffffff }))
most_atoms = record { some = omega arith; most = omega arith; bits = omega arith }

-- the others have no value that must be in a range
pub any_other : IsPacket none Async × IsPacket none Discard × IsPacket none Overflow × IsPacket none On × IsPacket none Ignore × IsPacket none CtxSame
any_other = (tt, tt, tt, tt, tt, tt)

-- ---- out of them by one

pub no_large_spec : IsPacket none (Info None None (Some 0x100000000) None) → ⊥
no_large_spec is = absurd (omega (arith, is.2))

pub no_large_threshold : IsPacket none (Info None None None (Some 0x100000000)) → ⊥
no_large_threshold is = absurd (omega (arith, is.3))

pub no_bit_of_a_stamp : IsPacket none (Time 0 0) → ⊥
no_bit_of_a_stamp (inl all, low) = absurd (omega (arith, all))
no_bit_of_a_stamp (inr (groups, some, most, bits), low) = absurd (omega (arith, some, bits))

pub no_stamp_of_65_bits : IsStampSize 65 → ⊥
no_stamp_of_65_bits (inl all) = absurd (omega (arith, all))
no_stamp_of_65_bits (inr (groups, some, most, bits)) = absurd (omega (arith, bits))

pub no_stamp_of_6_bits : IsStampSize 6 → ⊥
no_stamp_of_6_bits (inl all) = absurd (omega (arith, all))
no_stamp_of_6_bits (inr (groups, some, most, bits)) = absurd (omega (arith, bits))

pub no_stamp_above_64_bits : IsPacket none (Time 64 0x10000000000000000) → ⊥
no_stamp_above_64_bits is = absurd (omega (arith, is.1))

pub no_large_commit : IsPacket none (Commit 0x100000000) → ⊥
no_large_commit is = absurd (omega (arith, is))

abbrev atoms_of : FewAtoms → ℕ
atoms_of few = few.count

pub no_three_mispredicted : IsPacket none (Mispredict (few 3 true)) → ⊥
no_three_mispredicted (inl is) = absurd (omega (arith, ap atoms_of is))
no_three_mispredicted (inr (inl is)) = absurd (omega (arith, ap atoms_of is))
no_three_mispredicted (inr (inr (inl is))) = absurd (omega (arith, ap atoms_of is))
no_three_mispredicted (inr (inr (inr is))) = absurd (omega (arith, ap atoms_of is))

pub no_three_cancelled : IsPacket none (Cancel2 (few 3 true)) → ⊥
no_three_cancelled (inl is) = absurd (omega (arith, ap atoms_of is))
no_three_cancelled (inr (inl is)) = absurd (omega (arith, ap atoms_of is))
no_three_cancelled (inr (inr (inl is))) = absurd (omega (arith, ap atoms_of is))
no_three_cancelled (inr (inr (inr is))) = absurd (omega (arith, ap atoms_of is))

pub no_vmid_of_no_size : IsContext none (context 0 (Some 0) None) → ⊥
no_vmid_of_no_size is = absurd (omega (arith, is.vmid.0))

pub no_large_context_id : IsContext one_and_four (context 0 None (Some 0x100000000)) → ⊥
no_large_context_id is = absurd (omega (arith, is.cid.1))

pub no_level_4_behind_an_address : IsPacket one_and_four (Addr (Long64 0) (Some (context 4 None None))) → ⊥
no_level_4_behind_an_address is = absurd (omega (arith, is.1.el))

-- ---- how streams end

pub ends :
    map end_of (no_sync ∷ clean ∷ cut 2 ∷ fault 14 BrokenSync ∷ []) ≡ end.NoSync ∷ end.Clean ∷ end.Cut 2 ∷ end.Fault 14 (stream.Packet BrokenSync) ∷ []
ends = refl

pub one_is_a_fault :
    map is_fault (end.NoSync ∷ end.Clean ∷ end.Cut 2 ∷ end.Fault 14 (stream.Packet BrokenSync) ∷ []) ≡ false ∷ false ∷ false ∷ true ∷ []
one_is_a_fault = refl

-- one byte of a commit is there, at offset 12
one_byte_begins : Begins none (0x2d ∷ [])
one_byte_begins =
    record {
      outcome = Ok (Commit 5);
      more = 5 ∷ [];
      some = omega arith;
      small = All-cons (λ (x : ℕ). x < 256) 5 [] (omega arith) (All-nil (λ (x : ℕ). x < 256));
      spells = (5 ∷ [], refl, refl);
    }

pub cut_by_one : Parses none 12 (0x2d ∷ []) [] (cut 1)
cut_by_one = (refl, omega arith, one_byte_begins)

-- none is there, and so it is not cut
pub not_cut_by_none : Parses none 12 [] [] (cut 0) → ⊥
not_cut_by_none parses = absurd (omega (arith, parses.1))

pub no_sync_at_an_offset : Parses none 12 [] [] no_sync → ⊥
no_sync_at_an_offset parses = parses
