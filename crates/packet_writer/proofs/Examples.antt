-- Packets with the bytes that are written for them, and near misses. The bytes come from the standard's tables, worked out apart from
-- the definitions.
use Rattle.std.proofs.Common.{◌≡◌, ℕ, List, [], ◌∷◌, ◌++◌, Bool, true, false, Some, None, refl, inl, arith}
use Rattle.std.specs.List.{flat_map}
use Rattle.std.specs.Cmp.Lexicographic.{other_text}
use Rattle.etm_types.specs.Settings.{Sizes}
use Rattle.etm_types.specs.declared.address.AddrForm.TheVariants.{Match, Short1, Short2, Long32, Long64}
use Rattle.etm_types.specs.declared.atoms.FewAtoms.{FewAtoms}
use Rattle.etm_types.specs.declared.context.CtxBits.{CtxBits}
use Rattle.atom_formats.specs.Bytes.{byte_of}
use Rattle.atom_formats.specs.Formats.{atom_formats}
use Rattle.atom_formats.proofs.Bytes.{byte_found}
use Rattle.atom_formats.proofs.Rows.{one_run_a_byte}
use Rattle.atom_formats.proofs.Table.{row_found}
use Rattle.packet_grammar.specs.Spelling.{SpellsPacket}
use Rattle.packet_grammar.specs.declared.packet.Packet.{Packet}
use Rattle.packet_grammar.specs.declared.packet.Packet.TheVariants.{Async, Discard, Overflow, Info, On, Ignore, Event, Time, Exc}
use Rattle.packet_grammar.specs.declared.packet.Packet.TheVariants.{Commit, Cancel, Mispredict, Cancel2, Cancel3, CtxSame, CtxInfo, Addr, Atoms}
use Rattle.packet_writer.specs.Fitting.{HasForm, HasSpelling}
use Rattle.packet_writer.specs.Front.{SpellsFront}
use Rattle.packet_writer.specs.Laws.{with_offsets}
use Rattle.packet_writer.specs.Spelling.{spelling}
use Rattle.packet_writer.proofs.Having.{spelled_fits}

-- a VMID of one byte and a context ID of four
abbrev one_and_four : Sizes
one_and_four = record { depth = 8; vmid_bytes = 1; cid_bytes = 4 }

-- a VMID of two bytes and no context ID
abbrev two_and_none : Sizes
two_and_none = record { depth = 8; vmid_bytes = 2; cid_bytes = 0 }

-- neither
abbrev none : Sizes
none = record { depth = 8; vmid_bytes = 0; cid_bytes = 0 }

-- four bytes each
abbrev four_and_four : Sizes
four_and_four = record { depth = 8; vmid_bytes = 4; cid_bytes = 4 }

abbrev no_atom : FewAtoms
no_atom = record { count = 0; first = false }

abbrev one_e : FewAtoms
one_e = record { count = 1; first = true }

abbrev two_e : FewAtoms
two_e = record { count = 2; first = true }

abbrev one_n : FewAtoms
one_n = record { count = 1; first = false }

-- Alignment Synchronization packet, Discard packet, Overflow packet, Trace On packet, Ignore packet
pub async : spelling none Async ≡ 0x00 ∷ 0x00 ∷ 0x00 ∷ 0x00 ∷ 0x00 ∷ 0x00 ∷ 0x00 ∷ 0x00 ∷ 0x00 ∷ 0x00 ∷ 0x00 ∷ 0x80 ∷ []
async = refl

pub discard : spelling none Discard ≡ 0x00 ∷ 0x03 ∷ []
discard = refl

pub overflow : spelling none Overflow ≡ 0x00 ∷ 0x05 ∷ []
overflow = refl

pub trace_on : spelling none On ≡ 0x04 ∷ []
trace_on = refl

pub ignore : spelling none Ignore ≡ 0x70 ∷ []
ignore = refl

-- Trace Info packet: the control byte has the bits of the numbers that are there, and a number 0 is a byte 00
pub info_alone : spelling none (Info (Some 0) None None None) ≡ 0x01 ∷ 0x01 ∷ 0x00 ∷ []
info_alone = refl

pub info_with_spec : spelling none (Info (Some 0) None (Some 1) None) ≡ 0x01 ∷ 0x05 ∷ 0x00 ∷ 0x01 ∷ []
info_with_spec = refl

pub info_of_nothing : spelling none (Info None None None None) ≡ 0x01 ∷ 0x00 ∷ []
info_of_nothing = refl

pub info_of_all : spelling none (Info (Some 0) (Some 5) (Some 0x12c) (Some 0xffffffff))
    ≡ 0x01 ∷ 0x0f ∷ 0x00 ∷ 0x05 ∷ 0xac ∷ 0x02 ∷ 0xff ∷ 0xff ∷ 0xff ∷ 0xff ∷ 0x0f ∷ []
info_of_all = refl

-- Timestamp packet: as many bytes as the bits ask for, also where the upper ones are 0
pub time_of_7_bits : spelling none (Time 7 0) ≡ 0x02 ∷ 0x00 ∷ []
time_of_7_bits = refl

pub time_of_14_bits : spelling none (Time 14 5) ≡ 0x02 ∷ 0x85 ∷ 0x00 ∷ []
time_of_14_bits = refl

pub time_of_56_bits : spelling none (Time 56 0xff00ff00ff00ff) ≡ 0x02 ∷ 0xff ∷ 0x81 ∷ 0xfc ∷ 0x87 ∷ 0xf0 ∷ 0x9f ∷ 0xc0 ∷ 0x7f ∷ []
time_of_56_bits = refl

pub time_of_64_bits : spelling none (Time 64 0x123456789abcdef) ≡ 0x02 ∷ 0xef ∷ 0x9b ∷ 0xaf ∷ 0xcd ∷ 0xf8 ∷ 0xac ∷ 0xd1 ∷ 0x91 ∷ 0x01 ∷ []
time_of_64_bits = refl

-- Exception instruction trace packet: E0 alone, and E1 alone
pub first_exception : spelling none (Exc 0 false) ≡ 0x06 ∷ 0x01 ∷ []
first_exception = refl

pub irq : spelling none (Exc 14 false) ≡ 0x06 ∷ 0x1d ∷ []
irq = refl

pub last_exception : spelling none (Exc 31 false) ≡ 0x06 ∷ 0x3f ∷ []
last_exception = refl

pub first_exception_at_its_target : spelling none (Exc 0 true) ≡ 0x06 ∷ 0x40 ∷ []
first_exception_at_its_target = refl

pub irq_at_its_target : spelling none (Exc 14 true) ≡ 0x06 ∷ 0x5c ∷ []
irq_at_its_target = refl

pub last_exception_at_its_target : spelling none (Exc 31 true) ≡ 0x06 ∷ 0x7e ∷ []
last_exception_at_its_target = refl

-- Commit packet: no group of zeros at the end
pub commit_0 : spelling none (Commit 0) ≡ 0x2d ∷ 0x00 ∷ []
commit_0 = refl

pub commit_127 : spelling none (Commit 0x7f) ≡ 0x2d ∷ 0x7f ∷ []
commit_127 = refl

pub commit_128 : spelling none (Commit 0x80) ≡ 0x2d ∷ 0x80 ∷ 0x01 ∷ []
commit_128 = refl

pub commit_most : spelling none (Commit 0xffffffff) ≡ 0x2d ∷ 0xff ∷ 0xff ∷ 0xff ∷ 0xff ∷ 0x0f ∷ []
commit_most = refl

-- Cancel Format 1 packet: 2f with a mispredict
pub cancel_one : spelling none (Cancel 1 false) ≡ 0x2e ∷ 0x01 ∷ []
cancel_one = refl

pub cancel_and_mispredict : spelling none (Cancel 0xc8 true) ≡ 0x2f ∷ 0xc8 ∷ 0x01 ∷ []
cancel_and_mispredict = refl

-- Mispredict packet
pub mispredict_alone : spelling none (Mispredict no_atom) ≡ 0x30 ∷ []
mispredict_alone = refl

pub mispredict_e : spelling none (Mispredict one_e) ≡ 0x31 ∷ []
mispredict_e = refl

pub mispredict_ee : spelling none (Mispredict two_e) ≡ 0x32 ∷ []
mispredict_ee = refl

pub mispredict_n : spelling none (Mispredict one_n) ≡ 0x33 ∷ []
mispredict_n = refl

-- Cancel Format 2 packet
pub cancel_2_alone : spelling none (Cancel2 no_atom) ≡ 0x34 ∷ []
cancel_2_alone = refl

pub cancel_2_e : spelling none (Cancel2 one_e) ≡ 0x35 ∷ []
cancel_2_e = refl

pub cancel_2_ee : spelling none (Cancel2 two_e) ≡ 0x36 ∷ []
cancel_2_ee = refl

pub cancel_2_n : spelling none (Cancel2 one_n) ≡ 0x37 ∷ []
cancel_2_n = refl

-- Cancel Format 3 packet
pub cancel_3_two : spelling none (Cancel3 false 2) ≡ 0x38 ∷ []
cancel_3_two = refl

pub cancel_3_e_two : spelling none (Cancel3 true 2) ≡ 0x39 ∷ []
cancel_3_e_two = refl

pub cancel_3_four : spelling none (Cancel3 false 4) ≡ 0x3c ∷ []
cancel_3_four = refl

pub cancel_3_e_five : spelling none (Cancel3 true 5) ≡ 0x3f ∷ []
cancel_3_e_five = refl

-- Event packet
pub first_event : spelling none (Event 1) ≡ 0x71 ∷ []
first_event = refl

pub all_events : spelling none (Event 15) ≡ 0x7f ∷ []
all_events = refl

-- Context packet: the VMID before the context ID, the low byte first
pub context_as_before : spelling one_and_four CtxSame ≡ 0x80 ∷ []
context_as_before = refl

pub context_without_fields : spelling none (CtxInfo (record { el = 1; ns = true; vmid = None; cid = None })) ≡ 0x81 ∷ 0x31 ∷ []
context_without_fields = refl

pub context_with_vmid : spelling one_and_four (CtxInfo (record { el = 0; ns = false; vmid = Some 0x2a; cid = None })) ≡ 0x81 ∷ 0x50 ∷ 0x2a ∷ []
context_with_vmid = refl

pub context_of_two_bytes : spelling two_and_none (CtxInfo (record { el = 2; ns = true; vmid = Some 0x102; cid = None })) ≡ 0x81 ∷ 0x72 ∷ 0x02 ∷ 0x01 ∷ []
context_of_two_bytes = refl

pub context_of_four_bytes : spelling four_and_four (CtxInfo (record { el = 3; ns = false; vmid = Some 0x1020304; cid = Some 0xa0b0c0d0 }))
    ≡ 0x81 ∷ 0xd3 ∷ 0x04 ∷ 0x03 ∷ 0x02 ∷ 0x01 ∷ 0xd0 ∷ 0xc0 ∷ 0xb0 ∷ 0xa0 ∷ []
context_of_four_bytes = refl

-- Address with Context packet
pub long_64_with_context : spelling none (Addr (Long64 0x1000) (Some (record { el = 1; ns = true; vmid = None; cid = None })))
    ≡ 0x85 ∷ 0x00 ∷ 0x08 ∷ 0x00 ∷ 0x00 ∷ 0x00 ∷ 0x00 ∷ 0x00 ∷ 0x00 ∷ 0x31 ∷ []
long_64_with_context = refl

pub long_32_with_context : spelling one_and_four (Addr (Long32 0x12345678) (Some (record { el = 1; ns = false; vmid = Some 7; cid = Some 0x1020304 })))
    ≡ 0x82 ∷ 0x1e ∷ 0x2b ∷ 0x34 ∷ 0x12 ∷ 0xd1 ∷ 0x07 ∷ 0x04 ∷ 0x03 ∷ 0x02 ∷ 0x01 ∷ []
long_32_with_context = refl

-- Exact Match Address packet
pub match_0 : spelling none (Addr (Match 0) None) ≡ 0x90 ∷ []
match_0 = refl

pub match_1 : spelling none (Addr (Match 1) None) ≡ 0x91 ∷ []
match_1 = refl

pub match_2 : spelling none (Addr (Match 2) None) ≡ 0x92 ∷ []
match_2 = refl

-- Short Address packet
pub one_byte : spelling none (Addr (Short1 0x1fc) None) ≡ 0x95 ∷ 0x7f ∷ []
one_byte = refl

pub two_bytes : spelling none (Addr (Short2 0x1200) None) ≡ 0x95 ∷ 0x80 ∷ 0x09 ∷ []
two_bytes = refl

pub most_in_two_bytes : spelling none (Addr (Short2 0x1fffc) None) ≡ 0x95 ∷ 0xff ∷ 0xff ∷ []
most_in_two_bytes = refl

-- Long Address packets: bit 7 of the first two bytes is 0
pub long_32_address : spelling none (Addr (Long32 0x20000) None) ≡ 0x9a ∷ 0x00 ∷ 0x00 ∷ 0x02 ∷ 0x00 ∷ []
long_32_address = refl

pub long_64_address : spelling none (Addr (Long64 0x100000000) None) ≡ 0x9d ∷ 0x00 ∷ 0x00 ∷ 0x00 ∷ 0x00 ∷ 0x01 ∷ 0x00 ∷ 0x00 ∷ 0x00 ∷ []
long_64_address = refl

pub last_address : spelling none (Addr (Long64 0xfffffffffffffffc) None) ≡ 0x9d ∷ 0x7f ∷ 0x7f ∷ 0xff ∷ 0xff ∷ 0xff ∷ 0xff ∷ 0xff ∷ 0xff ∷ []
last_address = refl

-- Atom Format 1 to 6 packets
pub atom_e : spelling none (Atoms (record { count = 1; bits = 1 })) ≡ 0xf7 ∷ []
unfolding atom_formats byte_of
atom_e = refl

pub atoms_ne : spelling none (Atoms (record { count = 2; bits = 2 })) ≡ 0xda ∷ []
unfolding atom_formats byte_of
atoms_ne = refl

pub atoms_een : spelling none (Atoms (record { count = 3; bits = 3 })) ≡ 0xfb ∷ []
unfolding atom_formats byte_of
atoms_een = refl

pub atoms_neee : spelling none (Atoms (record { count = 4; bits = 0xe })) ≡ 0xdc ∷ []
unfolding atom_formats byte_of
atoms_neee = refl

pub atoms_nenen : spelling none (Atoms (record { count = 5; bits = 0xa })) ≡ 0xd6 ∷ []
unfolding atom_formats byte_of
atoms_nenen = refl

pub atoms_24_e : spelling none (Atoms (record { count = 24; bits = 0xffffff })) ≡ 0xd4 ∷ []
unfolding atom_formats byte_of
atoms_24_e = refl

pub atoms_23_e_and_n : spelling none (Atoms (record { count = 24; bits = 0x7fffff })) ≡ 0xf4 ∷ []
unfolding atom_formats byte_of
atoms_23_e_and_n = refl

-- ---- other spellings, which are not written

-- a number with a group of zeros behind it
pub commit_padded : SpellsPacket none (Commit 128) (0x2d ∷ 0x80 ∷ 0x81 ∷ 0x00 ∷ [])
commit_padded = (0x80 ∷ 0x81 ∷ 0x00 ∷ [], refl, inl (1, 0x81 ∷ 0x00 ∷ [], [], refl, inl (0, 0x00 ∷ [], [], refl, refl, refl), refl))

pub not_padded : spelling none (Commit 128) ≡ 0x2d ∷ 0x80 ∷ 0x81 ∷ 0x00 ∷ [] → ⊥
not_padded e = other_text (spelling none (Commit 128)) (0x2d ∷ 0x80 ∷ 0x81 ∷ 0x00 ∷ []) refl e

-- bit 7 of an address byte
pub address_with_bit_7 : SpellsPacket none (Addr (Long32 0x20000) None) (0x9a ∷ 0x80 ∷ 0x80 ∷ 0x02 ∷ 0x00 ∷ [])
address_with_bit_7 =
    (0x80 ∷ 0x80 ∷ 0x02 ∷ 0x00 ∷ [], refl, inl (0x80 ∷ 0x80 ∷ 0x02 ∷ 0x00 ∷ [], 0x80 ∷ 0x80 ∷ 0x02 ∷ 0x00 ∷ [], [], refl, (refl, refl), refl))

pub not_with_bit_7 : spelling none (Addr (Long32 0x20000) None) ≡ 0x9a ∷ 0x80 ∷ 0x80 ∷ 0x02 ∷ 0x00 ∷ [] → ⊥
not_with_bit_7 e = other_text (spelling none (Addr (Long32 0x20000) None)) (0x9a ∷ 0x80 ∷ 0x80 ∷ 0x02 ∷ 0x00 ∷ []) refl e

abbrev el_1 : CtxBits
el_1 = record { el = 1; ns = true; vmid = None; cid = None }

-- bits 2 and 3 of an info byte, and bits 6 and 7 where the sizes are 0
pub info_byte_with_all_bits : SpellsPacket none (CtxInfo el_1) (0x81 ∷ 0xfd ∷ [])
info_byte_with_all_bits = (0xfd ∷ [], refl, inl (None, [], [], refl, refl, inl (None, [], [], refl, refl, refl)))

pub not_with_all_bits : spelling none (CtxInfo el_1) ≡ 0x81 ∷ 0xfd ∷ [] → ⊥
not_with_all_bits e = other_text (spelling none (CtxInfo el_1)) (0x81 ∷ 0xfd ∷ []) refl e

-- ---- bytes that are no spelling of the packet, and are not written

pub not_2e_with_a_mispredict : spelling none (Cancel 3 true) ≡ 0x2e ∷ 0x03 ∷ [] → ⊥
not_2e_with_a_mispredict e = other_text (spelling none (Cancel 3 true)) (0x2e ∷ 0x03 ∷ []) refl e

pub not_the_high_byte_first : spelling two_and_none (CtxInfo (record { el = 2; ns = true; vmid = Some 0x0102; cid = None }))
    ≡ 0x81 ∷ 0x72 ∷ 0x01 ∷ 0x02 ∷ [] → ⊥
not_the_high_byte_first e =
    other_text (spelling two_and_none (CtxInfo (record { el = 2; ns = true; vmid = Some 0x0102; cid = None }))) (0x81 ∷ 0x72 ∷ 0x01 ∷ 0x02 ∷ []) refl e

pub not_without_the_info_number : spelling none (Info (Some 0) None (Some 1) None) ≡ 0x01 ∷ 0x05 ∷ 0x01 ∷ [] → ⊥
not_without_the_info_number e = other_text (spelling none (Info (Some 0) None (Some 1) None)) (0x01 ∷ 0x05 ∷ 0x01 ∷ []) refl e

pub not_e1_beside_e0 : spelling none (Exc 14 true) ≡ 0x06 ∷ 0x5d ∷ [] → ⊥
not_e1_beside_e0 e = other_text (spelling none (Exc 14 true)) (0x06 ∷ 0x5d ∷ []) refl e

pub not_e0_at_a_target : spelling none (Exc 14 true) ≡ 0x06 ∷ 0x1d ∷ [] → ⊥
not_e0_at_a_target e = other_text (spelling none (Exc 14 true)) (0x06 ∷ 0x1d ∷ []) refl e

pub not_e1_alone_without_one : spelling none (Exc 14 false) ≡ 0x06 ∷ 0x5c ∷ [] → ⊥
not_e1_alone_without_one e = other_text (spelling none (Exc 14 false)) (0x06 ∷ 0x5c ∷ []) refl e

-- ---- packets that have no spelling

pub no_exception_of_type_32 : (target : Bool) → HasSpelling none (Exc 32 target) → ⊥
no_exception_of_type_32 target has = let fits = spelled_fits none (Exc 32 target) has in omega (arith, fits.0)

pub no_event : HasSpelling none (Event 0) → ⊥
no_event has = let fits = spelled_fits none (Event 0) has in omega (arith, fits.0.0)

pub no_vmid_without_its_bytes : HasSpelling none (CtxInfo (record { el = 0; ns = false; vmid = Some 0; cid = None })) → ⊥
no_vmid_without_its_bytes has =
    let fits = spelled_fits none (CtxInfo (record { el = 0; ns = false; vmid = Some 0; cid = None })) has in omega (arith, fits.0.vmid.0)

pub no_context_with_an_entry : HasSpelling none (Addr (Match 0) (Some el_1)) → ⊥
no_context_with_an_entry has = let fits = spelled_fits none (Addr (Match 0) (Some el_1)) has in fits.1

-- no byte tells N N E E
pub no_byte_of_nnee : HasSpelling none (Atoms (record { count = 4; bits = 0xc })) → ⊥
unfolding atom_formats byte_of
no_byte_of_nnee has =
    let fits = spelled_fits none (Atoms (record { count = 4; bits = 0xc })) has in
    let told : byte_of (false ∷ false ∷ true ∷ true ∷ []) ≡ Some fits.1.0 = byte_found (false ∷ false ∷ true ∷ true ∷ []) fits.1.0 fits.1.1 in
    absurd cc

-- 15 bits are not told by two bytes ..
pub no_time_of_15_bits : HasSpelling none (Time 14 0x4000) → ⊥
no_time_of_15_bits has = let fits = spelled_fits none (Time 14 0x4000) has in omega (arith, fits.0.1)

-- .. though they would be by numbers that are no bytes
pub not_of_bytes : SpellsPacket none (Time 14 0x4000) (0x02 ∷ 0x4080 ∷ 0x00 ∷ [])
not_of_bytes = (0x4080 ∷ 0x00 ∷ [], refl, inl (record { bits = 7; low = 0 }, 0x00 ∷ [], [], refl, refl, refl))

-- ---- what a packet's values leave open

-- the highest address of 64 bits, alone and with a context; and the shorter long form with one
pub long_forms : HasForm (Addr (Long64 0xfffffffffffffffc) None) × HasForm (Addr (Long64 0xfffffffffffffffc) (Some el_1))
    × HasForm (Addr (Long32 0xfffffffc) (Some el_1))
long_forms = (omega arith, omega arith, tt)

pub other_forms : HasForm (Addr (Match 2) None) × HasForm (Addr (Short1 4) None) × HasForm (Addr (Short2 4) None) × HasForm (Addr (Long32 4) None)
    × HasForm Async × HasForm Discard × HasForm Overflow × HasForm (Info None None None None) × HasForm On × HasForm Ignore × HasForm (Event 0)
    × HasForm (Time 1 2) × HasForm (Exc 99 true) × HasForm (Commit 0) × HasForm (Cancel 0 true) × HasForm (Mispredict no_atom) × HasForm (Cancel2 no_atom)
    × HasForm (Cancel3 true 0) × HasForm CtxSame × HasForm (CtxInfo el_1)
other_forms = (tt, tt, tt, tt, tt, tt, tt, tt, tt, tt, tt, tt, tt, tt, tt, tt, tt, tt, tt, tt)

pub form_of_ne : HasForm (Atoms (record { count = 2; bits = 2 }))
unfolding atom_formats
form_of_ne = (0xda, row_found atom_formats 0xda (false ∷ true ∷ []) refl)

pub no_address_of_65_bits : HasForm (Addr (Long64 0x10000000000000000) None) → ⊥
no_address_of_65_bits has = omega (arith, has)

pub none_of_65_bits_with_a_context : HasForm (Addr (Long64 0x10000000000000000) (Some el_1)) → ⊥
none_of_65_bits_with_a_context has = omega (arith, has)

pub no_short_form_with_a_context : HasForm (Addr (Short1 4) (Some el_1)) → ⊥
no_short_form_with_a_context has = has

-- ---- packets one after the other

abbrev el_0 : CtxBits
el_0 = record { el = 0; ns = false; vmid = None; cid = None }

abbrev branch : Packet
branch = Atoms (record { count = 1; bits = 1 })

-- a branch between two A-syncs, that is then turned
abbrev turned : List Packet
turned =
    Async ∷ Info (Some 0) None None None ∷ On ∷ Addr (Long64 0x1000) (Some el_0) ∷ branch
    ∷ Async ∷ Info (Some 0) None (Some 1) None ∷ Addr (Long64 0x100c) (Some el_0) ∷ Mispredict no_atom ∷ branch ∷ Commit 2 ∷ []

abbrev sync : List ℕ
sync = 0x00 ∷ 0x00 ∷ 0x00 ∷ 0x00 ∷ 0x00 ∷ 0x00 ∷ 0x00 ∷ 0x00 ∷ 0x00 ∷ 0x00 ∷ 0x00 ∷ 0x80 ∷ []

abbrev six_zeros : List ℕ
six_zeros = 0x00 ∷ 0x00 ∷ 0x00 ∷ 0x00 ∷ 0x00 ∷ 0x00 ∷ []

pub bytes_of_turned : flat_map (spelling none) turned
    ≡ sync ++ (0x01 ∷ 0x01 ∷ 0x00 ∷ 0x04 ∷ 0x85 ∷ 0x00 ∷ 0x08 ∷ six_zeros) ++ (0x10 ∷ 0xf7 ∷ sync)
    ++ (0x01 ∷ 0x05 ∷ 0x00 ∷ 0x01 ∷ 0x85 ∷ 0x03 ∷ 0x08 ∷ six_zeros) ++ (0x10 ∷ 0x30 ∷ 0xf7 ∷ 0x2d ∷ 0x02 ∷ [])
unfolding atom_formats byte_of
bytes_of_turned = refl

pub offsets_of_turned : with_offsets none 0 turned
    ≡ (0, Async) ∷ (12, Info (Some 0) None None None) ∷ (15, On) ∷ (16, Addr (Long64 0x1000) (Some el_0)) ∷ (26, branch) ∷ (27, Async)
    ∷ (39, Info (Some 0) None (Some 1) None) ∷ (43, Addr (Long64 0x100c) (Some el_0)) ∷ (53, Mispredict no_atom) ∷ (54, branch) ∷ (55, Commit 2) ∷ []
unfolding atom_formats byte_of
offsets_of_turned = refl

-- two atoms and a commit of both, behind the head of a trace
pub bytes_of_two_branches : flat_map (spelling none)
    (Async ∷ Info (Some 0) None None None ∷ On ∷ Addr (Long64 0x1000) (Some el_1) ∷ Atoms (record { count = 2; bits = 2 }) ∷ Commit 2 ∷ [])
    ≡ sync ++ (0x01 ∷ 0x01 ∷ 0x00 ∷ 0x04 ∷ 0x85 ∷ 0x00 ∷ 0x08 ∷ six_zeros) ++ (0x31 ∷ 0xda ∷ 0x2d ∷ 0x02 ∷ [])
unfolding atom_formats byte_of
bytes_of_two_branches = refl

-- ---- fronts

-- of EEENN the first four, and the first one, but not the first one as N, nor more atoms than there are
pub front_of_four : SpellsFront (true ∷ true ∷ true ∷ false ∷ false ∷ []) 0xe0 4
unfolding atom_formats
front_of_four = (omega arith, row_found atom_formats 0xe0 (true ∷ true ∷ true ∷ false ∷ []) refl)

pub front_of_one : SpellsFront (true ∷ true ∷ true ∷ false ∷ false ∷ []) 0xf7 1
unfolding atom_formats
front_of_one = (omega arith, row_found atom_formats 0xf7 (true ∷ []) refl)

pub no_front_of_n : SpellsFront (true ∷ true ∷ true ∷ false ∷ false ∷ []) 0xf6 1 → ⊥
unfolding atom_formats
no_front_of_n front =
    let is : true ∷ [] ≡ false ∷ [] = one_run_a_byte 0xf6 (true ∷ []) (false ∷ []) front.1 (row_found atom_formats 0xf6 (false ∷ []) refl) in
    absurd cc

pub no_longer_than_the_list : SpellsFront (true ∷ []) 0xf7 2 → ⊥
no_longer_than_the_list front = absurd (omega (arith, front.0))
