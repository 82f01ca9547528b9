-- Packets with bytes that spell them. The values come from the standard's tables, worked out apart from the definitions. No
-- bytes spell two packets, so each of these says too what its bytes do not spell.
use Rattle.std.proofs.Common.{◌≡◌, ℕ, List, [], ◌∷◌, Bool, true, false, Some, None, Ok, refl, sym, ap, ◌∙◌, inl, inr, arith}
use Rattle.etm_types.specs.Settings.{Sizes}
use Rattle.etm_types.specs.Atoms.{low_bits}
use Rattle.etm_types.specs.declared.address.AddrForm.TheVariants.{Match, Short1, Short2, Long32, Long64}
use Rattle.etm_types.specs.declared.atoms.FewAtoms.{FewAtoms}
use Rattle.atom_formats.specs.Formats.{atom_formats}
use Rattle.atom_formats.proofs.Table.{row_found}
use Rattle.packet_grammar.specs.declared.packet.Packet.TheVariants.{Async, Discard, Overflow, Info, On, Ignore, Event, Time, Exc}
use Rattle.packet_grammar.specs.declared.packet.Packet.TheVariants.{Commit, Cancel, Mispredict, Cancel2, Cancel3, CtxSame, CtxInfo, Addr, Atoms}
use Rattle.packet_grammar.specs.Fields.{bit, field}
use Rattle.packet_grammar.specs.Numbers.{Number}
use Rattle.packet_grammar.specs.Ranges.{IsPacket}
use Rattle.packet_grammar.specs.Parsed.{Spells}

-- a VMID of one byte and a context ID of four
abbrev one_and_four : Sizes
one_and_four = record { depth = 8; vmid_bytes = 1; cid_bytes = 4 }

-- a VMID of two bytes and no context ID
abbrev two_and_none : Sizes
two_and_none = record { depth = 8; vmid_bytes = 2; cid_bytes = 0 }

-- neither
abbrev none : Sizes
none = record { depth = 8; vmid_bytes = 0; cid_bytes = 0 }

-- four bytes each
abbrev four_and_four : Sizes
four_and_four = record { depth = 8; vmid_bytes = 4; cid_bytes = 4 }

abbrev no_atom : FewAtoms
no_atom = record { count = 0; first = false }

abbrev one_e : FewAtoms
one_e = record { count = 1; first = true }

abbrev two_e : FewAtoms
two_e = record { count = 2; first = true }

abbrev one_n : FewAtoms
one_n = record { count = 1; first = false }

-- the largest number, in five bytes
abbrev most_in_five : List ℕ
most_in_five = 0xff ∷ 0xff ∷ 0xff ∷ 0xff ∷ 0x0f ∷ []

most_in_five_is : Number (Ok 0xffffffff) most_in_five
most_in_five_is = inl (
  0x1ffffff,
  0xff ∷ 0xff ∷ 0xff ∷ 0x0f ∷ [],
  [],
  refl,
  inl (0x3ffff, 0xff ∷ 0xff ∷ 0x0f ∷ [], [], refl, inl (0x7ff, 0xff ∷ 0x0f ∷ [], [], refl, inl (0xf, 0x0f ∷ [], [], refl, refl, refl), refl), refl),
  refl,
)

-- Alignment Synchronization packet, Discard packet, Overflow packet, Trace On packet, Ignore packet
pub async : (s : Sizes) → Spells s (Ok Async) (0x00 ∷ 0x00 ∷ 0x00 ∷ 0x00 ∷ 0x00 ∷ 0x00 ∷ 0x00 ∷ 0x00 ∷ 0x00 ∷ 0x00 ∷ 0x00 ∷ 0x80 ∷ [])
async s = refl

pub discard : (s : Sizes) → Spells s (Ok Discard) (0x00 ∷ 0x03 ∷ [])
discard s = refl

pub overflow : (s : Sizes) → Spells s (Ok Overflow) (0x00 ∷ 0x05 ∷ [])
overflow s = refl

pub on : (s : Sizes) → Spells s (Ok On) (0x04 ∷ [])
on s = refl

pub ignore : (s : Sizes) → Spells s (Ok Ignore) (0x70 ∷ [])
ignore s = refl

-- Trace Info packet: no section; INFO; INFO and SPEC; KEY and CYCT; CYCT of five bytes; all four, the third of two bytes
pub info_bare : (s : Sizes) → Spells s (Ok (Info None None None None)) (0x01 ∷ 0x00 ∷ [])
info_bare s = (
  0x00 ∷ [],
  refl,
  inl (None, [], [], refl, refl, inl (None, [], [], refl, refl, inl (None, [], [], refl, refl, inl (None, [], [], refl, refl, refl)))),
)

pub info_mode : (s : Sizes) → Spells s (Ok (Info (Some 0) None None None)) (0x01 ∷ 0x01 ∷ 0x00 ∷ [])
info_mode s = (
  0x01 ∷ 0x00 ∷ [],
  refl,
  inl (
    Some 0,
    0x00 ∷ [],
    [],
    refl,
    inl (0, 0x00 ∷ [], [], refl, inl (0, 0x00 ∷ [], [], refl, refl, refl), refl),
    inl (None, [], [], refl, refl, inl (None, [], [], refl, refl, inl (None, [], [], refl, refl, refl))),
  ),
)

pub info_spec : (s : Sizes) → Spells s (Ok (Info (Some 0) None (Some 1) None)) (0x01 ∷ 0x05 ∷ 0x00 ∷ 0x01 ∷ [])
info_spec s = (
  0x05 ∷ 0x00 ∷ 0x01 ∷ [],
  refl,
  inl (
    Some 0,
    0x00 ∷ [],
    0x01 ∷ [],
    refl,
    inl (0, 0x00 ∷ [], [], refl, inl (0, 0x00 ∷ [], [], refl, refl, refl), refl),
    inl (
      None,
      [],
      0x01 ∷ [],
      refl,
      refl,
      inl (Some 1, 0x01 ∷ [], [], refl, inl (1, 0x01 ∷ [], [], refl, refl, refl), inl (None, [], [], refl, refl, refl)),
    ),
  ),
)

pub info_key_and_threshold : (s : Sizes) → Spells s (Ok (Info None (Some 5) None (Some 7))) (0x01 ∷ 0x0a ∷ 0x05 ∷ 0x07 ∷ [])
info_key_and_threshold s = (
  0x0a ∷ 0x05 ∷ 0x07 ∷ [],
  refl,
  inl (
    None,
    [],
    0x05 ∷ 0x07 ∷ [],
    refl,
    refl,
    inl (
      Some 5,
      0x05 ∷ [],
      0x07 ∷ [],
      refl,
      inl (5, 0x05 ∷ [], [], refl, refl, refl),
      inl (None, [], 0x07 ∷ [], refl, refl, inl (Some 7, 0x07 ∷ [], [], refl, inl (7, 0x07 ∷ [], [], refl, refl, refl), refl)),
    ),
  ),
)

pub info_threshold_of_five_bytes : (s : Sizes) → Spells s (Ok (Info None None None (Some 0xffffffff))) (0x01 ∷ 0x08 ∷ 0xff ∷ 0xff ∷ 0xff ∷ 0xff ∷ 0x0f ∷ [])
info_threshold_of_five_bytes s = (
  0x08 ∷ most_in_five,
  refl,
  inl (
    None,
    [],
    most_in_five,
    refl,
    refl,
    inl (
      None,
      [],
      most_in_five,
      refl,
      refl,
      inl (
        None,
        [],
        most_in_five,
        refl,
        refl,
        inl (Some 0xffffffff, most_in_five, [], refl, inl (0xffffffff, most_in_five, [], refl, most_in_five_is, refl), refl),
      ),
    ),
  ),
)

pub info_whole : (s : Sizes) → Spells s (Ok (Info (Some 0) (Some 5) (Some 131) (Some 7))) (0x01 ∷ 0x0f ∷ 0x00 ∷ 0x05 ∷ 0x83 ∷ 0x01 ∷ 0x07 ∷ [])
info_whole s = (
  0x0f ∷ 0x00 ∷ 0x05 ∷ 0x83 ∷ 0x01 ∷ 0x07 ∷ [],
  refl,
  inl (
    Some 0,
    0x00 ∷ [],
    0x05 ∷ 0x83 ∷ 0x01 ∷ 0x07 ∷ [],
    refl,
    inl (0, 0x00 ∷ [], [], refl, inl (0, 0x00 ∷ [], [], refl, refl, refl), refl),
    inl (
      Some 5,
      0x05 ∷ [],
      0x83 ∷ 0x01 ∷ 0x07 ∷ [],
      refl,
      inl (5, 0x05 ∷ [], [], refl, refl, refl),
      inl (
        Some 131,
        0x83 ∷ 0x01 ∷ [],
        0x07 ∷ [],
        refl,
        inl (131, 0x83 ∷ 0x01 ∷ [], [], refl, inl (1, 0x01 ∷ [], [], refl, refl, refl), refl),
        inl (Some 7, 0x07 ∷ [], [], refl, inl (7, 0x07 ∷ [], [], refl, refl, refl), refl),
      ),
    ),
  ),
)

-- Timestamp packet: of one byte, of two, and of nine, of which the last has eight bits
pub time_7 : (s : Sizes) → Spells s (Ok (Time 7 5)) (0x02 ∷ 0x05 ∷ [])
time_7 s = (0x05 ∷ [], refl, refl)

pub time_14 : (s : Sizes) → Spells s (Ok (Time 14 129)) (0x02 ∷ 0x81 ∷ 0x01 ∷ [])
time_14 s = (0x81 ∷ 0x01 ∷ [], refl, inl (record { bits = 7; low = 1 }, 0x01 ∷ [], [], refl, refl, refl))

pub time_64 : (s : Sizes) → Spells s (Ok (Time 64 18374686479671623680)) (0x02 ∷ 0x80 ∷ 0x80 ∷ 0x80 ∷ 0x80 ∷ 0x80 ∷ 0x80 ∷ 0x80 ∷ 0x80 ∷ 0xff ∷ [])
time_64 s = (
  0x80 ∷ 0x80 ∷ 0x80 ∷ 0x80 ∷ 0x80 ∷ 0x80 ∷ 0x80 ∷ 0x80 ∷ 0xff ∷ [],
  refl,
  inl (
    record { bits = 57; low = 143552238122434560 },
    0x80 ∷ 0x80 ∷ 0x80 ∷ 0x80 ∷ 0x80 ∷ 0x80 ∷ 0x80 ∷ 0xff ∷ [],
    [],
    refl,
    inl (
      record { bits = 50; low = 1121501860331520 },
      0x80 ∷ 0x80 ∷ 0x80 ∷ 0x80 ∷ 0x80 ∷ 0x80 ∷ 0xff ∷ [],
      [],
      refl,
      inl (
        record { bits = 43; low = 8761733283840 },
        0x80 ∷ 0x80 ∷ 0x80 ∷ 0x80 ∷ 0x80 ∷ 0xff ∷ [],
        [],
        refl,
        inl (
          record { bits = 36; low = 68451041280 },
          0x80 ∷ 0x80 ∷ 0x80 ∷ 0x80 ∷ 0xff ∷ [],
          [],
          refl,
          inl (
            record { bits = 29; low = 534773760 },
            0x80 ∷ 0x80 ∷ 0x80 ∷ 0xff ∷ [],
            [],
            refl,
            inl (
              record { bits = 22; low = 4177920 },
              0x80 ∷ 0x80 ∷ 0xff ∷ [],
              [],
              refl,
              inl (
                record { bits = 15; low = 32640 },
                0x80 ∷ 0xff ∷ [],
                [],
                refl,
                inl (record { bits = 8; low = 255 }, 0xff ∷ [], [], refl, refl, refl),
                refl,
              ),
              refl,
            ),
            refl,
          ),
          refl,
        ),
        refl,
      ),
      refl,
    ),
    refl,
  ),
)

-- Exception instruction trace packet, with E1 E0 of 0 1 and of 1 0: the least type, 14 and the greatest
pub reset : (s : Sizes) → Spells s (Ok (Exc 0 false)) (0x06 ∷ 0x01 ∷ [])
reset s = (0x01, refl, refl, refl, refl, refl)

pub irq : (s : Sizes) → Spells s (Ok (Exc 14 false)) (0x06 ∷ 0x1d ∷ [])
irq s = (0x1d, refl, refl, refl, refl, refl)

pub last_type : (s : Sizes) → Spells s (Ok (Exc 31 false)) (0x06 ∷ 0x3f ∷ [])
last_type s = (0x3f, refl, refl, refl, refl, refl)

pub reset_at_its_target : (s : Sizes) → Spells s (Ok (Exc 0 true)) (0x06 ∷ 0x40 ∷ [])
reset_at_its_target s = (0x40, refl, refl, refl, refl, refl)

pub irq_at_its_target : (s : Sizes) → Spells s (Ok (Exc 14 true)) (0x06 ∷ 0x5c ∷ [])
irq_at_its_target s = (0x5c, refl, refl, refl, refl, refl)

pub last_type_at_its_target : (s : Sizes) → Spells s (Ok (Exc 31 true)) (0x06 ∷ 0x7e ∷ [])
last_type_at_its_target s = (0x7e, refl, refl, refl, refl, refl)

-- near misses: each of E1 E0 taken for the other, bit 6 taken for one of the type, E1 E0 of 0 0 and 1 1, and another byte
byte_is : (b c : ℕ) → ◌≡◌ {A = List ℕ} (0x06 ∷ b ∷ []) (0x06 ∷ c ∷ []) → b ≡ c
byte_is b c e = cc

pub no_target_at_0_1 : (s : Sizes) → Spells s (Ok (Exc 14 true)) (0x06 ∷ 0x1d ∷ []) → ⊥
no_target_at_0_1 s (b, e, b7, b6, b0, k) = let off : bit 6 0x1d ≡ true = ap (bit 6) (byte_is 0x1d b e) ∙ b6 in absurd cc

pub a_target_at_1_0 : (s : Sizes) → Spells s (Ok (Exc 14 false)) (0x06 ∷ 0x5c ∷ []) → ⊥
a_target_at_1_0 s (b, e, b7, b6, b0, k) = let on : bit 6 0x5c ≡ false = ap (bit 6) (byte_is 0x5c b e) ∙ b6 in absurd cc

pub no_bit_6_of_a_type : (s : Sizes) → Spells s (Ok (Exc 46 true)) (0x06 ∷ 0x5c ∷ []) → ⊥
no_bit_6_of_a_type s (b, e, b7, b6, b0, k) = let type : 46 ≡ 14 = k ∙ ap (field 5 1) (sym (byte_is 0x5c b e)) in absurd (omega (arith, type))

pub no_packet_at_0_0 : (s : Sizes) (kind : ℕ) (target : Bool) → Spells s (Ok (Exc kind target)) (0x06 ∷ 0x1c ∷ []) → ⊥
no_packet_at_0_0 s kind true (b, e, b7, b6, b0, k) = let off : bit 6 0x1c ≡ true = ap (bit 6) (byte_is 0x1c b e) ∙ b6 in absurd cc
no_packet_at_0_0 s kind false (b, e, b7, b6, b0, k) = let off : bit 0 0x1c ≡ true = ap (bit 0) (byte_is 0x1c b e) ∙ b0 in absurd cc

pub no_packet_at_1_1 : (s : Sizes) (kind : ℕ) (target : Bool) → Spells s (Ok (Exc kind target)) (0x06 ∷ 0x5d ∷ []) → ⊥
no_packet_at_1_1 s kind true (b, e, b7, b6, b0, k) = let on : bit 0 0x5d ≡ false = ap (bit 0) (byte_is 0x5d b e) ∙ b0 in absurd cc
no_packet_at_1_1 s kind false (b, e, b7, b6, b0, k) = let on : bit 6 0x5d ≡ false = ap (bit 6) (byte_is 0x5d b e) ∙ b6 in absurd cc

pub no_packet_of_two_bytes : (s : Sizes) (kind : ℕ) (target : Bool) → Spells s (Ok (Exc kind target)) (0x06 ∷ 0xdc ∷ []) → ⊥
no_packet_of_two_bytes s kind target (b, e, b7, b6, b0, k) = let on : bit 7 0xdc ≡ false = ap (bit 7) (byte_is 0xdc b e) ∙ b7 in absurd cc

-- Commit packet and Cancel Format 1 packet: of one byte, of two, and the greatest number
pub commit : (s : Sizes) → Spells s (Ok (Commit 2)) (0x2d ∷ 0x02 ∷ [])
commit s = (0x02 ∷ [], refl, refl)

pub largest_commit : (s : Sizes) → Spells s (Ok (Commit 4294967295)) (0x2d ∷ 0xff ∷ 0xff ∷ 0xff ∷ 0xff ∷ 0x0f ∷ [])
largest_commit s = (
  0xff ∷ 0xff ∷ 0xff ∷ 0xff ∷ 0x0f ∷ [],
  refl,
  inl (
    33554431,
    0xff ∷ 0xff ∷ 0xff ∷ 0x0f ∷ [],
    [],
    refl,
    inl (262143, 0xff ∷ 0xff ∷ 0x0f ∷ [], [], refl, inl (2047, 0xff ∷ 0x0f ∷ [], [], refl, inl (15, 0x0f ∷ [], [], refl, refl, refl), refl), refl),
    refl,
  ),
)

pub cancel : (s : Sizes) → Spells s (Ok (Cancel 3 false)) (0x2e ∷ 0x03 ∷ [])
cancel s = (0x03 ∷ [], refl, refl)

pub cancel_of_two_bytes : (s : Sizes) → Spells s (Ok (Cancel 257 false)) (0x2e ∷ 0x81 ∷ 0x02 ∷ [])
cancel_of_two_bytes s = (0x81 ∷ 0x02 ∷ [], refl, inl (2, 0x02 ∷ [], [], refl, refl, refl))

pub cancel_and_mispredict : (s : Sizes) → Spells s (Ok (Cancel 7 true)) (0x2f ∷ 0x07 ∷ [])
cancel_and_mispredict s = (0x07 ∷ [], refl, refl)

-- Mispredict packet, Cancel Format 2 packet, Cancel Format 3 packet: each of them
pub mispredict_0 : (s : Sizes) → Spells s (Ok (Mispredict no_atom)) (0x30 ∷ [])
mispredict_0 s = (0x30, (omega arith, omega arith, refl), refl)

pub mispredict_1 : (s : Sizes) → Spells s (Ok (Mispredict one_e)) (0x31 ∷ [])
mispredict_1 s = (0x31, (omega arith, omega arith, refl), refl)

pub mispredict_2 : (s : Sizes) → Spells s (Ok (Mispredict two_e)) (0x32 ∷ [])
mispredict_2 s = (0x32, (omega arith, omega arith, refl), refl)

pub mispredict_3 : (s : Sizes) → Spells s (Ok (Mispredict one_n)) (0x33 ∷ [])
mispredict_3 s = (0x33, (omega arith, omega arith, refl), refl)

pub cancel_2_0 : (s : Sizes) → Spells s (Ok (Cancel2 no_atom)) (0x34 ∷ [])
cancel_2_0 s = (0x34, (omega arith, omega arith, refl), refl)

pub cancel_2_1 : (s : Sizes) → Spells s (Ok (Cancel2 one_e)) (0x35 ∷ [])
cancel_2_1 s = (0x35, (omega arith, omega arith, refl), refl)

pub cancel_2_2 : (s : Sizes) → Spells s (Ok (Cancel2 two_e)) (0x36 ∷ [])
cancel_2_2 s = (0x36, (omega arith, omega arith, refl), refl)

pub cancel_2_3 : (s : Sizes) → Spells s (Ok (Cancel2 one_n)) (0x37 ∷ [])
cancel_2_3 s = (0x37, (omega arith, omega arith, refl), refl)

pub cancel_3_0 : (s : Sizes) → Spells s (Ok (Cancel3 false 2)) (0x38 ∷ [])
cancel_3_0 s = (0x38, (omega arith, omega arith, refl), refl, refl)

pub cancel_3_1 : (s : Sizes) → Spells s (Ok (Cancel3 true 2)) (0x39 ∷ [])
cancel_3_1 s = (0x39, (omega arith, omega arith, refl), refl, refl)

pub cancel_3_2 : (s : Sizes) → Spells s (Ok (Cancel3 false 3)) (0x3a ∷ [])
cancel_3_2 s = (0x3a, (omega arith, omega arith, refl), refl, refl)

pub cancel_3_3 : (s : Sizes) → Spells s (Ok (Cancel3 true 3)) (0x3b ∷ [])
cancel_3_3 s = (0x3b, (omega arith, omega arith, refl), refl, refl)

pub cancel_3_4 : (s : Sizes) → Spells s (Ok (Cancel3 false 4)) (0x3c ∷ [])
cancel_3_4 s = (0x3c, (omega arith, omega arith, refl), refl, refl)

pub cancel_3_5 : (s : Sizes) → Spells s (Ok (Cancel3 true 4)) (0x3d ∷ [])
cancel_3_5 s = (0x3d, (omega arith, omega arith, refl), refl, refl)

pub cancel_3_6 : (s : Sizes) → Spells s (Ok (Cancel3 false 5)) (0x3e ∷ [])
cancel_3_6 s = (0x3e, (omega arith, omega arith, refl), refl, refl)

pub cancel_3_7 : (s : Sizes) → Spells s (Ok (Cancel3 true 5)) (0x3f ∷ [])
cancel_3_7 s = (0x3f, (omega arith, omega arith, refl), refl, refl)

-- Event packet: event 0, events 1 and 2, all four
pub event_0 : (s : Sizes) → Spells s (Ok (Event 1)) (0x71 ∷ [])
event_0 s = (0x71, (omega arith, omega arith, refl), refl)

pub events_1_and_2 : (s : Sizes) → Spells s (Ok (Event 6)) (0x76 ∷ [])
events_1_and_2 s = (0x76, (omega arith, omega arith, refl), refl)

pub all_events : (s : Sizes) → Spells s (Ok (Event 15)) (0x7f ∷ [])
all_events s = (0x7f, (omega arith, omega arith, refl), refl)

-- Context packet: the same; no field, and once with bit 3 that is passed over; a VMID; a context ID, with bits 2 and 3; both; of other sizes; and
-- of no size, where nothing follows
pub same_context : (s : Sizes) → Spells s (Ok CtxSame) (0x80 ∷ [])
same_context s = refl

pub context : (s : Sizes) → Spells s (Ok (CtxInfo (record { el = 1; ns = true; vmid = None; cid = None }))) (0x81 ∷ 0x31 ∷ [])
context s = (0x31 ∷ [], refl, inl (None, [], [], refl, refl, inl (None, [], [], refl, refl, refl)))

pub context_bit_3 : (s : Sizes) → Spells s (Ok (CtxInfo (record { el = 1; ns = true; vmid = None; cid = None }))) (0x81 ∷ 0x39 ∷ [])
context_bit_3 s = (0x39 ∷ [], refl, inl (None, [], [], refl, refl, inl (None, [], [], refl, refl, refl)))

pub context_vmid : Spells one_and_four (Ok (CtxInfo (record { el = 2; ns = false; vmid = Some 171; cid = None }))) (0x81 ∷ 0x52 ∷ 0xab ∷ [])
context_vmid = (
  0x52 ∷ 0xab ∷ [],
  refl,
  inl (Some 171, 0xab ∷ [], [], refl, inl (0xab ∷ [], 0xab ∷ [], [], refl, (refl, refl), refl), inl (None, [], [], refl, refl, refl)),
)

pub context_id : Spells one_and_four (Ok (CtxInfo (record { el = 2; ns = false; vmid = None; cid = Some 305419896 })))
    (0x81 ∷ 0x9e ∷ 0x78 ∷ 0x56 ∷ 0x34 ∷ 0x12 ∷ [])
context_id = (
  0x9e ∷ 0x78 ∷ 0x56 ∷ 0x34 ∷ 0x12 ∷ [],
  refl,
  inl (
    None,
    [],
    0x78 ∷ 0x56 ∷ 0x34 ∷ 0x12 ∷ [],
    refl,
    refl,
    inl (
      Some 305419896,
      0x78 ∷ 0x56 ∷ 0x34 ∷ 0x12 ∷ [],
      [],
      refl,
      inl (0x78 ∷ 0x56 ∷ 0x34 ∷ 0x12 ∷ [], 0x78 ∷ 0x56 ∷ 0x34 ∷ 0x12 ∷ [], [], refl, (refl, refl), refl),
      refl,
    ),
  ),
)

pub context_both : Spells one_and_four (Ok (CtxInfo (record { el = 1; ns = true; vmid = Some 5; cid = Some 16909060 })))
    (0x81 ∷ 0xf1 ∷ 0x05 ∷ 0x04 ∷ 0x03 ∷ 0x02 ∷ 0x01 ∷ [])
context_both = (
  0xf1 ∷ 0x05 ∷ 0x04 ∷ 0x03 ∷ 0x02 ∷ 0x01 ∷ [],
  refl,
  inl (
    Some 5,
    0x05 ∷ [],
    0x04 ∷ 0x03 ∷ 0x02 ∷ 0x01 ∷ [],
    refl,
    inl (0x05 ∷ [], 0x05 ∷ [], [], refl, (refl, refl), refl),
    inl (
      Some 16909060,
      0x04 ∷ 0x03 ∷ 0x02 ∷ 0x01 ∷ [],
      [],
      refl,
      inl (0x04 ∷ 0x03 ∷ 0x02 ∷ 0x01 ∷ [], 0x04 ∷ 0x03 ∷ 0x02 ∷ 0x01 ∷ [], [], refl, (refl, refl), refl),
      refl,
    ),
  ),
)

pub context_of_two_bytes : Spells two_and_none (Ok (CtxInfo (record { el = 3; ns = true; vmid = Some 4660; cid = None }))) (0x81 ∷ 0xf3 ∷ 0x34 ∷ 0x12 ∷ [])
context_of_two_bytes = (
  0xf3 ∷ 0x34 ∷ 0x12 ∷ [],
  refl,
  inl (
    Some 4660,
    0x34 ∷ 0x12 ∷ [],
    [],
    refl,
    inl (0x34 ∷ 0x12 ∷ [], 0x34 ∷ 0x12 ∷ [], [], refl, (refl, refl), refl),
    inl (None, [], [], refl, refl, refl),
  ),
)

pub context_of_four_and_four : Spells four_and_four (Ok (CtxInfo (record { el = 0; ns = false; vmid = Some 16909060; cid = Some 84281096 })))
    (0x81 ∷ 0xd0 ∷ 0x04 ∷ 0x03 ∷ 0x02 ∷ 0x01 ∷ 0x08 ∷ 0x07 ∷ 0x06 ∷ 0x05 ∷ [])
context_of_four_and_four = (
  0xd0 ∷ 0x04 ∷ 0x03 ∷ 0x02 ∷ 0x01 ∷ 0x08 ∷ 0x07 ∷ 0x06 ∷ 0x05 ∷ [],
  refl,
  inl (
    Some 16909060,
    0x04 ∷ 0x03 ∷ 0x02 ∷ 0x01 ∷ [],
    0x08 ∷ 0x07 ∷ 0x06 ∷ 0x05 ∷ [],
    refl,
    inl (0x04 ∷ 0x03 ∷ 0x02 ∷ 0x01 ∷ [], 0x04 ∷ 0x03 ∷ 0x02 ∷ 0x01 ∷ [], [], refl, (refl, refl), refl),
    inl (
      Some 84281096,
      0x08 ∷ 0x07 ∷ 0x06 ∷ 0x05 ∷ [],
      [],
      refl,
      inl (0x08 ∷ 0x07 ∷ 0x06 ∷ 0x05 ∷ [], 0x08 ∷ 0x07 ∷ 0x06 ∷ 0x05 ∷ [], [], refl, (refl, refl), refl),
      refl,
    ),
  ),
)

pub context_of_no_size : Spells none (Ok (CtxInfo (record { el = 0; ns = true; vmid = None; cid = None }))) (0x81 ∷ 0xf0 ∷ [])
context_of_no_size = (0xf0 ∷ [], refl, inl (None, [], [], refl, refl, inl (None, [], [], refl, refl, refl)))

-- Address with Context packet: of 32 bits and of 64, where bit 7 of the two first bytes is passed over
pub address_32_context : Spells one_and_four (Ok (Addr (Long32 0x40021010) (Some (record { el = 2; ns = false; vmid = Some 7; cid = None }))))
    (0x82 ∷ 0x84 ∷ 0x88 ∷ 0x02 ∷ 0x40 ∷ 0x52 ∷ 0x07 ∷ [])
address_32_context = (
  0x84 ∷ 0x88 ∷ 0x02 ∷ 0x40 ∷ [],
  0x52 ∷ 0x07 ∷ [],
  refl,
  inl (0x84 ∷ 0x88 ∷ 0x02 ∷ 0x40 ∷ [], 0x84 ∷ 0x88 ∷ 0x02 ∷ 0x40 ∷ [], [], refl, (refl, refl), refl),
  inl (Some 7, 0x07 ∷ [], [], refl, inl (0x07 ∷ [], 0x07 ∷ [], [], refl, (refl, refl), refl), inl (None, [], [], refl, refl, refl)),
)

pub address_64_context : (s : Sizes)
    → Spells s (Ok (Addr (Long64 0x1000) (Some (record { el = 0; ns = false; vmid = None; cid = None }))))
    (0x85 ∷ 0x00 ∷ 0x08 ∷ 0x00 ∷ 0x00 ∷ 0x00 ∷ 0x00 ∷ 0x00 ∷ 0x00 ∷ 0x10 ∷ [])
address_64_context s = (
  0x00 ∷ 0x08 ∷ 0x00 ∷ 0x00 ∷ 0x00 ∷ 0x00 ∷ 0x00 ∷ 0x00 ∷ [],
  0x10 ∷ [],
  refl,
  inl (
    0x00 ∷ 0x08 ∷ 0x00 ∷ 0x00 ∷ 0x00 ∷ 0x00 ∷ 0x00 ∷ 0x00 ∷ [],
    0x00 ∷ 0x08 ∷ 0x00 ∷ 0x00 ∷ 0x00 ∷ 0x00 ∷ 0x00 ∷ 0x00 ∷ [],
    [],
    refl,
    (refl, refl),
    refl,
  ),
  inl (None, [], [], refl, refl, inl (None, [], [], refl, refl, refl)),
)

pub address_64_both : Spells one_and_four
    (Ok (Addr (Long64 0x8807060584832008) (Some (record { el = 2; ns = true; vmid = Some 9; cid = Some 168496141 }))))
    (0x85 ∷ 0x02 ∷ 0x10 ∷ 0x83 ∷ 0x84 ∷ 0x05 ∷ 0x06 ∷ 0x07 ∷ 0x88 ∷ 0xf2 ∷ 0x09 ∷ 0x0d ∷ 0x0c ∷ 0x0b ∷ 0x0a ∷ [])
address_64_both = (
  0x02 ∷ 0x10 ∷ 0x83 ∷ 0x84 ∷ 0x05 ∷ 0x06 ∷ 0x07 ∷ 0x88 ∷ [],
  0xf2 ∷ 0x09 ∷ 0x0d ∷ 0x0c ∷ 0x0b ∷ 0x0a ∷ [],
  refl,
  inl (
    0x02 ∷ 0x10 ∷ 0x83 ∷ 0x84 ∷ 0x05 ∷ 0x06 ∷ 0x07 ∷ 0x88 ∷ [],
    0x02 ∷ 0x10 ∷ 0x83 ∷ 0x84 ∷ 0x05 ∷ 0x06 ∷ 0x07 ∷ 0x88 ∷ [],
    [],
    refl,
    (refl, refl),
    refl,
  ),
  inl (
    Some 9,
    0x09 ∷ [],
    0x0d ∷ 0x0c ∷ 0x0b ∷ 0x0a ∷ [],
    refl,
    inl (0x09 ∷ [], 0x09 ∷ [], [], refl, (refl, refl), refl),
    inl (
      Some 168496141,
      0x0d ∷ 0x0c ∷ 0x0b ∷ 0x0a ∷ [],
      [],
      refl,
      inl (0x0d ∷ 0x0c ∷ 0x0b ∷ 0x0a ∷ [], 0x0d ∷ 0x0c ∷ 0x0b ∷ 0x0a ∷ [], [], refl, (refl, refl), refl),
      refl,
    ),
  ),
)

-- Exact Match Address packet: each of them
pub match_0 : (s : Sizes) → Spells s (Ok (Addr (Match 0) None)) (0x90 ∷ [])
match_0 s = (0x90, (omega arith, omega arith, refl), refl)

pub match_1 : (s : Sizes) → Spells s (Ok (Addr (Match 1) None)) (0x91 ∷ [])
match_1 s = (0x91, (omega arith, omega arith, refl), refl)

pub match_2 : (s : Sizes) → Spells s (Ok (Addr (Match 2) None)) (0x92 ∷ [])
match_2 s = (0x92, (omega arith, omega arith, refl), refl)

-- Short Address packet: of one byte and of two
pub short_1 : (s : Sizes) → Spells s (Ok (Addr (Short1 0x4) None)) (0x95 ∷ 0x01 ∷ [])
short_1 s = (0x01 ∷ [], refl, refl)

pub longest_short_1 : (s : Sizes) → Spells s (Ok (Addr (Short1 0x1fc) None)) (0x95 ∷ 0x7f ∷ [])
longest_short_1 s = (0x7f ∷ [], refl, refl)

pub short_2 : (s : Sizes) → Spells s (Ok (Addr (Short2 0x1fe04) None)) (0x95 ∷ 0x81 ∷ 0xff ∷ [])
short_2 s = (0x81 ∷ 0xff ∷ [], refl, refl)

pub short_2_of_zeros : (s : Sizes) → Spells s (Ok (Addr (Short2 0x0) None)) (0x95 ∷ 0x80 ∷ 0x00 ∷ [])
short_2_of_zeros s = (0x80 ∷ 0x00 ∷ [], refl, refl)

-- Long Address packets, with bit 7 of the two first bytes as it may be
pub long_32 : (s : Sizes) → Spells s (Ok (Addr (Long32 0x84830404) None)) (0x9a ∷ 0x01 ∷ 0x02 ∷ 0x83 ∷ 0x84 ∷ [])
long_32 s = (0x01 ∷ 0x02 ∷ 0x83 ∷ 0x84 ∷ [], refl, inl (0x01 ∷ 0x02 ∷ 0x83 ∷ 0x84 ∷ [], 0x01 ∷ 0x02 ∷ 0x83 ∷ 0x84 ∷ [], [], refl, (refl, refl), refl))

pub long_32_bit_7 : (s : Sizes) → Spells s (Ok (Addr (Long32 0xfffc) None)) (0x9a ∷ 0xff ∷ 0xff ∷ 0x00 ∷ 0x00 ∷ [])
long_32_bit_7 s = (0xff ∷ 0xff ∷ 0x00 ∷ 0x00 ∷ [], refl, inl (0xff ∷ 0xff ∷ 0x00 ∷ 0x00 ∷ [], 0xff ∷ 0xff ∷ 0x00 ∷ 0x00 ∷ [], [], refl, (refl, refl), refl))

pub long_64 : (s : Sizes) → Spells s (Ok (Addr (Long64 0x8887060504030404) None)) (0x9d ∷ 0x01 ∷ 0x02 ∷ 0x03 ∷ 0x04 ∷ 0x05 ∷ 0x06 ∷ 0x87 ∷ 0x88 ∷ [])
long_64 s = (
  0x01 ∷ 0x02 ∷ 0x03 ∷ 0x04 ∷ 0x05 ∷ 0x06 ∷ 0x87 ∷ 0x88 ∷ [],
  refl,
  inl (
    0x01 ∷ 0x02 ∷ 0x03 ∷ 0x04 ∷ 0x05 ∷ 0x06 ∷ 0x87 ∷ 0x88 ∷ [],
    0x01 ∷ 0x02 ∷ 0x03 ∷ 0x04 ∷ 0x05 ∷ 0x06 ∷ 0x87 ∷ 0x88 ∷ [],
    [],
    refl,
    (refl, refl),
    refl,
  ),
)

pub long_64_bit_7 : (s : Sizes) → Spells s (Ok (Addr (Long64 0x200) None)) (0x9d ∷ 0x80 ∷ 0x81 ∷ 0x00 ∷ 0x00 ∷ 0x00 ∷ 0x00 ∷ 0x00 ∷ 0x00 ∷ [])
long_64_bit_7 s = (
  0x80 ∷ 0x81 ∷ 0x00 ∷ 0x00 ∷ 0x00 ∷ 0x00 ∷ 0x00 ∷ 0x00 ∷ [],
  refl,
  inl (
    0x80 ∷ 0x81 ∷ 0x00 ∷ 0x00 ∷ 0x00 ∷ 0x00 ∷ 0x00 ∷ 0x00 ∷ [],
    0x80 ∷ 0x81 ∷ 0x00 ∷ 0x00 ∷ 0x00 ∷ 0x00 ∷ 0x00 ∷ 0x00 ∷ [],
    [],
    refl,
    (refl, refl),
    refl,
  ),
)

-- Atom Format 1 to 6 packets: N; EN; ENN; NEEE, NENE and ENEN; NENEN and NEEEE; four and 24 E; three E and N, and 23 E and N
pub atom_n : (s : Sizes) → Spells s (Ok (Atoms (record { count = 1; bits = 0x0 }))) (0xf6 ∷ [])
unfolding atom_formats
atom_n s = (
  0xf6,
  (omega arith, omega arith, refl),
  record { some = omega arith; most = omega arith; bits = omega arith },
  row_found atom_formats 0xf6 (low_bits 1 0x0) refl,
)

pub atoms_en : (s : Sizes) → Spells s (Ok (Atoms (record { count = 2; bits = 0x1 }))) (0xd9 ∷ [])
unfolding atom_formats
atoms_en s = (
  0xd9,
  (omega arith, omega arith, refl),
  record { some = omega arith; most = omega arith; bits = omega arith },
  row_found atom_formats 0xd9 (low_bits 2 0x1) refl,
)

pub atoms_enn : (s : Sizes) → Spells s (Ok (Atoms (record { count = 3; bits = 0x1 }))) (0xf9 ∷ [])
unfolding atom_formats
atoms_enn s = (
  0xf9,
  (omega arith, omega arith, refl),
  record { some = omega arith; most = omega arith; bits = omega arith },
  row_found atom_formats 0xf9 (low_bits 3 0x1) refl,
)

pub atoms_neee : (s : Sizes) → Spells s (Ok (Atoms (record { count = 4; bits = 0xe }))) (0xdc ∷ [])
unfolding atom_formats
atoms_neee s = (
  0xdc,
  (omega arith, omega arith, refl),
  record { some = omega arith; most = omega arith; bits = omega arith },
  row_found atom_formats 0xdc (low_bits 4 0xe) refl,
)

pub atoms_nene : (s : Sizes) → Spells s (Ok (Atoms (record { count = 4; bits = 0xa }))) (0xde ∷ [])
unfolding atom_formats
atoms_nene s = (
  0xde,
  (omega arith, omega arith, refl),
  record { some = omega arith; most = omega arith; bits = omega arith },
  row_found atom_formats 0xde (low_bits 4 0xa) refl,
)

pub atoms_enen : (s : Sizes) → Spells s (Ok (Atoms (record { count = 4; bits = 0x5 }))) (0xdf ∷ [])
unfolding atom_formats
atoms_enen s = (
  0xdf,
  (omega arith, omega arith, refl),
  record { some = omega arith; most = omega arith; bits = omega arith },
  row_found atom_formats 0xdf (low_bits 4 0x5) refl,
)

pub atoms_nenen : (s : Sizes) → Spells s (Ok (Atoms (record { count = 5; bits = 0xa }))) (0xd6 ∷ [])
unfolding atom_formats
atoms_nenen s = (
  0xd6,
  (omega arith, omega arith, refl),
  record { some = omega arith; most = omega arith; bits = omega arith },
  row_found atom_formats 0xd6 (low_bits 5 0xa) refl,
)

pub atoms_neeee : (s : Sizes) → Spells s (Ok (Atoms (record { count = 5; bits = 0x1e }))) (0xf5 ∷ [])
unfolding atom_formats
atoms_neeee s = (
  0xf5,
  (omega arith, omega arith, refl),
  record { some = omega arith; most = omega arith; bits = omega arith },
  row_found atom_formats 0xf5 (low_bits 5 0x1e) refl,
)

pub four_e : (s : Sizes) → Spells s (Ok (Atoms (record { count = 4; bits = 0xf }))) (0xc0 ∷ [])
unfolding atom_formats
four_e s = (
  0xc0,
  (omega arith, omega arith, refl),
  record { some = omega arith; most = omega arith; bits = omega arith },
  row_found atom_formats 0xc0 (low_bits 4 0xf) refl,
)

pub most_e : (s : Sizes) → Spells s (Ok (Atoms (record { count = 24; bits = 0xffffff }))) (0xd4 ∷ [])
unfolding atom_formats
most_e s = (
  0xd4,
  (omega arith, omega arith, refl),
  record { some = omega arith; most = omega arith; bits = omega arith },
  row_found atom_formats 0xd4 (low_bits 24 0xffffff) refl,
)

pub three_e_and_n : (s : Sizes) → Spells s (Ok (Atoms (record { count = 4; bits = 0x7 }))) (0xe0 ∷ [])
unfolding atom_formats
three_e_and_n s = (
  0xe0,
  (omega arith, omega arith, refl),
  record { some = omega arith; most = omega arith; bits = omega arith },
  row_found atom_formats 0xe0 (low_bits 4 0x7) refl,
)

pub most_e_and_n : (s : Sizes) → Spells s (Ok (Atoms (record { count = 24; bits = 0x7fffff }))) (0xf4 ∷ [])
unfolding atom_formats
most_e_and_n s = (
  0xf4,
  (omega arith, omega arith, refl),
  record { some = omega arith; most = omega arith; bits = omega arith },
  row_found atom_formats 0xf4 (low_bits 24 0x7fffff) refl,
)

-- Values that are out of their ranges by one.
pub no_mode : (s : Sizes) → IsPacket s (Info (Some 1) None None None) → ⊥
no_mode s is = absurd (omega (arith, is.0))

pub no_large_key : (s : Sizes) → IsPacket s (Info None (Some 4294967296) None None) → ⊥
no_large_key s is = absurd (omega (arith, is.1))

pub no_event_0 : (s : Sizes) → IsPacket s (Event 0) → ⊥
no_event_0 s is = absurd (omega (arith, is.0))

pub no_event_16 : (s : Sizes) → IsPacket s (Event 16) → ⊥
no_event_16 s is = absurd (omega (arith, is.1))

pub no_stamp_of_8_bits : (s : Sizes) → IsPacket s (Time 8 0) → ⊥
no_stamp_of_8_bits s (inl all, low) = absurd (omega (arith, all))
no_stamp_of_8_bits s (inr (groups, some, most, bits), low) = absurd (omega (arith, bits))

pub no_stamp_of_63_bits : (s : Sizes) → IsPacket s (Time 63 0) → ⊥
no_stamp_of_63_bits s (inl all, low) = absurd (omega (arith, all))
no_stamp_of_63_bits s (inr (groups, some, most, bits), low) = absurd (omega (arith, most, bits))

pub no_stamp_above_its_bits : (s : Sizes) → IsPacket s (Time 7 128) → ⊥
no_stamp_above_its_bits s is = absurd (omega (arith, is.1))

pub no_type_32 : (s : Sizes) (target : Bool) → IsPacket s (Exc 32 target) → ⊥
no_type_32 s target is = absurd (omega (arith, is))

pub no_large_cancel : (s : Sizes) (flip : Bool) → IsPacket s (Cancel 4294967296 flip) → ⊥
no_large_cancel s flip is = absurd (omega (arith, is))

pub no_cancel_of_1 : (s : Sizes) (e : Bool) → IsPacket s (Cancel3 e 1) → ⊥
no_cancel_of_1 s e is = absurd (omega (arith, is.0))

pub no_cancel_of_6 : (s : Sizes) (e : Bool) → IsPacket s (Cancel3 e 6) → ⊥
no_cancel_of_6 s e is = absurd (omega (arith, is.1))

pub no_level_4 : (s : Sizes) → IsPacket s (CtxInfo (record { el = 4; ns = true; vmid = None; cid = None })) → ⊥
no_level_4 s is = absurd (omega (arith, is.el))

pub no_vmid_256 : IsPacket one_and_four (CtxInfo (record { el = 0; ns = true; vmid = Some 256; cid = None })) → ⊥
no_vmid_256 is = absurd (omega (arith, is.vmid.1))

pub no_context_id_of_no_size : IsPacket two_and_none (CtxInfo (record { el = 0; ns = true; vmid = None; cid = Some 0 })) → ⊥
no_context_id_of_no_size is = absurd (omega (arith, is.cid.0))

pub no_match_3 : (s : Sizes) → IsPacket s (Addr (Match 3) None) → ⊥
no_match_3 s is = absurd (omega (arith, is.0))

pub no_bit_9_of_short_1 : (s : Sizes) → IsPacket s (Addr (Short1 0x200) None) → ⊥
no_bit_9_of_short_1 s is = absurd (omega (arith, is.0.0))

pub no_bit_1_of_long_32 : (s : Sizes) → IsPacket s (Addr (Long32 2) None) → ⊥
no_bit_1_of_long_32 s is = absurd (omega (arith, is.0.1))

pub no_25_atoms : (s : Sizes) → IsPacket s (Atoms (record { count = 25; bits = 0 })) → ⊥
no_25_atoms s is = absurd (omega (arith, is.most))

pub no_bit_behind_the_atoms : (s : Sizes) → IsPacket s (Atoms (record { count = 1; bits = 2 })) → ⊥
no_bit_behind_the_atoms s is = absurd (omega (arith, is.bits))
