-- Words of each row of the table with their classes, and words that differ from a row in one bit, as an independent
-- disassembler reads them; and where branches lead.
use Rattle.std.proofs.Common.{◌≡◌, ℕ, ◌*◌, ◌^◌, ◌-◌, true, false, List, [], ◌∷◌, ◌++◌, map, refl}
use Rattle.std.specs.Prelude.{bit_xor, neg_ℤ, pos, replicate}
use Rattle.std.specs.List.{range_with_len}
use Rattle.a64_branches.specs.Classes.{class_of}
use Rattle.a64_branches.specs.Offsets.{target}
use Rattle.a64_branches.specs.declared.class.Class.{Class}
use Rattle.a64_branches.specs.declared.class.Class.TheVariants.{Plain, Jump, Cond, Isb, Ind, Eret, Odd}

-- B.cond: an offset of 0, the furthest ahead, the furthest back, and one word back
conditional : map class_of (0x54000000 ∷ 0x547fffe0 ∷ 0x54800000 ∷ 0x54ffffef ∷ [])
    ≡ Cond (pos 0) ∷ Cond (pos 1048572) ∷ Cond (neg_ℤ (pos 1048576)) ∷ Cond (neg_ℤ (pos 4)) ∷ []
unfolding class_of
conditional = refl

-- BC.cond
consistent : map class_of (0x54000010 ∷ 0x54ffffff ∷ []) ≡ Odd ∷ Odd ∷ []
unfolding class_of
consistent = refl

-- CBZ and CBNZ
compare : map class_of (0x34000000 ∷ 0x347fffff ∷ 0xb5800000 ∷ 0xb4ffffe0 ∷ [])
    ≡ Cond (pos 0) ∷ Cond (pos 1048572) ∷ Cond (neg_ℤ (pos 1048576)) ∷ Cond (neg_ℤ (pos 4)) ∷ []
unfolding class_of
compare = refl

-- TBZ and TBNZ
test_bit : map class_of (0x36000000 ∷ 0x3603ffff ∷ 0xb7040000 ∷ 0xb7ffffff ∷ [])
    ≡ Cond (pos 0) ∷ Cond (pos 32764) ∷ Cond (neg_ℤ (pos 32768)) ∷ Cond (neg_ℤ (pos 4)) ∷ []
unfolding class_of
test_bit = refl

-- B
jump : map class_of (0x14000000 ∷ 0x15ffffff ∷ 0x16000000 ∷ 0x17ffffff ∷ [])
    ≡ Jump (pos 0) false ∷ Jump (pos 134217724) false ∷ Jump (neg_ℤ (pos 134217728)) false ∷ Jump (neg_ℤ (pos 4)) false ∷ []
unfolding class_of
jump = refl

-- BL
jump_with_link : map class_of (0x94000000 ∷ 0x95ffffff ∷ 0x96000000 ∷ 0x97ffffff ∷ [])
    ≡ Jump (pos 0) true ∷ Jump (pos 134217724) true ∷ Jump (neg_ℤ (pos 134217728)) true ∷ Jump (neg_ℤ (pos 4)) true ∷ []
unfolding class_of
jump_with_link = refl

-- BR, BLR, RET, each of X0 and of XZR; ERET
to_register : map class_of (0xd61f0000 ∷ 0xd61f03e0 ∷ 0xd63f0000 ∷ 0xd63f03e0 ∷ 0xd65f0000 ∷ 0xd65f03e0 ∷ 0xd69f03e0 ∷ [])
    ≡ Ind false ∷ Ind false ∷ Ind true ∷ Ind true ∷ Ind false ∷ Ind false ∷ Eret ∷ []
unfolding class_of
to_register = refl

-- BRAAZ X0, BRABZ XZR, BLRAAZ X0, BLRABZ XZR; RETAA, RETAB
with_key : map class_of (0xd61f081f ∷ 0xd61f0fff ∷ 0xd63f081f ∷ 0xd63f0fff ∷ 0xd65f0bff ∷ 0xd65f0fff ∷ [])
    ≡ Ind false ∷ Ind false ∷ Ind true ∷ Ind true ∷ Ind false ∷ Ind false ∷ []
unfolding class_of
with_key = refl

-- ERETAA, ERETAB
exception_with_key : map class_of (0xd69f0bff ∷ 0xd69f0fff ∷ []) ≡ Eret ∷ Eret ∷ []
unfolding class_of
exception_with_key = refl

-- BRAA X0, X0; BRAB XZR, SP; BLRAA X0, X0; BLRAB XZR, SP
with_key_and_modifier : map class_of (0xd71f0800 ∷ 0xd71f0fff ∷ 0xd73f0800 ∷ 0xd73f0fff ∷ []) ≡ Ind false ∷ Ind false ∷ Ind true ∷ Ind true ∷ []
unfolding class_of
with_key_and_modifier = refl

-- DRPS, and the first and the last word of the group
other_to_register : map class_of (0xd6bf03e0 ∷ 0xd6000000 ∷ 0xd7ffffff ∷ []) ≡ Odd ∷ Odd ∷ Odd ∷ []
unfolding class_of
other_to_register = refl

-- ISB of the least and the greatest option
barrier : map class_of (0xd50330df ∷ 0xd5033fdf ∷ []) ≡ Isb ∷ Isb ∷ []
unfolding class_of
barrier = refl

-- NOP, BTI, DSB, SVC and UDF
plain : map class_of (0xd503201f ∷ 0xd50324df ∷ 0xd5033f9f ∷ 0xd4000001 ∷ 0 ∷ []) ≡ Plain ∷ Plain ∷ Plain ∷ Plain ∷ Plain ∷ []
unfolding class_of
plain = refl

-- ---- each fixed bit of a word turned

-- the classes of the word with each of so many bits turned, from a bit on
abbrev turned : ℕ → ℕ → ℕ → List Class
turned word from count = map (λ bit. class_of (bit_xor word (2 ^ bit))) (range_with_len from count)

-- in bits 25 to 29 and 31 the word leaves the group, and in bit 30 it is BL
abbrev of_no_register : ℕ → List Class
of_no_register instructions = replicate 5 Plain ++ (Jump (neg_ℤ (pos (4 * instructions))) true ∷ Plain ∷ [])

-- bit 21 makes BLR of BR, and bit 22 RET
br_turned : turned 0xd61f0000 0 5 ++ turned 0xd61f0000 10 22
    ≡ replicate 16 Odd ++ (Ind true ∷ Ind false ∷ Odd ∷ Odd ∷ of_no_register 0x1e10000)
unfolding class_of
br_turned = refl

-- bit 21 makes BR of BLR
blr_turned : turned 0xd63f0000 0 5 ++ turned 0xd63f0000 10 22
    ≡ replicate 16 Odd ++ (Ind false ∷ Odd ∷ Odd ∷ Odd ∷ of_no_register 0x1c10000)
unfolding class_of
blr_turned = refl

-- bit 22 makes BR of RET
ret_turned : turned 0xd65f03c0 0 5 ++ turned 0xd65f03c0 10 22
    ≡ replicate 16 Odd ++ (Odd ∷ Ind false ∷ Odd ∷ Odd ∷ of_no_register 0x1a0fc40)
unfolding class_of
ret_turned = refl

-- bit 23 makes BR of ERET
eret_turned : turned 0xd69f03e0 0 32 ≡ replicate 23 Odd ++ (Ind false ∷ Odd ∷ of_no_register 0x160fc20)
unfolding class_of
eret_turned = refl

-- bit 10 makes BRABZ of BRAAZ, bit 21 BLRAAZ, and bit 24 BRAA
braaz_turned : turned 0xd61f081f 0 5 ++ turned 0xd61f081f 10 22
    ≡ replicate 5 Odd ++ (Ind false ∷ replicate 10 Odd ++ (Ind true ∷ Odd ∷ Odd ∷ Ind false ∷ of_no_register 0x1e0f7e1))
unfolding class_of
braaz_turned = refl

-- bit 10 makes BLRABZ of BLRAAZ, bit 21 BRAAZ, and bit 24 BLRAA
blraaz_turned : turned 0xd63f081f 0 5 ++ turned 0xd63f081f 10 22
    ≡ replicate 5 Odd ++ (Ind true ∷ replicate 10 Odd ++ (Ind false ∷ Odd ∷ Odd ∷ Ind true ∷ of_no_register 0x1c0f7e1))
unfolding class_of
blraaz_turned = refl

-- bit 10 makes RETAB of RETAA, and bit 22 BRAAZ of XZR
retaa_turned : turned 0xd65f0bff 0 32
    ≡ replicate 10 Odd ++ (Ind false ∷ replicate 11 Odd ++ (Ind false ∷ Odd ∷ Odd ∷ of_no_register 0x1a0f401))
unfolding class_of
retaa_turned = refl

-- bit 10 makes ERETAB of ERETAA, and bit 23 BRAAZ of XZR
eretaa_turned : turned 0xd69f0bff 0 32
    ≡ replicate 10 Odd ++ (Eret ∷ replicate 12 Odd ++ (Ind false ∷ Odd ∷ of_no_register 0x160f401))
unfolding class_of
eretaa_turned = refl

-- bit 10 makes BRAB of BRAA, bit 21 BLRAA, and bit 24 BRAAZ
braa_turned : turned 0xd71f081f 10 22
    ≡ Ind false ∷ replicate 10 Odd ++ (Ind true ∷ Odd ∷ Odd ∷ Ind false ∷ of_no_register 0xe0f7e1)
unfolding class_of
braa_turned = refl

-- bit 10 makes BLRAB of BLRAA, and bit 21 BRAA
blraa_turned : turned 0xd73f0800 10 22
    ≡ Ind true ∷ replicate 10 Odd ++ (Ind false ∷ Odd ∷ Odd ∷ Odd ∷ of_no_register 0xc0f800)
unfolding class_of
blraa_turned = refl

-- bit 25 makes a branch to a register of ISB, and bit 30 BL
isb_turned : turned 0xd5033fdf 0 8 ++ turned 0xd5033fdf 12 20
    ≡ replicate 21 Plain ++ (Odd ∷ replicate 4 Plain ++ (Jump (pos 67960700) true ∷ Plain ∷ []))
unfolding class_of
isb_turned = refl

-- ---- where branches lead

ahead : target 0x1000 (pos 8) ≡ 0x1008
ahead = refl

back : target 0x1000 (neg_ℤ (pos 8)) ≡ 0xff8
back = refl

past_the_last_address : target (2 ^ 64 - 4) (pos 8) ≡ 4
past_the_last_address = refl

before_the_first_address : target 4 (neg_ℤ (pos 8)) ≡ 2 ^ 64 - 4
before_the_first_address = refl
