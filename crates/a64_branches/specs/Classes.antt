-- Which class an instruction word has (Arm DDI 0487, "Branches, Exception Generating and System instructions", the
-- encoding tables in their order).
use Rattle.std.specs.Prelude.{⊤, ℕ, true, false, List, [], ◌∷◌, ◌++◌, bit_and, ◌==◌, if◌then◌else◌}
use Rattle.a64_branches.specs.Offsets.{IsWhole, imm14, imm19, imm26}
use Rattle.a64_branches.specs.declared.class.Class.{Class}
use Rattle.a64_branches.specs.declared.class.Class.TheVariants.{Plain, Jump, Cond, Isb, Ind, Eret, Odd}

-- the words whose bits under the mask are those of the value, and their class
pub record Row : Type 0 where
  pub mask : ℕ
  pub value : ℕ
  pub class : ℕ → Class

abbrev pub row : ℕ → ℕ → (ℕ → Class) → Row
row mask value class = record { mask = mask; value = value; class = class }

-- Conditional branch (immediate)
abbrev pub conditional_branches : List Row
conditional_branches =
    -- B.cond: 0101 0100 imm19 0 cond
    row 0xff000010 0x54000000 (λ word. Cond (imm19 word))
    -- BC.cond, which is not read: 0101 0100 imm19 1 cond
    ∷ row 0xff000010 0x54000010 (λ word. Odd)
    ∷ []

-- Barriers
abbrev pub barriers : List Row
barriers =
    -- ISB, with any option: 1101 0101 0000 0011 0011 CRm 110 11111
    row 0xfffff0ff 0xd50330df (λ word. Isb)
    ∷ []

-- Unconditional branch (register)
abbrev pub branches_to_registers : List Row
branches_to_registers =
    -- BR: 1101 0110 0001 1111 000000 Rn 00000
    row 0xfffffc1f 0xd61f0000 (λ word. Ind false)
    -- BLR: 1101 0110 0011 1111 000000 Rn 00000
    ∷ row 0xfffffc1f 0xd63f0000 (λ word. Ind true)
    -- RET: 1101 0110 0101 1111 000000 Rn 00000
    ∷ row 0xfffffc1f 0xd65f0000 (λ word. Ind false)
    -- ERET: 1101 0110 1001 1111 000000 11111 00000
    ∷ row 0xffffffff 0xd69f03e0 (λ word. Eret)
    -- BRAAZ, and BRABZ where M is set: 1101 0110 0001 1111 00001M Rn 11111
    ∷ row 0xfffff81f 0xd61f081f (λ word. Ind false)
    -- BLRAAZ, and BLRABZ where M is set: 1101 0110 0011 1111 00001M Rn 11111
    ∷ row 0xfffff81f 0xd63f081f (λ word. Ind true)
    -- RETAA, and RETAB where M is set: 1101 0110 0101 1111 00001M 11111 11111
    ∷ row 0xfffffbff 0xd65f0bff (λ word. Ind false)
    -- ERETAA, and ERETAB where M is set: 1101 0110 1001 1111 00001M 11111 11111
    ∷ row 0xfffffbff 0xd69f0bff (λ word. Eret)
    -- BRAA, and BRAB where M is set: 1101 0111 0001 1111 00001M Rn Rm
    ∷ row 0xfffff800 0xd71f0800 (λ word. Ind false)
    -- BLRAA, and BLRAB where M is set: 1101 0111 0011 1111 00001M Rn Rm
    ∷ row 0xfffff800 0xd73f0800 (λ word. Ind true)
    -- all others, which are not read: 1101 011
    ∷ row 0xfe000000 0xd6000000 (λ word. Odd)
    ∷ []

-- Unconditional branch (immediate)
abbrev pub unconditional_branches : List Row
unconditional_branches =
    -- B: 000101 imm26
    row 0xfc000000 0x14000000 (λ word. Jump (imm26 word) false)
    -- BL: 100101 imm26
    ∷ row 0xfc000000 0x94000000 (λ word. Jump (imm26 word) true)
    ∷ []

-- Compare and branch (immediate), and Test and branch (immediate)
abbrev pub testing_branches : List Row
testing_branches =
    -- CBZ and CBNZ: sf 011010 op imm19 Rt
    row 0x7e000000 0x34000000 (λ word. Cond (imm19 word))
    -- TBZ and TBNZ: b5 011011 op b40 imm14 Rt
    ∷ row 0x7e000000 0x36000000 (λ word. Cond (imm14 word))
    ∷ []

abbrev pub rows : List Row
rows = conditional_branches ++ barriers ++ branches_to_registers ++ unconditional_branches ++ testing_branches

-- the class of a word by the first row that it fits; a word that fits none is plain
abbrev pub class_by : List Row → ℕ → Class
class_by [] word = Plain
class_by (r ∷ others) word = if bit_and word r.mask == r.value then r.class word else class_by others word

unfoldable pub class_of : ℕ → Class
class_of word = class_by rows word

-- the rows in the order in which the code tests them: those that are met most often come first
abbrev pub rows_as_tested : List Row
rows_as_tested = conditional_branches ++ unconditional_branches ++ testing_branches ++ barriers ++ branches_to_registers

-- where the class has an offset, it is one of whole instructions
abbrev pub HasWholeOffset : Class → Type 0
HasWholeOffset (Jump offset link) = IsWhole offset
HasWholeOffset (Cond offset) = IsWhole offset
HasWholeOffset _ = ⊤
