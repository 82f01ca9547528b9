-- Offsets are of whole instructions, so that a branch leads from a multiple of 4 to another one.
use Rattle.std.proofs.Common.{◌≡◌, ℕ, suc, ◌+◌, ◌-◌, ◌*◌, ◌%◌, ◌^◌, Bool, true, false, List, [], ◌∷◌, ◌++◌, refl, ap, ◌∙◌, arith}
use Rattle.std.specs.Prelude.{bit_and, ◌==◌, if◌then◌else◌, ℤ, pos, ◌+ℤ◌, unsigned_abs, ⊤}
use lib.IntN.{negsuc}
use Rattle.std.specs.Int.{int_rem_euclid}
use Rattle.std.proofs.lemmas.Int.{int_rem_euclid_is, ints}
use Rattle.a64_branches.specs.Offsets.{bytes, field, signed, imm14, imm19, imm26, IsWhole, target}
use Rattle.a64_branches.specs.Classes.{Row, rows, class_by, class_of, HasWholeOffset, conditional_branches, barriers, branches_to_registers}
use Rattle.a64_branches.specs.Classes.{unconditional_branches, testing_branches}

abbrev AreWhole : List Row → Type 0
AreWhole [] = ⊤
AreWhole (r ∷ others) = ((word : ℕ) → HasWholeOffset (r.class word)) × AreWhole others

whole_by : (table : List Row) (word : ℕ) → AreWhole table → HasWholeOffset (class_by table word)
whole_by [] word whole = tt
whole_by (r ∷ others) word whole = choose (bit_and word r.mask == r.value) _ _ (whole.0 word) (whole_by others word whole.1) where
  choose : (b : Bool) (x y : _) → HasWholeOffset x → HasWholeOffset y → HasWholeOffset (if b then x else y)
  choose true x y p q = p
  choose false x y p q = q

imm26_whole : (word : ℕ) → IsWhole (imm26 word)
imm26_whole word = (signed 26 (field 25 0 word), refl)

imm19_whole : (word : ℕ) → IsWhole (imm19 word)
imm19_whole word = (signed 19 (field 23 5 word), refl)

imm14_whole : (word : ℕ) → IsWhole (imm14 word)
imm14_whole word = (signed 14 (field 18 5 word), refl)

both_whole : (xs ys : List Row) → AreWhole xs → AreWhole ys → AreWhole (xs ++ ys)
both_whole [] ys first second = second
both_whole (x ∷ xs) ys first second = (first.0, both_whole xs ys first.1 second)

-- ---- each row of the table, in its order

conditional_whole : AreWhole conditional_branches
conditional_whole = (imm19_whole, (λ w. tt, tt))

barriers_whole : AreWhole barriers
barriers_whole = (λ w. tt, tt)

to_registers_whole : AreWhole branches_to_registers
to_registers_whole = (λ w. tt, (λ w. tt, (λ w. tt, (λ w. tt, (λ w. tt, (λ w. tt, (λ w. tt, (λ w. tt, (λ w. tt, (λ w. tt, (λ w. tt, tt)))))))))))

unconditional_whole : AreWhole unconditional_branches
unconditional_whole = (imm26_whole, (imm26_whole, tt))

testing_whole : AreWhole testing_branches
testing_whole = (imm19_whole, (imm14_whole, tt))

all_whole : AreWhole rows
all_whole =
    let branches = both_whole unconditional_branches testing_branches unconditional_whole testing_whole in
    let registers = both_whole branches_to_registers (unconditional_branches ++ testing_branches) to_registers_whole branches in
    let others = both_whole barriers (branches_to_registers ++ unconditional_branches ++ testing_branches) barriers_whole registers in
    both_whole conditional_branches (barriers ++ branches_to_registers ++ unconditional_branches ++ testing_branches) conditional_whole others

pub whole_offset : (word : ℕ) → HasWholeOffset (class_of word)
unfolding class_of
whole_offset word = whole_by rows word all_whole

aligned_sum : (address : ℕ) (n : ℤ) → address % 4 ≡ 0 → unsigned_abs (int_rem_euclid (pos address +ℤ bytes n) (pos (2 ^ 64))) % 4 ≡ 0
aligned_sum address (pos n) aligned = omega (arith, aligned)
aligned_sum address (negsuc n) aligned =
    let m : ℕ = address + suc n * (2 ^ 64 - 4) in
    let sum : (pos address +ℤ bytes (negsuc n)) +ℤ pos (suc n * 2 ^ 64) ≡ pos m = omega (arith, ints) in
    ap (λ z. unsigned_abs z % 4) (int_rem_euclid_is (pos address +ℤ bytes (negsuc n)) (pos (2 ^ 64)) (2 ^ 64) (suc n) m (omega arith) refl sum)
    ∙ omega (arith, aligned)

pub aligned_target : (address : ℕ) (offset : ℤ) → address % 4 ≡ 0 → IsWhole offset → target address offset % 4 ≡ 0
aligned_target address offset aligned whole = ap (λ z. target address z % 4) whole.1 ∙ aligned_sum address whole.0 aligned
