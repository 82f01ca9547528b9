-- A timestamp of which the lowest bits are replaced fits 64 bits.
use Rattle.std.proofs.Common.{◌≡◌, ℕ, zero, suc, ◌+◌, ◌*◌, ◌/◌, ◌%◌, ◌^◌, ◌<◌, ◌≤◌, arith, inl, inr, subst, sym}
use Rattle.packet_grammar.specs.Ranges.{IsStampSize}

-- the code has this for 2 ^ bits
abbrev size_of : ℕ → ℕ
size_of bits = 1 * 2 ^ bits % 2 ^ 64

abbrev Fits : ℕ → ℕ → ℕ → Type 0
Fits known bits low = known / size_of bits * size_of bits + low < 2 ^ 64

groups_fit : (groups known low : ℕ) → 1 ≤ groups → groups ≤ 8 → known < 2 ^ 64 → low < 2 ^ (7 * groups) → Fits known (7 * groups) low
groups_fit zero known low some most fits small = absurd (omega (arith, some))
groups_fit (suc zero) known low some most fits small = omega (arith, fits, small)
groups_fit (suc (suc zero)) known low some most fits small = omega (arith, fits, small)
groups_fit (suc (suc (suc zero))) known low some most fits small = omega (arith, fits, small)
groups_fit (suc (suc (suc (suc zero)))) known low some most fits small = omega (arith, fits, small)
groups_fit (suc (suc (suc (suc (suc zero))))) known low some most fits small = omega (arith, fits, small)
groups_fit (suc (suc (suc (suc (suc (suc zero)))))) known low some most fits small = omega (arith, fits, small)
groups_fit (suc (suc (suc (suc (suc (suc (suc zero))))))) known low some most fits small = omega (arith, fits, small)
groups_fit (suc (suc (suc (suc (suc (suc (suc (suc zero)))))))) known low some most fits small = omega (arith, fits, small)
groups_fit (suc (suc (suc (suc (suc (suc (suc (suc (suc n))))))))) known low some most fits small = absurd (omega (arith, most))

pub stamp_fits : (known bits low : ℕ) → IsStampSize bits → (bits ≡ 64 → ⊥) → known < 2 ^ 64 → low < 2 ^ bits → Fits known bits low
stamp_fits known bits low (inl all) some fits small = absurd (some all)
stamp_fits known bits low (inr (groups, one, most, is)) some fits small =
    subst (λ (b : ℕ). Fits known b low) (sym is) (groups_fit groups known low one most fits (subst (λ (b : ℕ). low < 2 ^ b) is small))
