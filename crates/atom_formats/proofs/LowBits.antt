-- A number that has no others is known by its low bits; so two runs of the same atoms are the same.
use Rattle.std.proofs.Common.{drop, ◌≡◌, ℕ, zero, suc, ◌*◌, ◌/◌, ◌%◌, ◌^◌, ◌<◌, ◌==◌, List, length, get_or, Bool, false, refl, sym, ap, ◌∙◌, arith}
use Rattle.std.proofs.lemmas.Nat.{mod_below}
use Rattle.std.proofs.Math.Nat.{pow-suc}
use Rattle.etm_types.specs.declared.atoms.AtomRun.{AtomRun}
use Rattle.etm_types.specs.Atoms.{low_bits}
use Rattle.atom_formats.specs.Laws.{RunsDiffer}

low_bits-length : (n bits : ℕ) → length (low_bits n bits) ≡ n
low_bits-length zero bits = refl
low_bits-length (suc n) bits = ap suc (low_bits-length n (bits / 2))

-- the last bit of a number, from its test
last_bit : (a b : ℕ) → (a % 2 == 1) ≡ (b % 2 == 1) → a % 2 ≡ b % 2
last_bit a b same =
    let a_small : a % 2 < 2 = mod_below a 2 (omega arith) in
    let b_small : b % 2 < 2 = mod_below b 2 (omega arith) in
    grind (arith, a_small, b_small, same)

-- a number is known by its low bits, where it has no others
number_known : (n a b : ℕ) → a < 2 ^ n → b < 2 ^ n → low_bits n a ≡ low_bits n b → a ≡ b
number_known zero a b a_fits b_fits same = omega (arith, a_fits, b_fits)
number_known (suc n) a b a_fits b_fits same =
    let last = last_bit a b (ap (λ (xs : List Bool). get_or xs 0 false) same) in
    let doubled : 2 ^ suc n ≡ 2 ^ n * 2 = pow-suc 2 n in
    let upper = number_known n (a / 2) (b / 2) (omega (arith, a_fits, doubled)) (omega (arith, b_fits, doubled)) (ap (λ (xs : List Bool). drop 1 xs) same) in
    omega (arith, last, upper)

same_run : (count bits count' bits' : ℕ) → count ≡ count' → bits ≡ bits'
    → ◌≡◌ {A = AtomRun} (record { count = count; bits = bits }) (record { count = count'; bits = bits' })
same_run count bits count' bits' counts same = cc

pub runs_differ : RunsDiffer
runs_differ run other is_run is_other same =
    let counts : run.count ≡ other.count = sym (low_bits-length run.count run.bits) ∙ ap length same ∙ low_bits-length other.count other.bits in
    let fits : other.bits < 2 ^ run.count = rw counts is_other.bits in
    let bits : run.bits ≡ other.bits =
    number_known run.count run.bits other.bits is_run.bits fits (same ∙ ap (λ (n : ℕ). low_bits n other.bits) (sym counts)) in
    same_run run.count run.bits other.count other.bits counts bits
