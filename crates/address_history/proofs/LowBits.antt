-- Addresses put together from their low bits and the upper bits of another.
use Rattle.std.proofs.Common.{◌≡◌, ℕ, ◌+◌, ◌*◌, ◌/◌, ◌%◌, ◌^◌, ◌<◌, bit_or, arith}
use Rattle.std.proofs.lemmas.Nat.{one_shl, or_shifted, pow_pos, mod_below, shr_split}
use Rattle.std.proofs.Math.Nat.{mod-eq_of_lt}
use Rattle.address_history.specs.Forms.{with_low_bits}

-- the shifts and the mask of a program give them
pub put_together : (n value base : ℕ) → n < 64 → base < 2 ^ 64
    → bit_or (base / 2 ^ n * 2 ^ n % 2 ^ 64) (value % (1 * 2 ^ n % 2 ^ 64) / 4 * 4) ≡ with_low_bits n value base
put_together n value base few fits =
    let low : value % 2 ^ n < 2 ^ n = mod_below value (2 ^ n) (pow_pos n) in
    let split : base / 2 ^ n * 2 ^ n + base % 2 ^ n ≡ base = shr_split base n in
    let upper : base / 2 ^ n * 2 ^ n % 2 ^ 64 ≡ base / 2 ^ n * 2 ^ n = mod-eq_of_lt (omega (arith, split, fits)) in
    let small : value % 2 ^ n / 4 * 4 < 2 ^ n = omega (arith, low) in
    rw upper (rw (one_shl n 64 few) (or_shifted (base / 2 ^ n) n (value % 2 ^ n / 4 * 4) small))
