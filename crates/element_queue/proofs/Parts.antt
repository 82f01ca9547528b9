-- Low bits in two parts: the atoms of an outlook that are committed, and those that are held.
use Rattle.std.proofs.Common.{◌≡◌, ℕ, ◌+◌, ◌-◌, ◌*◌, ◌/◌, ◌%◌, ◌^◌, ◌<◌, ◌≤◌, ◌++◌, length, take, drop, sym, ap, ◌∙◌, arith, length-drop, length-take}
use Rattle.std.proofs.lemmas.List.{drop-append-le, drop-take, take-append-drop, take-append-le, take-take}
use Rattle.std.proofs.lemmas.Nat.{one_shl}
use Rattle.etm_types.specs.Atoms.{low_bits}
use Rattle.element_queue.proofs.LowBits.{Grown, atoms_behind, low_bits-drop, low_bits-length, low_bits-take}

-- how many each part has
pub gone-length : (k n bits : ℕ) → k ≤ n → length (take k (low_bits n bits)) ≡ k
gone-length k n bits within = omega (arith, within, length-take k (low_bits n bits), low_bits-length n bits)

pub held-length : (k n bits : ℕ) → length (drop k (low_bits n bits)) ≡ n - k
held-length k n bits = omega (arith, length-drop k (low_bits n bits), low_bits-length n bits)

-- the n newest are taken back
pub gone-cut : (k n m bits : ℕ) → k ≤ m → m ≤ n → m < 64 → take k (low_bits m (bits % (1 * 2 ^ m % 2 ^ 64))) ≡ take k (low_bits n bits)
gone-cut k n m bits before within small =
    ap (λ b. take k (low_bits m (bits % b))) (one_shl m 64 small) ∙ ap (take k) (sym (low_bits-take m n bits within))
    ∙ take-take k m (low_bits n bits) before

pub held-cut : (k n m bits : ℕ) → k ≤ m → m ≤ n → m < 64
    → drop k (low_bits m (bits % (1 * 2 ^ m % 2 ^ 64))) ≡ take (m - k) (drop k (low_bits n bits))
held-cut k n m bits before within small =
    let sum : m ≡ k + (m - k) = omega (arith, before) in
    ap (λ b. drop k (low_bits m (bits % b))) (one_shl m 64 small) ∙ ap (drop k) (sym (low_bits-take m n bits within))
    ∙ ap (λ (j : ℕ). drop k (take j (low_bits n bits))) sum ∙ drop-take k (m - k) (low_bits n bits)

-- the atoms of a run are held behind them
pub gone-grown : (k n bits m run shifted : ℕ) → k ≤ n → bits < 2 ^ n → Grown n bits m run shifted
    → take k (low_bits (n + m) (bits + shifted)) ≡ take k (low_bits n bits)
gone-grown k n bits m run shifted within fits more =
    ap (λ b. take k (low_bits (n + m) b)) more.whole ∙ ap (take k) (atoms_behind n bits m run fits)
    ∙ take-append-le k (low_bits n bits) (low_bits m run) (omega (arith, within, low_bits-length n bits))

pub held-grown : (k n bits m run shifted : ℕ) → k ≤ n → bits < 2 ^ n → Grown n bits m run shifted
    → drop k (low_bits (n + m) (bits + shifted)) ≡ drop k (low_bits n bits) ++ low_bits m run
held-grown k n bits m run shifted within fits more =
    ap (λ b. drop k (low_bits (n + m) b)) more.whole ∙ ap (drop k) (atoms_behind n bits m run fits)
    ∙ drop-append-le k (low_bits n bits) (low_bits m run) (omega (arith, within, low_bits-length n bits))

-- the oldest that are committed
pub oldest-gone : (m k n bits : ℕ) → m ≤ k → k ≤ n → m < 64 → low_bits m (bits % (1 * 2 ^ m % 2 ^ 64)) ≡ take m (take k (low_bits n bits))
oldest-gone m k n bits few within small =
    ap (λ b. low_bits m (bits % b)) (one_shl m 64 small) ∙ sym (low_bits-take m n bits (omega (arith, few, within)))
    ∙ sym (take-take m k (low_bits n bits) few)

-- all but the oldest
pub behind-oldest : (m k n bits : ℕ) → m ≤ n → low_bits (n - m) (bits / 2 ^ m) ≡ drop m (take k (low_bits n bits) ++ drop k (low_bits n bits))
behind-oldest m k n bits within =
    sym (low_bits-drop m n bits within) ∙ ap (drop m) (sym (take-append-drop k (low_bits n bits)))
