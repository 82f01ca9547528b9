-- Lists of low bits: put together, and taken apart.
use Rattle.std.proofs.Common.{◌≡◌, ℕ, Bool, true, false, zero, suc, ◌+◌, ◌-◌, ◌*◌, ◌/◌, ◌%◌, ◌^◌, ◌<◌, ◌≤◌, ◌==◌, [], ◌∷◌, ◌++◌, length, take, drop}
use Rattle.std.proofs.Common.{refl, sym, ap, subst, ◌∙◌, arith, append-nil, slice_get, Some, inl, inr}
use Rattle.std.proofs.Math.Nat.{pow-suc, pow-le-pow_right, mul_assoc, div-one}
use Rattle.std.proofs.lemmas.Bool.Decides.{leb_tells}
use Rattle.std.proofs.lemmas.List.{drop_at, take_at}
use Rattle.std.proofs.lemmas.Nat.{mod_below, mul-add-lt, one_shl, pow-add, pow_pos, shl_whole, shr_below, shr_split, shr-shr}
use mir.Val.{bool_byte}
use Rattle.etm_types.specs.Atoms.{low_bits}

pub low_bits-length : (n bits : ℕ) → length (low_bits n bits) ≡ n
low_bits-length zero bits = refl
low_bits-length (suc n) bits = ap suc (low_bits-length n (bits / 2))

-- a number of two parts, each with its own bits
pub low_bits-append : (m n low high : ℕ) → low < 2 ^ m → low_bits (m + n) (high * 2 ^ m + low) ≡ low_bits m low ++ low_bits n high
low_bits-append zero n low high fits =
    let count : zero + n ≡ n = omega arith in
    let whole : high * 2 ^ zero + low ≡ high = omega arith in
    ap (λ (k : ℕ). low_bits k (high * 2 ^ zero + low)) count ∙ ap (low_bits n) whole
low_bits-append (suc m) n low high fits =
    let two = pow-suc 2 m in
    let count : suc m + n ≡ suc (m + n) = omega arith in
    let twice : high * 2 ^ suc m ≡ high * 2 ^ m * 2 = ap (λ k. high * k) two ∙ sym (mul_assoc high (2 ^ m) 2) in
    let half : (high * 2 ^ suc m + low) / 2 ≡ high * 2 ^ m + low / 2 = omega (arith, twice) in
    let bit : (high * 2 ^ suc m + low) % 2 ≡ low % 2 = omega (arith, twice) in
    ap (λ (k : ℕ). low_bits k (high * 2 ^ suc m + low)) count
    ∙ ap (λ (b : ℕ). (b == 1) ∷ low_bits (m + n) ((high * 2 ^ suc m + low) / 2)) bit
    ∙ ap (λ (b : ℕ). (low % 2 == 1) ∷ low_bits (m + n) b) half
    ∙ ap (λ l. (low % 2 == 1) ∷ l) (low_bits-append m n (low / 2) high (omega (arith, two)))

pub low_bits-split : (m n bits : ℕ) → low_bits (m + n) bits ≡ low_bits m (bits % 2 ^ m) ++ low_bits n (bits / 2 ^ m)
low_bits-split m n bits =
    ap (low_bits (m + n)) (sym (shr_split bits m)) ∙ low_bits-append m n (bits % 2 ^ m) (bits / 2 ^ m) (mod_below bits (2 ^ m) (pow_pos m))

-- higher bits don't count
pub low_bits-masked : (n bits : ℕ) → low_bits n (bits % 2 ^ n) ≡ low_bits n bits
low_bits-masked n bits =
    let count : n + 0 ≡ n = omega arith in
    sym (append-nil (low_bits n (bits % 2 ^ n))) ∙ sym (low_bits-split n 0 bits) ∙ ap (λ (k : ℕ). low_bits k bits) count

at : (m n bits : ℕ) → m ≤ n → low_bits n bits ≡ low_bits m (bits % 2 ^ m) ++ low_bits (n - m) (bits / 2 ^ m)
at m n bits within =
    let count : n ≡ m + (n - m) = omega (arith, within) in ap (λ (k : ℕ). low_bits k bits) count ∙ low_bits-split m (n - m) bits

pub low_bits-drop : (m n bits : ℕ) → m ≤ n → drop m (low_bits n bits) ≡ low_bits (n - m) (bits / 2 ^ m)
low_bits-drop m n bits within =
    ap (drop m) (at m n bits within) ∙ drop_at (low_bits m (bits % 2 ^ m)) _ m (low_bits-length m (bits % 2 ^ m))

pub low_bits-take : (m n bits : ℕ) → m ≤ n → take m (low_bits n bits) ≡ low_bits m (bits % 2 ^ m)
low_bits-take m n bits within =
    ap (take m) (at m n bits within) ∙ take_at (low_bits m (bits % 2 ^ m)) _ m (low_bits-length m (bits % 2 ^ m))

-- the oldest and the newest
pub low_bits-first : (n bits : ℕ) → 0 < n → low_bits n bits ≡ (bits % 2 == 1) ∷ low_bits (n - 1) (bits / 2)
low_bits-first zero bits some = absurd (omega arith)
low_bits-first (suc n) bits some =
    let count : n ≡ suc n - 1 = omega arith in ap (λ (k : ℕ). (bits % 2 == 1) ∷ low_bits k (bits / 2)) count

pub low_bits-last : (n low high : ℕ) → low < 2 ^ n → low_bits (n + 1) (high * 2 ^ n + low) ≡ low_bits n low ++ (high % 2 == 1) ∷ []
low_bits-last n low high fits = low_bits-append n 1 low high fits

-- an atom is the bit at its place
pub low_bits-at : (n bits i : ℕ) → i < n → slice_get (low_bits n bits) i ≡ Some (bits / 2 ^ i % 2 == 1)
low_bits-at zero bits i below = absurd (omega arith)
low_bits-at (suc n) bits zero below = ap (λ (b : ℕ). Some (b % 2 == 1)) (sym (div-one bits))
low_bits-at (suc n) bits (suc i) below =
    let half : bits / 2 / 2 ^ i ≡ bits / 2 ^ (1 + i) = shr-shr bits 1 i in
    let same : 1 + i ≡ suc i = omega arith in
    low_bits-at n (bits / 2) i (omega arith) ∙ ap (λ (b : ℕ). Some (b % 2 == 1)) (half ∙ ap (λ (j : ℕ). bits / 2 ^ j) same)

-- ---- as a word of 64 bits has them

-- so many bits put above others
pub joined : (n m low high : ℕ) → high < 2 ^ m → m + n ≤ 64 → low + high * 2 ^ n % 2 ^ 64 ≡ high * 2 ^ n + low
joined n m low high fits room = let whole = shl_whole high m n 64 fits room in omega (arith, whole)

pub joined_fits : (n m low high : ℕ) → low < 2 ^ n → high < 2 ^ m → high * 2 ^ n + low < 2 ^ (n + m)
joined_fits n m low high below fits = subst (λ k. high * 2 ^ n + low < k) (sym (pow-add 2 n m)) (mul-add-lt high (2 ^ n) low (2 ^ m) fits below)

pub fits_word : (k bits : ℕ) → bits < 2 ^ k → k ≤ 64 → bits < 2 ^ 64
fits_word k bits fits within = let most : 2 ^ k ≤ 2 ^ 64 = pow-le-pow_right (omega arith) within in omega (arith, most, fits)

-- the bits of a run alone
pub run_bits : (count bits : ℕ) → count ≤ 24 → bits % (1 * 2 ^ count % 2 ^ 32) ≡ bits % 2 ^ count
run_bits count bits few = ap (λ k. bits % k) (one_shl count 32 (omega (arith, few)))

pub run_fits : (count bits : ℕ) → bits % 2 ^ count < 2 ^ count
run_fits count bits = mod_below bits (2 ^ count) (pow_pos count)

-- what is left above
pub rest_fits : (n count bits : ℕ) → n ≤ count → bits < 2 ^ count → bits / 2 ^ n < 2 ^ (count - n)
rest_fits n count bits within fits =
    let parts : count ≡ (count - n) + n = omega (arith, within) in shr_below bits (count - n) n (subst (λ k. bits < 2 ^ k) parts fits)

-- one more behind the others
pub one_more : (n bits bit : ℕ) (taken : Bool) → bits < 2 ^ n → n < 64 → bit ≡ bool_byte taken
    → low_bits (n + 1) (bits + bit * 2 ^ n % 2 ^ 64) ≡ low_bits n bits ++ taken ∷ []
one_more n bits bit true fits room is =
    ap (low_bits (n + 1)) (joined n 1 bits bit (omega (arith, is)) (omega arith)) ∙ low_bits-last n bits bit fits
    ∙ ap (λ b. low_bits n bits ++ (b % 2 == 1) ∷ []) is
one_more n bits bit false fits room is =
    ap (low_bits (n + 1)) (joined n 1 bits bit (omega (arith, is)) (omega arith)) ∙ low_bits-last n bits bit fits
    ∙ ap (λ b. low_bits n bits ++ (b % 2 == 1) ∷ []) is

-- the atoms of a run behind others
none_times : (n m : ℕ) → n ≡ 0 → n * m ≡ 0
none_times zero m none = omega arith
none_times (suc n) m none = absurd (omega (arith, none))

-- Bits put above so many others are the same where the shift wraps around: there is none to put above 64.
wrapped : (n m high added : ℕ) → high < 2 ^ m → n + m ≤ 64 → added ≡ high → added * 2 ^ (n % 64) % 2 ^ 64 ≡ high * 2 ^ n % 2 ^ 64
wrapped n m high added fits room is = elim (leb_tells 64 n) [
  | inl past ↦
      let none : m ≡ 0 = omega (arith, room, past.1) in
      let alone : high < 2 ^ 0 = subst (λ (k : ℕ). high < 2 ^ k) none fits in
      let no_added : added * 2 ^ (n % 64) ≡ 0 = none_times added (2 ^ (n % 64)) (omega (arith, alone, is)) in
      let no_high : high * 2 ^ n ≡ 0 = none_times high (2 ^ n) (omega (arith, alone)) in
      ap (λ (k : ℕ). k % 2 ^ 64) (no_added ∙ sym no_high)
  | inr below ↦
      let small : n % 64 ≡ n = omega (arith, below.1) in
      ap (λ (k : ℕ). k * 2 ^ (n % 64) % 2 ^ 64) is ∙ ap (λ (k : ℕ). high * 2 ^ k % 2 ^ 64) small
]

-- what the bits are, with a run behind them
pub record Grown (n bits m run shifted : ℕ) : Type 0 where
  pub whole : bits + shifted ≡ run % 2 ^ m * 2 ^ n + bits
  pub fits : run % 2 ^ m * 2 ^ n + bits < 2 ^ (n + m)

pub grown : (n bits m run added shifted : ℕ) → bits < 2 ^ n → n + m ≤ 64 → m ≤ 24 → added ≡ run % (1 * 2 ^ m % 2 ^ 32)
    → shifted ≡ added * 2 ^ (n % 64) % 2 ^ 64 → Grown n bits m run shifted
grown n bits m run added shifted fits room few is shift =
    let added_is : added ≡ run % 2 ^ m = is ∙ run_bits m run few in
    let put : shifted ≡ run % 2 ^ m * 2 ^ n % 2 ^ 64 = shift ∙ wrapped n m (run % 2 ^ m) added (run_fits m run) room added_is in
    record {
      whole = ap (λ (k : ℕ). bits + k) put ∙ joined n m bits (run % 2 ^ m) (run_fits m run) (omega (arith, room));
      fits = joined_fits n m bits (run % 2 ^ m) fits (run_fits m run);
    }

pub atoms_behind : (n bits m run : ℕ) → bits < 2 ^ n → low_bits (n + m) (run % 2 ^ m * 2 ^ n + bits) ≡ low_bits n bits ++ low_bits m run
atoms_behind n bits m run fits = low_bits-append n m bits (run % 2 ^ m) fits ∙ ap (λ l. low_bits n bits ++ l) (low_bits-masked m run)
