-- The places of a frame.
use Rattle.std.proofs.Common.{◌≡◌, ◌≢◌, pow_pos, ◌/◌, ℕ, zero, suc, ◌+◌, ◌*◌, ◌^◌, ◌<◌, ◌≤◌, List, []}
use Rattle.std.proofs.Common.{◌∷◌, length, get_or, take, drop, arith, length-take, ap, ◌∙◌, sym, refl, add_comm, add-one, ◌++◌, ◌%◌}
use Rattle.std.proofs.lemmas.List.{drop_more, get_or-take, drop-set, drop-set-lt, get_or-set_other, get_or-set_same}
use Rattle.std.proofs.Math.ListN.{drop_of_length-le, set, length-set}
use Rattle.formatter_frames.specs.declared.symbol.Symbol.{Symbol}
use Rattle.formatter_frames.specs.declared.symbol.Symbol.TheVariants.{NewId, Data}
use Rattle.std.proofs.lemmas.Nat.{and_mask}
use Rattle.std.proofs.Math.Nat.{div-div-eq-div-mul, pow-suc, div-one}
use Rattle.std.specs.Prelude.{bit_and, flat_map}
use Rattle.std.specs.List.{range_with_len}
use Rattle.formatter_frames.specs.declared.frame.BytePair.{BytePair}
use Rattle.formatter_frames.specs.Frame.{mixed_symbol, pair_symbols, symbols_of_pair, pair_at, symbols_in, auxiliary_bit, pair_of, bits_of, bytes_of}

-- the next two of a list
pub next_two : {X : Type 0} → (xs : List X) (n : ℕ) (d e : X) → 2 * n + 1 < length xs
    → drop (2 * n) xs ≡ get_or xs (2 * n) d ∷ get_or xs (2 * n + 1) e ∷ drop (2 * (n + 1)) xs
next_two xs n d e lt =
    let one : 2 * n < length xs = omega arith in
    let more : 2 * n + 1 + 1 ≡ 2 * (n + 1) = omega arith in
    drop_more xs (2 * n) d one ∙ ap (λ ys. get_or xs (2 * n) d ∷ ys) (drop_more xs (2 * n + 1) e lt ∙ ap (λ m. get_or xs (2 * n + 1) e ∷ drop m xs) more)

-- the next pair of bytes
pub next_pair : (frame : List ℕ) (n : ℕ) → length frame ≡ 16 → n < 7
    → drop (2 * n) (take 15 frame) ≡ get_or frame (2 * n) 0 ∷ get_or frame (2 * n + 1) 0 ∷ drop (2 * (n + 1)) (take 15 frame)
next_pair frame n long lt =
    let size : 2 * n + 1 < length (take 15 frame) = omega (arith, length-take 15 frame) in
    let one : 2 * n < 15 = omega arith in
    let two : 2 * n + 1 < 15 = omega arith in
    rw (next_two (take 15 frame) n 0 0 size, get_or-take 15 frame (2 * n) 0 one, get_or-take 15 frame (2 * n + 1) 0 two)

-- the last mixed-use byte
pub last_byte : (frame : List ℕ) → length frame ≡ 16 → drop 14 (take 15 frame) ≡ get_or frame 14 0 ∷ []
last_byte frame long =
    let size : length (take 15 frame) ≡ 15 = omega (arith, length-take 15 frame) in
    let here : 14 < length (take 15 frame) = omega arith in
    let none : length (take 15 frame) ≤ 15 = omega arith in
    let within : 14 < 15 = omega arith in
    rw (drop_more (take 15 frame) 14 0 here, get_or-take 15 frame 14 0 within, drop_of_length-le (take 15 frame) none)

-- two written side by side
pub two_set : {X : Type 0} → (xs : List X) (n : ℕ) (a b : X) → 2 * n + 1 < length xs
    → drop (2 * n) (set (set xs (2 * n) a) (2 * n + 1) b) ≡ a ∷ b ∷ drop (2 * (n + 1)) xs
two_set xs n a b lt =
    let one : 2 * n < length xs = omega arith in
    let long : 2 * n < length (set (set xs (2 * n) a) (2 * n + 1) b) = omega (arith, length-set (set xs (2 * n) a) (2 * n + 1) b, length-set xs (2 * n) a) in
    let next : 2 * n + 1 < length (set xs (2 * n) a) = omega (arith, length-set xs (2 * n) a) in
    let other : 2 * n ≢ 2 * n + 1 = omega arith in
    let before : 2 * n < 2 * n + 1 + 1 = omega arith in
    let e : 2 * n + 1 + 1 ≡ 2 * (n + 1) = omega arith in
    drop_more (set (set xs (2 * n) a) (2 * n + 1) b) (2 * n) a long
    ∙ rw (
      get_or-set_other (set xs (2 * n) a) (2 * n + 1) (2 * n) b a other,
      get_or-set_same xs (2 * n) a a one,
      drop-set (set xs (2 * n) a) (2 * n + 1) b
          next,
      drop-set-lt (2 * n + 1 + 1) xs (2 * n) a before,
      e,
    )

-- an auxiliary bit is a bit
bit_small : (x : Symbol) → auxiliary_bit x < 2
bit_small (NewId id) = omega arith
bit_small (Data byte) = omega arith

pub pair_small : (x y : Symbol) → (pair_of x y).bit < 2
pair_small x (NewId id) = omega arith
pair_small x (Data byte) = bit_small x

-- so many auxiliary bits
pub bits_fit : (symbols : List Symbol) (k : ℕ) → length symbols ≤ 2 * k → bits_of symbols < 2 ^ k
bits_fit [] k few = pow_pos k
bits_fit (x ∷ []) zero few = absurd (omega arith)
bits_fit (x ∷ []) (suc k) few = omega (arith, bit_small x, pow_pos k)
bits_fit (x ∷ y ∷ symbols) zero few = absurd (omega arith)
bits_fit (x ∷ y ∷ symbols) (suc k) few = let below = bits_fit symbols k (omega arith) in omega (arith, pair_small x y)

pub length-bytes_of : (symbols : List Symbol) → length (bytes_of symbols) ≡ length symbols
length-bytes_of [] = refl
length-bytes_of (x ∷ []) = refl
length-bytes_of (x ∷ y ∷ symbols) = ap (λ n. suc (suc n)) (length-bytes_of symbols)

-- the symbols of mixed-use and data bytes in turn, whose auxiliary bits stand in a number, lowest first
abbrev pub symbols_at : ℕ → List ℕ → List Symbol
symbols_at bits [] = []
symbols_at bits (mixed ∷ []) = mixed_symbol mixed (bits % 2) ∷ []
symbols_at bits (mixed ∷ «data» ∷ bytes) =
    let symbols = pair_symbols (record { mixed = mixed; «data» = «data»; bit = bits % 2 }) in
    symbols.0 ∷ symbols.1 ∷ symbols_at (bits / 2) bytes

-- the symbols of a frame, read from the left
module _ (frame : List ℕ) (long : length frame ≡ 16) where
  abbrev bits : ℕ → ℕ
  bits n = get_or frame 15 0 / 2 ^ n

  halved : (n : ℕ) → bits n / 2 ≡ bits (n + 1)
  halved n = div-div-eq-div-mul (get_or frame 15 0) (2 ^ n) 2 ∙ ap (λ d. get_or frame 15 0 / d) (sym (pow-suc 2 n) ∙ ap (λ m. 2 ^ m) (sym (add-one n)))

  from_pair : (k n : ℕ) → n + k ≡ 7 → symbols_at (bits n) (drop (2 * n) (take 15 frame)) ≡ flat_map (λ m. symbols_of_pair (pair_at frame m))
      (range_with_len n k) ++ mixed_symbol (get_or frame 14 0) (bits 7 % 2) ∷ []
  from_pair zero n all = let end : n ≡ 7 = omega arith in rw end (ap (symbols_at (bits 7)) (last_byte frame long))
  from_pair (suc k) n all =
      let within : n < 7 = omega arith in
      let rest : n + 1 + k ≡ 7 = omega arith in
      let symbols = pair_symbols (pair_at frame n) in
      ap (symbols_at (bits n)) (next_pair frame n long within)
      ∙ ap (λ xs. symbols.0 ∷ symbols.1 ∷ xs) (ap (λ b. symbols_at b (drop (2 * (n + 1)) (take 15 frame))) (halved n) ∙ from_pair k (n + 1) rest)

  pub symbols_in_is : symbols_in frame ≡ symbols_at (get_or frame 15 0) (take 15 frame)
  symbols_in_is = sym (from_pair 7 0 refl) ∙ ap (λ b. symbols_at b (take 15 frame)) (div-one (get_or frame 15 0))

-- the next two symbols, where the bit is the lowest of those that are left
pub two_read : (bits mixed next : ℕ) (bytes rest : List ℕ) (symbols : Symbol × Symbol) → bytes ≡ mixed ∷ next ∷ rest
    → symbols ≡ pair_symbols (record { mixed = mixed; «data» = next; bit = bit_and bits 1 })
    → symbols_at bits bytes ≡ symbols.0 ∷ symbols.1 ∷ symbols_at (bits / 2) rest
two_read bits mixed next bytes rest symbols are is = rw (are, is, and_mask bits 1) refl

pub one_read : (bits mixed : ℕ) (bytes : List ℕ) (symbol : Symbol) → bytes ≡ mixed ∷ [] → symbol ≡ mixed_symbol mixed (bit_and bits 1)
    → symbols_at bits bytes ≡ symbol ∷ []
one_read bits mixed bytes symbol are is = rw (are, is, and_mask bits 1) refl

-- one pair more laid out, from the end
pub laid : (frame : List ℕ) (symbols : List Symbol) (n m : ℕ) (x y : Symbol) (pair : BytePair) → n ≡ m + 1 → pair ≡ pair_of x y
    → drop (2 * m) symbols ≡ x ∷ y ∷ drop (2 * (m + 1)) symbols → 2 * m + 1 < length frame → drop (2 * n) frame ≡ bytes_of (drop (2 * n) symbols) ++ 0 ∷ []
    → drop (2 * m) (set (set frame (2 * m) pair.mixed) (2 * m + 1) pair.data) ≡ bytes_of (drop (2 * m) symbols) ++ 0 ∷ []
laid frame symbols n m x y pair more is two lt rest =
    let after : drop (2 * (m + 1)) frame ≡ bytes_of (drop (2 * (m + 1)) symbols) ++ 0 ∷ [] = rw more at rest in
    two_set frame m pair.mixed pair.data lt ∙ rw (is, two, after) refl

pub bit_more : (symbols : List Symbol) (bits n m : ℕ) (x y : Symbol) (pair : BytePair) → n ≡ m + 1 → pair ≡ pair_of x y
    → drop (2 * m) symbols ≡ x ∷ y ∷ drop (2 * (m + 1)) symbols → bits ≡ bits_of (drop (2 * n) symbols) → 2 * bits + pair.bit ≡ bits_of (drop (2 * m) symbols)
bit_more symbols bits n m x y pair more is two rest =
    let after : bits ≡ bits_of (drop (2 * (m + 1)) symbols) = rw more at rest in
    rw (is, two, after) (add_comm (2 * bits_of (drop (2 * (m + 1)) symbols)) (pair_of x y).bit)

-- the auxiliary byte is written
set_last : (bytes : List ℕ) (bits : ℕ) → set (bytes ++ 0 ∷ []) (length bytes) bits ≡ bytes ++ bits ∷ []
set_last [] bits = refl
set_last (x ∷ bytes) bits = ap (λ xs. x ∷ xs) (set_last bytes bits)

pub auxiliary_set : (bytes : List ℕ) (bits : ℕ) → length bytes ≡ 15 → set (bytes ++ 0 ∷ []) 15 bits ≡ bytes ++ bits ∷ []
auxiliary_set bytes bits long = ap (λ n. set (bytes ++ 0 ∷ []) n bits) (sym long) ∙ set_last bytes bits
