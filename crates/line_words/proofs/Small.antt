-- Few hex digits spell a small number.
use Rattle.std.proofs.Common.{Bool, if◌then◌else◌, leb-true, ◌≡◌, ◌∷◌, ◌++◌, ◌∙◌, ◌≤◌, ◌<◌, ◌+◌, ◌-◌, ◌*◌, ◌^◌, ◌&&◌, ℕ, zero, suc, List, [], length, take}
use Rattle.std.proofs.Common.{replicate, true, false, Some, None, Result, Ok, Err, arith, refl, ap, sym}
use Rattle.std.specs.Prelude.{nat_le}
use Rattle.std.specs.Option.{option_map}
use Rattle.std.specs.Result.{result_ok}
use Rattle.std.proofs.lemmas.Bool.{and_parts}
use Rattle.std.proofs.lemmas.List.{append_assoc}
use Rattle.byteorder.specs.Endian.{big_number}
use Rattle.byteorder.specs.Numbers.{big_from-lt}
use Rattle.byteorder.proofs.Bytes.{big_from-zeros}
use Rattle.hex.specs.Hex.{decode_pairs, decode_sized}
use Rattle.hex.specs.declared.error.FromHexError.{FromHexError}
use Rattle.hex.proofs.HexLemmas.{decode_of-even, decode_sized-ok, decode_sized-twice, decode_pairs-ok}
use Rattle.hex.proofs.Pairs.{cons_byte, decode_pairs-ok_pair}
use Rattle.line_words.specs.Line.{number_of, padded}

-- pairs of the digit zero
abbrev zeros : ℕ → List ℕ
zeros zero = []
zeros (suc m) = 48 ∷ 48 ∷ zeros m

-- what bytes are read behind such pairs
abbrev BehindZeros : ℕ → List ℕ → List ℕ → Type 0
BehindZeros m rest bytes = (k : ℕ) × (ys : List ℕ) × (bytes ≡ replicate m 0 ++ ys) × (decode_pairs k rest ≡ Ok ys)

one_more : (m : ℕ) (rest bytes : List ℕ) (r : Result (List ℕ) FromHexError) → ((bs : List ℕ) → r ≡ Ok bs → BehindZeros m rest bs)
    → cons_byte 0 r ≡ Ok bytes → BehindZeros (suc m) rest bytes
one_more m rest bytes (Ok bs) more h =
    let p = more bs refl in
    let same : 0 ∷ bs ≡ bytes = cc in
    (p.0, p.1, sym same ∙ ap (λ (t : List ℕ). 0 ∷ t) p.2, p.3)
one_more m rest bytes (Err e) more h = absurd cc

zeros_decode : (m i : ℕ) (rest bytes : List ℕ) → decode_pairs i (zeros m ++ rest) ≡ Ok bytes → BehindZeros m rest bytes
zeros_decode zero i rest bytes h = (i, bytes, refl, h)
zeros_decode (suc m) i rest bytes h =
    one_more m rest bytes (decode_pairs (i + 2) (zeros m ++ rest)) (λ bs e. zeros_decode m (i + 2) rest bs e)
    (sym (decode_pairs-ok_pair i 48 48 0 (zeros m ++ rest) refl) ∙ h)

zeros_taken : (m t n : ℕ) → m ≤ t → 2 * m ≤ n → (front : List ℕ) × (take n (zeros t) ≡ zeros m ++ front)
zeros_taken zero t n le h = (take n (zeros t), refl)
zeros_taken (suc m) zero n le h = absurd (omega arith)
zeros_taken (suc m) (suc t) zero le h = absurd (omega arith)
zeros_taken (suc m) (suc t) (suc zero) le h = absurd (omega arith)
zeros_taken (suc m) (suc t) (suc (suc n)) le h =
    let p = zeros_taken m t n (omega arith) (omega arith) in
    (p.0, ap (λ (u : List ℕ). 48 ∷ 48 ∷ u) p.1)

digits_read : (r : Result (List ℕ) FromHexError) (n : ℕ) → option_map (big_number 8) (result_ok r) ≡ Some n
    → (bytes : List ℕ) × (r ≡ Ok bytes) × (big_number 8 bytes ≡ n)
digits_read (Ok bytes) n h = (bytes, refl, cc)
digits_read (Err e) n h = absurd cc

read_of : (ds : List ℕ) (n : ℕ) → number_of ds ≡ Some n
    → (length ds ≤ 16) × ((bytes : List ℕ) × (decode_sized (padded ds) 8 ≡ Ok bytes) × (big_number 8 bytes ≡ n))
read_of ds n h = by (nat_le 1 (length ds) && nat_le (length ds) 16) refl h
  where
    by : (b : Bool) → nat_le 1 (length ds) && nat_le (length ds) 16 ≡ b
        → (if b then option_map (big_number 8) (result_ok (decode_sized (padded ds) 8)) else None) ≡ Some n
        → (length ds ≤ 16) × ((bytes : List ℕ) × (decode_sized (padded ds) 8 ≡ Ok bytes) × (big_number 8 bytes ≡ n))
    by true e g = (leb-true (length ds) 16 (and_parts _ _ e).1, digits_read (decode_sized (padded ds) 8) n g)
    by false e g = absurd cc

small_behind : (m k n : ℕ) (rest bytes : List ℕ) → 8 ≡ m + k → BehindZeros m rest bytes → big_number 8 bytes ≡ n → n < 256 ^ k
small_behind m k n rest bytes e b h =
    let ys = b.1 in
    let read = decode_pairs-ok b.0 rest ys b.3 in
    let value : big_number 8 (replicate m 0 ++ ys) ≡ n = sym (ap (big_number 8) b.2) ∙ h in
    omega (arith, value, big_from-zeros m k 8 ys e, big_from-lt 0 k ys read.2)

-- at most 2 k digits spell a number of k bytes
pub number_small : (ds : List ℕ) (n k : ℕ) → number_of ds ≡ Some n → length ds ≤ 2 * k → k ≤ 8 → n < 256 ^ k
number_small ds n k h few most =
    let r = read_of ds n h in
    let len = decode_sized-ok (padded ds) 8 r.1.0 r.1.1 in
    let pairs = sym (decode_of-even (padded ds) (omega arith)) ∙ sym (decode_sized-twice (padded ds) 8 len) ∙ r.1.1 in
    let split = zeros_taken (8 - k) 8 (16 - length ds) (omega arith) (omega arith) in
    let front : padded ds ≡ zeros (8 - k) ++ (split.0 ++ ds) =
    ap (λ (u : List ℕ). u ++ ds) split.1 ∙ append_assoc (zeros (8 - k)) split.0 ds in
    let behind = zeros_decode (8 - k) 0 (split.0 ++ ds) r.1.0 (ap (decode_pairs 0) (sym front) ∙ pairs) in
    small_behind (8 - k) k n (split.0 ++ ds) r.1.0 (omega arith) behind r.1.2

-- every number is one of 64 bits
pub number_fits : (ds : List ℕ) (n : ℕ) → number_of ds ≡ Some n → n < 2 ^ 64
number_fits ds n h = number_small ds n 8 h (omega (arith, (read_of ds n h).0)) (omega arith)
