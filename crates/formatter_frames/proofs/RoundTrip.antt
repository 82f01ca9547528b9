-- Frames taken apart again.
use Rattle.std.proofs.Common.{◌≡◌, ℕ, zero, suc, ◌+◌, ◌-◌, ◌*◌, ◌/◌, ◌%◌, ◌<◌, ◌≤◌, List, [], ◌∷◌, ◌++◌}
use Rattle.std.proofs.Common.{length, take, drop, get_or, refl, ap, sym, ◌∙◌, arith, lit<, inl, inr, append_assoc, length-append, length-take, length-drop}
use Rattle.std.specs.Prelude.{Option, Some, None, flat_map, replicate, ◌==◌}
use Rattle.std.proofs.Math.Seq.{take-append_seam, drop-append_seam, take-add, get_or-append_seam}
use Rattle.std.proofs.Math.Nat.{mul-div_cancel}
use Rattle.std.proofs.lemmas.List.{length-replicate, take_all}
use Rattle.std.proofs.lemmas.Bool.{eqb-true, cases_Bool}
use Rattle.std.proofs.lemmas.Nat.{div-add-mod'}
use Rattle.formatter_frames.specs.declared.symbol.Symbol.{Symbol}
use Rattle.formatter_frames.specs.declared.symbol.Symbol.TheVariants.{NewId, Data}
use Rattle.formatter_frames.specs.Symbols.{pairs_of, id_after, told, symbols_of}
use Rattle.formatter_frames.specs.Frame.{mixed_symbol, pair_symbols, symbols_in, mixed_byte, auxiliary_bit, pair_of, bytes_of, bits_of, frame_of}
use Rattle.formatter_frames.specs.Pieces.{pieces, left_over}
use Rattle.formatter_frames.specs.Unframed.{symbols_of_frames, unframed}
use Rattle.formatter_frames.specs.Framed.{frames_of, whole_frames, begun, filling, filled, framed}
use Rattle.formatter_frames.proofs.Symbols.{pairs_of-append}
use Rattle.formatter_frames.proofs.Places.{symbols_at, symbols_in_is, pair_small, length-bytes_of}
use Rattle.formatter_frames.proofs.Pieces.{length-left_over}
use Rattle.formatter_frames.proofs.Writing.{frames_of-append, frames_of_full}

-- no ID follows an ID directly
abbrev FitsPair : Symbol → Symbol → Type 0
FitsPair (NewId _) (NewId _) = ⊥
FitsPair _ _ = Unit {0}

abbrev IsSpaced : List Symbol → Type 0
IsSpaced [] = Unit {0}
IsSpaced (x ∷ []) = Unit {0}
IsSpaced (x ∷ y ∷ xs) = FitsPair x y × IsSpaced (y ∷ xs)

spaced_tail : (x : Symbol) (xs : List Symbol) → IsSpaced (x ∷ xs) → IsSpaced xs
spaced_tail x [] s = tt
spaced_tail x (y ∷ xs) s = s.1

spaced-drop : (n : ℕ) (xs : List Symbol) → IsSpaced xs → IsSpaced (drop n xs)
spaced-drop zero xs s = s
spaced-drop (suc n) [] s = tt
spaced-drop (suc n) (x ∷ xs) s = spaced-drop n xs (spaced_tail x xs s)

spaced-take : (n : ℕ) (xs : List Symbol) → IsSpaced xs → IsSpaced (take n xs)
spaced-take zero xs s = tt
spaced-take (suc n) [] s = tt
spaced-take (suc zero) (x ∷ xs) s = tt
spaced-take (suc (suc n)) (x ∷ []) s = tt
spaced-take (suc (suc n)) (x ∷ y ∷ xs) s = (s.0, spaced-take (suc n) (y ∷ xs) s.1)

spaced_data : (byte : ℕ) (xs : List Symbol) → IsSpaced xs → IsSpaced (Data byte ∷ xs)
spaced_data byte [] s = tt
spaced_data byte (NewId id ∷ xs) s = (tt, s)
spaced_data byte (Data _ ∷ xs) s = (tt, s)

spaced_told : (current : Option ℕ) (id byte : ℕ) (xs : List Symbol) → IsSpaced xs → IsSpaced (told current id ++ Data byte ∷ xs)
spaced_told None id byte xs s = (tt, spaced_data byte xs s)
spaced_told (Some current) id byte xs s = elim (cases_Bool (current == id)) [
  | inl same ↦ rw same (spaced_data byte xs s)
  | inr other ↦ rw other (tt, spaced_data byte xs s)
]

spaced_pairs : (current : Option ℕ) (pairs : List (ℕ × ℕ)) (rest : List Symbol) → IsSpaced rest → IsSpaced (symbols_of current pairs ++ rest)
spaced_pairs current [] rest s = s
spaced_pairs current (pair ∷ pairs) rest s =
    rw append_assoc (spaced_told current pair.0 pair.1 (symbols_of (Some pair.0) pairs ++ rest) (spaced_pairs (Some pair.0) pairs rest s))

-- a pair of symbols is read as it was laid out
odd : (n : ℕ) → (2 * n + 1) % 2 ≡ 1
odd n = omega arith

half : (n : ℕ) → (2 * n + 1) / 2 ≡ n
half n = omega arith

even : (n : ℕ) → (n - n % 2) % 2 ≡ 0
even n = omega arith

mixed_back : (x : Symbol) → mixed_symbol (mixed_byte x) (auxiliary_bit x) ≡ x
mixed_back (NewId id) = rw (odd id, half id) refl
mixed_back (Data byte) = let back : byte - byte % 2 + byte % 2 ≡ byte = omega arith in rw (even byte, back) refl

pair_back : (x y : Symbol) → FitsPair x y → pair_symbols (pair_of x y) ≡ (x, y)
pair_back (NewId id) (NewId _) f = absurd f
pair_back (NewId id) (Data byte) f = rw (odd id, half id) refl
pair_back (Data byte) (NewId id) f = rw (odd id, half id) refl
pair_back (Data byte) (Data next) f = let back : byte - byte % 2 + byte % 2 ≡ byte = omega arith in rw (even byte, back) refl

low : (bit rest : ℕ) → bit < 2 → (bit + 2 * rest) % 2 ≡ bit
low bit rest small = omega arith

high : (bit rest : ℕ) → bit < 2 → (bit + 2 * rest) / 2 ≡ rest
high bit rest small = omega arith

symbols_back : (xs : List Symbol) → IsSpaced xs → symbols_at (bits_of xs) (bytes_of xs) ≡ xs
symbols_back [] s = refl
symbols_back (NewId id ∷ []) s = ap (λ x. x ∷ []) (mixed_back (NewId id))
symbols_back (Data byte ∷ []) s = let bit : byte % 2 % 2 ≡ byte % 2 = omega arith in rw bit (ap (λ x. x ∷ []) (mixed_back (Data byte)))
symbols_back (x ∷ y ∷ xs) s =
    let pair = pair_of x y in
    rw (low pair.bit (bits_of xs) (pair_small x y), high pair.bit (bits_of xs) (pair_small x y))
    (ap (λ q. q.0 ∷ q.1 ∷ symbols_at (bits_of xs) (bytes_of xs)) (pair_back x y s.0) ∙ ap (λ zs. x ∷ y ∷ zs) (symbols_back xs (spaced_tail y xs s.1)))

length-frame_of : (xs : List Symbol) → length xs ≡ 15 → length (frame_of xs) ≡ 16
length-frame_of xs long = omega (arith, length-append (bytes_of xs) (bits_of xs ∷ []), length-bytes_of xs)

frame_back : (xs : List Symbol) → length xs ≡ 15 → IsSpaced xs → symbols_in (frame_of xs) ≡ xs
frame_back xs long s =
    let count : length (bytes_of xs) ≡ 15 = length-bytes_of xs ∙ long in
    let last : get_or (bytes_of xs ++ bits_of xs ∷ []) 15 0 ≡ bits_of xs =
    ap (λ k. get_or (bytes_of xs ++ bits_of xs ∷ []) k 0) (sym count) ∙ get_or-append_seam (bytes_of xs) (bits_of xs) [] 0 in
    let front : take 15 (bytes_of xs ++ bits_of xs ∷ []) ≡ bytes_of xs =
    ap (λ k. take k (bytes_of xs ++ bits_of xs ∷ [])) (sym count) ∙ take-append_seam (bytes_of xs) (bits_of xs ∷ []) in
    symbols_in_is (frame_of xs) (length-frame_of xs long) ∙ rw (last, front) (symbols_back xs s)

-- so many frames are read as they were laid out
frames_back : (n : ℕ) (xs : List Symbol) → n * 15 ≤ length xs → IsSpaced xs
    → flat_map symbols_in (pieces 16 n (flat_map frame_of (pieces 15 n xs))) ≡ take (n * 15) xs
frames_back zero xs long s = refl
frames_back (suc n) xs long s =
    let front = take 15 xs in
    let rest = flat_map frame_of (pieces 15 n (drop 15 xs)) in
    let size : length (take 15 xs) ≡ 15 = omega (arith, length-take 15 xs) in
    let more : n * 15 ≤ length (drop 15 xs) = omega (arith, length-drop 15 xs) in
    let count : 15 + n * 15 ≡ suc n * 15 = omega arith in
    let whole = length-frame_of front size in
    let first : take 16 (frame_of front ++ rest) ≡ frame_of front =
    ap (λ k. take k (frame_of front ++ rest)) (sym whole) ∙ take-append_seam (frame_of front) rest in
    let others : drop 16 (frame_of front ++ rest) ≡ rest = ap (λ k. drop k (frame_of front ++ rest)) (sym whole) ∙ drop-append_seam (frame_of front) rest in
    rw (first, others)
    (ap (λ ys. ys ++ flat_map symbols_in (pieces 16 n rest)) (frame_back front size (spaced-take 15 xs s))
    ∙ ap (λ ys. front ++ ys) (frames_back n (drop 15 xs) more (spaced-drop 15 xs s))
    ∙ sym (take-add 15 (n * 15) xs)
    ∙ ap (λ k. take k xs) count)

length-frames : (n : ℕ) (xs : List Symbol) → n * 15 ≤ length xs → length (flat_map frame_of (pieces 15 n xs)) ≡ n * 16
length-frames zero xs long = refl
length-frames (suc n) xs long =
    let size : length (take 15 xs) ≡ 15 = omega (arith, length-take 15 xs) in
    let more : n * 15 ≤ length (drop 15 xs) = omega (arith, length-drop 15 xs) in
    omega (
      arith,
      length-append (frame_of (take 15 xs)) (flat_map frame_of (pieces 15 n (drop 15 xs))),
      length-frame_of (take 15 xs) size,
      length-frames n
          (drop 15 xs) more,
    )

-- symbols that fill frames to the last place
module _ (xs : List Symbol) (filled_up : length xs % 15 ≡ 0) where
  all_places : length xs / 15 * 15 ≡ length xs
  all_places = omega (arith, div-add-mod' (length xs) 15)

  length-frames_of : length (frames_of xs) ≡ length xs / 15 * 16
  length-frames_of = length-frames (length xs / 15) xs (omega (arith, all_places))

  symbols_of_frames-frames_of : IsSpaced xs → symbols_of_frames (frames_of xs) ≡ xs
  symbols_of_frames-frames_of s =
      let count : length (frames_of xs) / 16 ≡ length xs / 15 = ap (λ n. n / 16) length-frames_of ∙ mul-div_cancel (length xs / 15) (lit< tt) in
      ap (λ n. flat_map symbols_in (pieces 16 n (frames_of xs))) count
      ∙ frames_back (length xs / 15) xs (omega (arith, all_places)) s
      ∙ take_all (length xs / 15 * 15) xs (omega (arith, all_places))

-- what fills the begun frame, where there is one
abbrev fill : List Symbol → List Symbol
fill [] = []
fill (x ∷ xs) = filling (length (x ∷ xs))

length-filling : (count : ℕ) → count < 15 → length (filling count) + count ≡ 15
length-filling count few = omega (arith, length-replicate (14 - count) (Data 0))

length-fill : (xs : List Symbol) → length xs < 15 → length (xs ++ fill xs) % 15 ≡ 0
length-fill [] few = refl
length-fill (x ∷ xs) few =
    let whole : length ((x ∷ xs) ++ filling (length (x ∷ xs))) ≡ 15 =
    omega (arith, length-append (x ∷ xs) (filling (length (x ∷ xs))), length-filling (length (x ∷ xs)) few) in
    ap (λ n. n % 15) whole

frames_of-filled : (xs : List Symbol) → length xs < 15 → frames_of (xs ++ fill xs) ≡ filled xs
frames_of-filled [] few = refl
frames_of-filled (x ∷ xs) few =
    frames_of_full ((x ∷ xs) ++ filling (length (x ∷ xs)))
    (omega (arith, length-append (x ∷ xs) (filling (length (x ∷ xs))), length-filling (length (x ∷ xs)) few))

spaced_zeros : (k : ℕ) → IsSpaced (replicate k (Data 0))
spaced_zeros zero = tt
spaced_zeros (suc k) = spaced_data 0 (replicate k (Data 0)) (spaced_zeros k)

spaced_filling : (k : ℕ) → IsSpaced (NewId 0 ∷ replicate k (Data 0))
spaced_filling zero = tt
spaced_filling (suc k) = (tt, spaced_zeros (suc k))

spaced_fill : (xs : List Symbol) → IsSpaced (fill xs)
spaced_fill [] = tt
spaced_fill (x ∷ xs) = spaced_filling (14 - length (x ∷ xs))

-- what the symbols of pairs carry, and what the filling carries
pairs_told : (current : Option ℕ) (id byte : ℕ) (rest : List Symbol)
    → pairs_of current (told current id ++ Data byte ∷ rest) ≡ (id, byte) ∷ pairs_of (Some id) rest
pairs_told None id byte rest = refl
pairs_told (Some current) id byte rest = elim (cases_Bool (current == id)) [
  | inl same ↦ rw same (ap (λ n. (n, byte) ∷ pairs_of (Some n) rest) (eqb-true current id same))
  | inr other ↦ rw other refl
]

pairs_back : (current : Option ℕ) (pairs : List (ℕ × ℕ)) → pairs_of current (symbols_of current pairs) ≡ pairs
pairs_back current [] = refl
pairs_back current (pair ∷ pairs) = pairs_told current pair.0 pair.1 (symbols_of (Some pair.0) pairs) ∙ ap (λ ps. pair ∷ ps) (pairs_back (Some pair.0) pairs)

zeros_carried : (k : ℕ) → pairs_of (Some 0) (replicate k (Data 0)) ≡ replicate k (0, 0)
zeros_carried zero = refl
zeros_carried (suc k) = ap (λ ps. (0, 0) ∷ ps) (zeros_carried k)

fill_pairs : (current : Option ℕ) (xs : List Symbol) → length xs < 15 → (zeros : ℕ) × (zeros < 15) × (pairs_of current (fill xs) ≡ replicate zeros (0, 0))
fill_pairs current [] few = (0, lit< tt, refl)
fill_pairs current (x ∷ xs) few = (14 - length (x ∷ xs), omega arith, zeros_carried (14 - length (x ∷ xs)))

empty : {A : Type 0} (xs : List A) → length xs ≡ 0 → xs ≡ []
empty [] none = refl
empty (x ∷ xs) none = absurd (omega arith)

-- the frames of pairs are the frames of their symbols and what fills the last
module _ (pairs : List (ℕ × ℕ)) where
  few : length (begun pairs) < 15
  few = omega (arith, length-left_over 15 (symbols_of None pairs))

  abbrev all_symbols : List Symbol
  all_symbols = symbols_of None pairs ++ fill (begun pairs)

  framed_is : framed pairs ≡ frames_of all_symbols
  framed_is = ap (λ bytes. whole_frames pairs ++ bytes) (sym (frames_of-filled (begun pairs) few))
      ∙ sym (frames_of-append (symbols_of None pairs) (fill (begun pairs)))

  filled_up : length all_symbols % 15 ≡ 0
  filled_up = omega (
    arith,
    length-append (symbols_of None pairs) (fill (begun pairs)),
    length-append (begun pairs) (fill (begun pairs)),
    length-fill
        (begun pairs) few,
    length-left_over 15 (symbols_of None pairs),
  )

  spaced : IsSpaced all_symbols
  spaced = spaced_pairs None pairs (fill (begun pairs)) (spaced_fill (begun pairs))

  symbols_again : symbols_of_frames (framed pairs) ≡ all_symbols
  symbols_again = ap symbols_of_frames framed_is ∙ symbols_of_frames-frames_of all_symbols filled_up spaced

  pub nothing_left : left_over 16 (framed pairs) ≡ []
  nothing_left =
      let size : length (framed pairs) ≡ length all_symbols / 15 * 16 = ap length framed_is ∙ length-frames_of all_symbols filled_up in
      let none : length (left_over 16 (framed pairs)) ≡ 0 = length-left_over 16 (framed pairs) ∙ ap (λ n. n % 16) size ∙ grind arith in
      empty (left_over 16 (framed pairs)) none

  -- the pairs come back, and then zeros of the null ID
  pub pairs_again : (zeros : ℕ) × (zeros < 15) × (unframed (framed pairs) ≡ pairs ++ replicate zeros (0, 0))
  pairs_again =
      let after = id_after None (symbols_of None pairs) in
      let tail = fill_pairs after (begun pairs) few in (
        tail.0,
        tail.1,
        ap (pairs_of None) symbols_again
            ∙ pairs_of-append None (symbols_of None pairs) (fill (begun pairs))
            ∙ ap (λ ps. ps ++ pairs_of after (fill (begun pairs))) (pairs_back None pairs)
            ∙ ap (λ ps. pairs ++ ps) tail.2,
      )
