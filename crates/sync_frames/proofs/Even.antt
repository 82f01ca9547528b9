-- Frames of sources have no byte FF at an even place.
use Rattle.std.proofs.Common.{◌≡◌, ◌≢◌, ℕ, zero, suc, ◌-◌, ◌*◌, ◌/◌, ◌%◌, ◌<◌, ◌≤◌, List, [], ◌∷◌, ◌++◌, length, take, drop, arith, inl, inr, refl}
use Rattle.std.proofs.Common.{length-take, length-drop, length-append}
use Rattle.std.specs.Prelude.{Option, Some, None, All, flat_map, replicate, ◌==◌, ⊤}
use Rattle.std.proofs.lemmas.Bool.{cases_Bool}
use Rattle.std.proofs.lemmas.List.{length-replicate}
use Rattle.std.proofs.lemmas.List.Elements.{All-nil, All-cons, All-head, All-tail, All-append, All-take, All-drop, All-replicate}
use Rattle.formatter_frames.specs.declared.symbol.Symbol.{Symbol}
use Rattle.formatter_frames.specs.declared.symbol.Symbol.TheVariants.{NewId, Data}
use Rattle.formatter_frames.specs.Symbols.{told, symbols_of}
use Rattle.formatter_frames.specs.Frame.{mixed_byte, pair_of, bytes_of, bits_of, frame_of}
use Rattle.formatter_frames.specs.Pieces.{pieces}
use Rattle.formatter_frames.specs.Framed.{whole_frames, begun, filling, filled, framed}
use Rattle.formatter_frames.proofs.Pieces.{length-left_over}
use Rattle.formatter_frames.proofs.Places.{length-bytes_of}
use Rattle.sync_frames.specs.Synced.{IsSourcePair, NoFFAtEven}

-- an ID that is no reserved one
abbrev pub IsSourceSymbol : Symbol → Type 0
IsSourceSymbol (NewId id) = id ≤ 111
IsSourceSymbol (Data byte) = ⊤

told_of_source : (current : Option ℕ) (id : ℕ) → id ≤ 111 → All IsSourceSymbol (told current id)
told_of_source None id few = All-cons IsSourceSymbol (NewId id) [] few (All-nil IsSourceSymbol)
told_of_source (Some current) id few = elim (cases_Bool (current == id)) [
  | inl same ↦ rw same (All-nil IsSourceSymbol)
  | inr other ↦ rw other (All-cons IsSourceSymbol (NewId id) [] few (All-nil IsSourceSymbol))
]

symbols_of_sources : (current : Option ℕ) (pairs : List (ℕ × ℕ)) → All IsSourcePair pairs → All IsSourceSymbol (symbols_of current pairs)
symbols_of_sources current [] fit = All-nil IsSourceSymbol
symbols_of_sources current (pair ∷ pairs) fit =
    let first = All-head IsSourcePair pair pairs fit in
    let rest = symbols_of (Some pair.0) pairs in
    All-append IsSourceSymbol (told current pair.0) (Data pair.1 ∷ rest) (told_of_source current pair.0 first.1)
    (All-cons IsSourceSymbol (Data pair.1) rest tt (symbols_of_sources (Some pair.0) pairs (All-tail IsSourcePair pair pairs fit)))

mixed_not_ff : (x : Symbol) → IsSourceSymbol x → mixed_byte x ≢ 255
mixed_not_ff (NewId id) ids = omega arith
mixed_not_ff (Data byte) ids = omega arith

pair_not_ff : (x y : Symbol) → IsSourceSymbol x → IsSourceSymbol y → (pair_of x y).mixed ≢ 255
pair_not_ff x (NewId id) first second = omega arith
pair_not_ff x (Data byte) first second = mixed_not_ff x first

bytes_not_ff : (xs : List Symbol) → All IsSourceSymbol xs → NoFFAtEven (bytes_of xs)
bytes_not_ff [] ids = tt
bytes_not_ff (x ∷ []) ids = mixed_not_ff x (All-head IsSourceSymbol x [] ids)
bytes_not_ff (x ∷ y ∷ xs) ids =
    let rest = All-tail IsSourceSymbol x (y ∷ xs) ids in
    (pair_not_ff x y (All-head IsSourceSymbol x (y ∷ xs) ids) (All-head IsSourceSymbol y xs rest), bytes_not_ff xs (All-tail IsSourceSymbol y xs rest))

-- a byte behind an odd number of others stands at an odd place
odd_end : (xs : List ℕ) (z : ℕ) → length xs % 2 ≡ 1 → NoFFAtEven xs → NoFFAtEven (xs ++ z ∷ [])
odd_end [] z odd ids = absurd (omega arith)
odd_end (a ∷ []) z odd ids = (ids, tt)
odd_end (a ∷ b ∷ xs) z odd ids = (ids.0, odd_end xs z (omega arith) ids.1)

even_append : (xs ys : List ℕ) → length xs % 2 ≡ 0 → NoFFAtEven xs → NoFFAtEven ys → NoFFAtEven (xs ++ ys)
even_append [] ys even first second = second
even_append (a ∷ []) ys even first second = absurd (omega arith)
even_append (a ∷ b ∷ xs) ys even first second = (first.0, even_append xs ys (omega arith) first.1 second)

frame_not_ff : (xs : List Symbol) → length xs ≡ 15 → All IsSourceSymbol xs → NoFFAtEven (frame_of xs)
frame_not_ff xs long ids = odd_end (bytes_of xs) (bits_of xs) (omega (arith, length-bytes_of xs)) (bytes_not_ff xs ids)

frame_even : (xs : List Symbol) → length xs ≡ 15 → length (frame_of xs) % 2 ≡ 0
frame_even xs long = omega (arith, length-append (bytes_of xs) (bits_of xs ∷ []), length-bytes_of xs)

frames_not_ff : (n : ℕ) (xs : List Symbol) → n * 15 ≤ length xs → All IsSourceSymbol xs
    → NoFFAtEven (flat_map frame_of (pieces 15 n xs)) × (length (flat_map frame_of (pieces 15 n xs)) % 2 ≡ 0)
frames_not_ff zero xs long ids = (tt, refl)
frames_not_ff (suc n) xs long ids =
    let first = take 15 xs in
    let size : length (take 15 xs) ≡ 15 = omega (arith, length-take 15 xs) in
    let others = flat_map frame_of (pieces 15 n (drop 15 xs)) in
    let rest = frames_not_ff n (drop 15 xs) (omega (arith, length-drop 15 xs)) (All-drop IsSourceSymbol 15 xs ids) in (
      even_append (frame_of first) others (frame_even first size) (frame_not_ff first size (All-take IsSourceSymbol 15 xs ids)) rest.0,
      omega (arith, length-append (frame_of first) others, frame_even first size, rest.1),
    )

filled_not_ff : (xs : List Symbol) → length xs < 15 → All IsSourceSymbol xs → NoFFAtEven (filled xs)
filled_not_ff [] few ids = tt
filled_not_ff (x ∷ xs) few ids =
    let zeros = replicate (14 - length (x ∷ xs)) (Data 0) in
    let size : length ((x ∷ xs) ++ filling (length (x ∷ xs))) ≡ 15 =
    omega (arith, length-append (x ∷ xs) (filling (length (x ∷ xs))), length-replicate (14 - length (x ∷ xs)) (Data 0)) in
    frame_not_ff ((x ∷ xs) ++ filling (length (x ∷ xs))) size
    (All-append IsSourceSymbol (x ∷ xs) (NewId 0 ∷ zeros) ids
    (All-cons IsSourceSymbol (NewId 0) zeros (omega arith) (All-replicate IsSourceSymbol (14 - length (x ∷ xs)) (Data 0) tt)))

pub framed_not_ff : (pairs : List (ℕ × ℕ)) → All IsSourcePair pairs → NoFFAtEven (framed pairs)
framed_not_ff pairs fit =
    let symbols = symbols_of None pairs in
    let all = symbols_of_sources None pairs fit in
    let whole = frames_not_ff (length symbols / 15) symbols (omega arith) all in
    even_append (whole_frames pairs) (filled (begun pairs)) whole.1 whole.0
    (filled_not_ff (begun pairs) (omega (arith, length-left_over 15 symbols)) (All-drop IsSourceSymbol (length symbols / 15 * 15) symbols all))
