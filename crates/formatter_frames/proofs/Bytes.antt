-- Frames are bytes.
use Rattle.std.proofs.Common.{ℕ, zero, suc, ◌-◌, ◌*◌, ◌/◌, ◌<◌, ◌≤◌, List, []}
use Rattle.std.proofs.Common.{◌∷◌, ◌++◌, length, take, drop, arith, lit<, inl, inr, length-take, length-append}
use Rattle.std.specs.Prelude.{Option, Some, None, All, flat_map, replicate, ◌==◌}
use Rattle.std.proofs.lemmas.Bool.{cases_Bool}
use Rattle.std.proofs.lemmas.List.Elements.{All-nil, All-cons, All-head, All-tail, All-append, All-take, All-drop, All-replicate}
use Rattle.formatter_frames.specs.declared.symbol.Symbol.{Symbol}
use Rattle.formatter_frames.specs.declared.symbol.Symbol.TheVariants.{NewId, Data}
use Rattle.formatter_frames.specs.Symbols.{told, symbols_of}
use Rattle.formatter_frames.specs.Frame.{mixed_byte, data_byte, pair_of, bytes_of, bits_of, frame_of}
use Rattle.formatter_frames.specs.Pieces.{pieces}
use Rattle.formatter_frames.specs.Framed.{IsPair, IsByte, whole_frames, begun, filling, filled, framed}
use Rattle.std.proofs.lemmas.List.{length-replicate}
use Rattle.formatter_frames.proofs.Pieces.{length-left_over}
use Rattle.formatter_frames.proofs.Places.{bits_fit}

abbrev pub IsSymbol : Symbol → Type 0
IsSymbol (NewId id) = id < 128
IsSymbol (Data byte) = byte < 256

told_fits : (current : Option ℕ) (id : ℕ) → id < 128 → All IsSymbol (told current id)
told_fits None id fits = All-cons IsSymbol (NewId id) [] fits (All-nil IsSymbol)
told_fits (Some current) id fits = elim (cases_Bool (current == id)) [
  | inl same ↦ rw same (All-nil IsSymbol)
  | inr other ↦ rw other (All-cons IsSymbol (NewId id) [] fits (All-nil IsSymbol))
]

symbols_fit : (current : Option ℕ) (pairs : List (ℕ × ℕ)) → All IsPair pairs → All IsSymbol (symbols_of current pairs)
symbols_fit current [] fit = All-nil IsSymbol
symbols_fit current (pair ∷ pairs) fit =
    let first = All-head IsPair pair pairs fit in
    let rest = symbols_of (Some pair.0) pairs in
    All-append IsSymbol (told current pair.0) (Data pair.1 ∷ rest) (told_fits current pair.0 first.0)
    (All-cons IsSymbol (Data pair.1) rest first.1 (symbols_fit (Some pair.0) pairs (All-tail IsPair pair pairs fit)))

mixed_fits : (x : Symbol) → IsSymbol x → IsByte (mixed_byte x)
mixed_fits (NewId id) fits = omega arith
mixed_fits (Data byte) fits = omega arith

data_fits : (x : Symbol) → IsSymbol x → IsByte (data_byte x)
data_fits (NewId id) fits = omega arith
data_fits (Data byte) fits = fits

pair_fits : (x y : Symbol) → IsSymbol x → IsSymbol y → IsByte (pair_of x y).mixed × IsByte (pair_of x y).data
pair_fits x (NewId id) first second = (omega arith, data_fits x first)
pair_fits x (Data byte) first second = (mixed_fits x first, second)

bytes_fit : (xs : List Symbol) → All IsSymbol xs → All IsByte (bytes_of xs)
bytes_fit [] fit = All-nil IsByte
bytes_fit (x ∷ []) fit = All-cons IsByte (mixed_byte x) [] (mixed_fits x (All-head IsSymbol x [] fit)) (All-nil IsByte)
bytes_fit (x ∷ y ∷ xs) fit =
    let rest = All-tail IsSymbol x (y ∷ xs) fit in
    let both = pair_fits x y (All-head IsSymbol x (y ∷ xs) fit) (All-head IsSymbol y xs rest) in
    All-cons IsByte (pair_of x y).mixed ((pair_of x y).data ∷ bytes_of xs) both.0
    (All-cons IsByte (pair_of x y).data (bytes_of xs) both.1 (bytes_fit xs (All-tail IsSymbol y xs rest)))

frame_fits : (xs : List Symbol) → length xs ≤ 15 → All IsSymbol xs → All IsByte (frame_of xs)
frame_fits xs few fit =
    All-append IsByte (bytes_of xs) (bits_of xs ∷ []) (bytes_fit xs fit) (All-cons IsByte (bits_of xs) [] (bits_fit xs 8 (omega arith)) (All-nil IsByte))

frames_fit : (n : ℕ) (xs : List Symbol) → All IsSymbol xs → All IsByte (flat_map frame_of (pieces 15 n xs))
frames_fit zero xs fit = All-nil IsByte
frames_fit (suc n) xs fit =
    All-append IsByte (frame_of (take 15 xs)) (flat_map frame_of (pieces 15 n (drop 15 xs)))
    (frame_fits (take 15 xs) (omega (arith, length-take 15 xs)) (All-take IsSymbol 15 xs fit)) (frames_fit n (drop 15 xs) (All-drop IsSymbol 15 xs fit))

filled_fits : (xs : List Symbol) → length xs < 15 → All IsSymbol xs → All IsByte (filled xs)
filled_fits [] few fit = All-nil IsByte
filled_fits (x ∷ xs) few fit =
    let zeros = replicate (14 - length (x ∷ xs)) (Data 0) in
    let size : length ((x ∷ xs) ++ filling (length (x ∷ xs))) ≤ 15 =
    omega (arith, length-append (x ∷ xs) (filling (length (x ∷ xs))), length-replicate (14 - length (x ∷ xs)) (Data 0)) in
    frame_fits ((x ∷ xs) ++ filling (length (x ∷ xs))) size
    (All-append IsSymbol (x ∷ xs) (NewId 0 ∷ zeros) fit
    (All-cons IsSymbol (NewId 0) zeros (lit< tt) (All-replicate IsSymbol (14 - length (x ∷ xs)) (Data 0) (lit< tt))))

pub framed_fits : (pairs : List (ℕ × ℕ)) → All IsPair pairs → All IsByte (framed pairs)
framed_fits pairs fit =
    let symbols = symbols_of None pairs in
    let all = symbols_fit None pairs fit in
    All-append IsByte (whole_frames pairs) (filled (begun pairs)) (frames_fit (length symbols / 15) symbols all)
    (filled_fits (begun pairs) (omega (arith, length-left_over 15 symbols)) (All-drop IsSymbol (length symbols / 15 * 15) symbols all))
