-- What frames of bytes carry is in its ranges.
use Rattle.std.proofs.Common.{◌≡◌, ℕ, zero, suc, ◌*◌, ◌/◌, ◌%◌, ◌<◌, ◌≤◌, List, [], ◌∷◌, length, take, drop, get_or, arith, inl, inr}
use Rattle.std.proofs.Common.{length-take, length-drop}
use Rattle.std.specs.Prelude.{Option, Some, None, IfSome, All, flat_map, ◌==◌, ◌&&◌}
use Rattle.std.proofs.lemmas.Bool.{cases_Bool}
use Rattle.std.proofs.Math.Nat.{div-mul-le_self}
use Rattle.std.proofs.lemmas.List.Elements.{All-nil, All-cons, All-head, All-tail, All-append, All-same, All-take, All-drop}
use Rattle.formatter_frames.specs.declared.symbol.Symbol.{Symbol}
use Rattle.formatter_frames.specs.declared.symbol.Symbol.TheVariants.{NewId, Data}
use Rattle.formatter_frames.specs.declared.frame.BytePair.{BytePair}
use Rattle.formatter_frames.specs.Symbols.{pairs_of}
use Rattle.formatter_frames.specs.Frame.{mixed_symbol, pair_symbols, symbols_in}
use Rattle.formatter_frames.specs.Framed.{IsPair, IsByte}
use Rattle.formatter_frames.specs.Pieces.{pieces}
use Rattle.formatter_frames.specs.Unframed.{symbols_of_frames, unframed}
use Rattle.formatter_frames.proofs.Places.{symbols_at, symbols_in_is}
use Rattle.formatter_frames.proofs.Bytes.{IsSymbol}

mixed_fits : (mixed bit : ℕ) → mixed < 256 → bit < 2 → IsSymbol (mixed_symbol mixed bit)
mixed_fits mixed bit fits small = elim (cases_Bool (mixed % 2 == 0)) [
  | inl even ↦ rw even (grind arith)
  | inr odd ↦ rw odd (omega arith)
]

pair_fits : (pair : BytePair) → pair.mixed < 256 → pair.data < 256 → pair.bit < 2
    → IsSymbol (pair_symbols pair).0 × IsSymbol (pair_symbols pair).1
pair_fits pair mixed «data» bit = elim (cases_Bool ((pair.mixed % 2 == 1) && (pair.bit == 1))) [
  | inl later ↦ rw later («data», omega arith)
  | inr at_once ↦ rw at_once (mixed_fits pair.mixed pair.bit mixed bit, «data»)
]

symbols_fit : (bits : ℕ) (bytes : List ℕ) → All IsByte bytes → All IsSymbol (symbols_at bits bytes)
symbols_fit bits [] fit = All-nil IsSymbol
symbols_fit bits (mixed ∷ []) fit =
    All-cons IsSymbol (mixed_symbol mixed (bits % 2)) [] (mixed_fits mixed (bits % 2) (All-head IsByte mixed [] fit) (omega arith)) (All-nil IsSymbol)
symbols_fit bits (mixed ∷ second ∷ bytes) fit =
    let pair : BytePair = record { mixed = mixed; «data» = second; bit = bits % 2 } in
    let rest = All-tail IsByte mixed (second ∷ bytes) fit in
    let both = pair_fits pair (All-head IsByte mixed (second ∷ bytes) fit) (All-head IsByte second bytes rest) (omega arith) in
    let symbols = pair_symbols pair in
    let more = symbols_at (bits / 2) bytes in
    All-cons IsSymbol symbols.0 (symbols.1 ∷ more) both.0
    (All-cons IsSymbol symbols.1 more both.1 (symbols_fit (bits / 2) bytes (All-tail IsByte second bytes rest)))

frame_fits : (frame : List ℕ) → length frame ≡ 16 → All IsByte frame → All IsSymbol (symbols_in frame)
frame_fits frame long fit =
    All-same IsSymbol (symbols_in frame) (symbols_at (get_or frame 15 0) (take 15 frame)) (symbols_in_is frame long)
    (symbols_fit (get_or frame 15 0) (take 15 frame) (All-take IsByte 15 frame fit))

frames_fit : (n : ℕ) (bytes : List ℕ) → n * 16 ≤ length bytes → All IsByte bytes → All IsSymbol (flat_map symbols_in (pieces 16 n bytes))
frames_fit zero bytes long fit = All-nil IsSymbol
frames_fit (suc n) bytes long fit =
    All-append IsSymbol (symbols_in (take 16 bytes)) (flat_map symbols_in (pieces 16 n (drop 16 bytes)))
    (frame_fits (take 16 bytes) (omega (arith, length-take 16 bytes)) (All-take IsByte 16 bytes fit))
    (frames_fit n (drop 16 bytes) (omega (arith, length-drop 16 bytes)) (All-drop IsByte 16 bytes fit))

pairs_fit : (current : Option ℕ) (xs : List Symbol) → IfSome current (λ id. id < 128) → All IsSymbol xs → All IsPair (pairs_of current xs)
pairs_fit current [] held fit = All-nil IsPair
pairs_fit current (NewId id ∷ xs) held fit = pairs_fit (Some id) xs (All-head IsSymbol (NewId id) xs fit) (All-tail IsSymbol (NewId id) xs fit)
pairs_fit None (Data byte ∷ xs) held fit = pairs_fit None xs tt (All-tail IsSymbol (Data byte) xs fit)
pairs_fit (Some id) (Data byte ∷ xs) held fit =
    All-cons IsPair (id, byte) (pairs_of (Some id) xs) (held, All-head IsSymbol (Data byte) xs fit)
    (pairs_fit (Some id) xs held (All-tail IsSymbol (Data byte) xs fit))

pub unframed_fits : (bytes : List ℕ) → All IsByte bytes → All IsPair (unframed bytes)
unframed_fits bytes fit =
    pairs_fit None (symbols_of_frames bytes) tt (frames_fit (length bytes / 16) bytes (div-mul-le_self (length bytes) 16) fit)
