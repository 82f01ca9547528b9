-- The frames that a writer writes.
use Rattle.std.proofs.Common.{◌≡◌, ℕ, ◌+◌, ◌<◌, List, [], ◌∷◌, ◌++◌, length, take, refl, ap, sym, ◌∙◌, arith, lit<, append-nil, append_assoc, length-append}
use Rattle.std.specs.Prelude.{None, flat_map, Result, Ok, Err, OnOk, is_err}
use Rattle.std.proofs.Math.ListN.{set, length-set}
use Rattle.std.proofs.Math.Seq.{take-length}
use Rattle.std.proofs.lemmas.List.{take_more_set}
use Rattle.std.proofs.lemmas.List.Concat.{flat_map-append}
use Rattle.std.proofs.KnownBytes.{Appends-trans}
use Rattle.trace_io.specs.State.{IoState}
use Rattle.trace_io.specs.Bytes.{AppendsAll, AppendsShorter}
use Rattle.formatter_frames.specs.declared.symbol.Symbol.{Symbol}
use Rattle.formatter_frames.specs.declared.symbol.Symbol.TheVariants.{Data}
use Rattle.formatter_frames.specs.Symbols.{told, symbols_of, id_after}
use Rattle.formatter_frames.specs.Frame.{frame_of}
use Rattle.formatter_frames.specs.Pieces.{whole_pieces, left_over}
use Rattle.formatter_frames.specs.Framed.{frames_of, whole_frames, begun, filling, filled}
use Rattle.formatter_frames.specs.Writer.{Begun, StandsAt}
use Rattle.formatter_frames.proofs.Symbols.{symbols_of-push}
use Rattle.formatter_frames.proofs.Pieces.{whole_pieces-append, left_over-append, one_whole, one_left}

pub frames_of-append : (xs ys : List Symbol) → frames_of (xs ++ ys) ≡ frames_of xs ++ frames_of (left_over 15 xs ++ ys)
frames_of-append xs ys = ap (flat_map frame_of) (whole_pieces-append 15 xs ys (lit< tt))
    ∙ flat_map-append frame_of (whole_pieces 15 xs) (whole_pieces 15 (left_over 15 xs ++ ys))

pub frames_of_full : (xs : List Symbol) → length xs ≡ 15 → frames_of xs ≡ frame_of xs
frames_of_full xs full = ap (flat_map frame_of) (one_whole 15 xs (lit< tt) full) ∙ append-nil (frame_of xs)

-- the last place is taken
pub placed : (symbols front : List Symbol) (count : ℕ) (symbol : Symbol) → take count symbols ≡ front → length symbols ≡ 15 → count + 1 ≡ 15
    → set symbols count symbol ≡ front ++ symbol ∷ []
placed symbols front count symbol is long last =
    let within : count < length symbols = omega arith in
    let size : length (set symbols count symbol) ≡ count + 1 = omega (arith, length-set symbols count symbol) in
    sym (take-length (set symbols count symbol)) ∙ ap (λ n. take n (set symbols count symbol)) size ∙ take_more_set symbols count symbol within
    ∙ ap (λ xs. xs ++ symbol ∷ []) is

-- the frame is full then
pub frame_filled : (symbols front : List Symbol) (count : ℕ) (symbol : Symbol) → take count symbols ≡ front → length symbols ≡ 15 → count + 1 ≡ 15
    → (frame_of (set symbols count symbol) ≡ frames_of (front ++ symbol ∷ [])) × (left_over 15 (front ++ symbol ∷ []) ≡ [])
frame_filled symbols front count symbol is long last =
    let full = placed symbols front count symbol is long last in
    let size : length (front ++ symbol ∷ []) ≡ 15 = ap length (sym full) ∙ length-set symbols count symbol ∙ long in
    (ap frame_of full ∙ sym (frames_of_full (front ++ symbol ∷ []) size), one_left 15 (front ++ symbol ∷ []) (lit< tt) size)

-- the symbols of one pair more, on what a writer holds
pair_symbols_are : (writer : Begun) (pairs : List (ℕ × ℕ)) (id byte : ℕ) → StandsAt writer pairs
    → symbols_of None (pairs ++ (id, byte) ∷ []) ≡ symbols_of None pairs ++ (told writer.current id ++ Data byte ∷ [])
pair_symbols_are writer pairs id byte at = symbols_of-push None pairs (id, byte) ∙ rw at.current refl

pub begun-push : (writer : Begun) (pairs : List (ℕ × ℕ)) (id byte : ℕ) (mid next : List Symbol) → StandsAt writer pairs
    → mid ≡ left_over 15 (writer.symbols ++ told writer.current id) → next ≡ left_over 15 (mid ++ Data byte ∷ []) → next ≡ begun (pairs ++ (id, byte) ∷ [])
begun-push writer pairs id byte mid next at first second =
    let t = told writer.current id in
    let d = Data byte ∷ [] in
    second
    ∙ ap (λ xs. left_over 15 (xs ++ d)) first
    ∙ sym (left_over-append 15 (writer.symbols ++ t) d (lit< tt))
    ∙ ap (left_over 15) (append_assoc writer.symbols t d)
    ∙ ap (λ xs. left_over 15 (xs ++ (t ++ d))) at.symbols
    ∙ sym (left_over-append 15 (symbols_of None pairs) (t ++ d) (lit< tt))
    ∙ ap (left_over 15) (sym (pair_symbols_are writer pairs id byte at))

pub whole_frames-push : (writer : Begun) (pairs : List (ℕ × ℕ)) (id byte : ℕ) (mid : List Symbol) → StandsAt writer pairs
    → mid ≡ left_over 15 (writer.symbols ++ told writer.current id)
    → whole_frames (pairs ++ (id, byte) ∷ [])
    ≡ whole_frames pairs ++ (frames_of (writer.symbols ++ told writer.current id) ++ frames_of (mid ++ Data byte ∷ []))
whole_frames-push writer pairs id byte mid at first =
    let t = told writer.current id in
    let d = Data byte ∷ [] in
    ap frames_of (pair_symbols_are writer pairs id byte at)
    ∙ frames_of-append (symbols_of None pairs) (t ++ d)
    ∙ ap (λ xs. frames_of (symbols_of None pairs) ++ xs)
    (ap (λ xs. frames_of (xs ++ (t ++ d))) (sym at.symbols)
    ∙ ap frames_of (sym (append_assoc writer.symbols t d))
    ∙ frames_of-append (writer.symbols ++ t) d
    ∙ ap (λ xs. frames_of (writer.symbols ++ t) ++ frames_of (xs ++ d)) (sym first))

-- the last frame, where one was begun
pub filled_some : (symbols : List Symbol) → 0 < length symbols → filled symbols ≡ frame_of (symbols ++ filling (length symbols))
filled_some [] some = absurd (omega arith)
filled_some (symbol ∷ symbols) some = refl

-- a shorter front of the first part, and of the second
pub shorter_first : (old new : IoState) (xs ys : List ℕ) → AppendsShorter old new xs → AppendsShorter old new (xs ++ ys)
shorter_first old new xs ys some = record {
  front = some.front;
  rest = some.rest ++ ys;
  whole = ap (λ zs. zs ++ ys) some.whole ∙ append_assoc some.front some.rest ys;
  appended = some.appended;
  shorter = omega (arith, some.shorter, length-append some.rest ys);
}

pub shorter_second : (old mid new : IoState) (xs ys : List ℕ) → AppendsAll old mid xs → AppendsShorter mid new ys → AppendsShorter old new (xs ++ ys)
shorter_second old mid new xs ys all some = record {
  front = xs ++ some.front;
  rest = some.rest;
  whole = ap (λ zs. xs ++ zs) some.whole ∙ sym (append_assoc xs some.front some.rest);
  appended = Appends-trans old.bytes mid.bytes new.bytes xs some.front all some.appended;
  shorter = some.shorter;
}

-- where a call failed, a writer stands at nothing
pub stands : {T E : Type 0} (result : Result T E) (writer : Begun) (pairs : List (ℕ × ℕ)) → OnOk result (writer.symbols ≡ begun pairs)
    → writer.current ≡ id_after None (symbols_of None pairs) → writer.failed ≡ is_err result → OnOk result (StandsAt writer pairs)
stands (Ok _) writer pairs symbols current fails = record { symbols = symbols; current = current; not_failed = fails }
stands (Err _) writer pairs symbols current fails = tt

-- a list that did not grow got nothing
pub no_growth : (xs ys : List ℕ) → xs ++ ys ≡ xs → ys ≡ []
no_growth xs [] same = refl
no_growth xs (y ∷ ys) same = absurd (omega (arith, length-append xs (y ∷ ys), ap length same))

pub none_first : (xs ys : List ℕ) → xs ++ ys ≡ [] → (xs ≡ []) × (ys ≡ [])
none_first [] ys none = (refl, none)
none_first (x ∷ xs) ys none = absurd (omega (arith, ap length none))
