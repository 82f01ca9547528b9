-- What the frames behind missing ones carry: an end of all that is carried.
use Rattle.std.proofs.Common.{◌≡◌, ℕ, zero, suc, ◌+◌, ◌-◌, ◌*◌, ◌/◌, ◌%◌, ◌<◌, ◌≤◌, List, [], ◌∷◌, ◌++◌, length, take, drop, Option, Some, None}
use Rattle.std.proofs.Common.{refl, sym, ap, subst, ◌∙◌, inl, inr, arith, append_assoc, append-nil}
use Rattle.std.specs.Prelude.{flat_map}
use Rattle.std.proofs.lemmas.Bool.{cases_lt}
use Rattle.std.proofs.lemmas.List.{drop_all, drop-drop, take-append-drop, length-take-le}
use Rattle.formatter_frames.specs.declared.symbol.Symbol.{Symbol}
use Rattle.formatter_frames.specs.declared.symbol.Symbol.TheVariants.{NewId, Data}
use Rattle.formatter_frames.specs.Symbols.{pairs_of, id_after}
use Rattle.formatter_frames.specs.Frame.{symbols_in}
use Rattle.formatter_frames.specs.Unframed.{symbols_of_frames, unframed}
use Rattle.formatter_frames.specs.Pieces.{whole_pieces, left_over}
use Rattle.formatter_frames.proofs.Pieces.{whole_pieces-append, few_whole, one_whole, one_left}
use Rattle.ring_capture.specs.Ends.{EndsWith}

-- ---- symbols

pairs_append : (current : Option ℕ) (xs ys : List Symbol) → pairs_of current (xs ++ ys) ≡ pairs_of current xs ++ pairs_of (id_after current xs) ys
pairs_append current [] ys = refl
pairs_append current (NewId id ∷ xs) ys = pairs_append (Some id) xs ys
pairs_append None (Data byte ∷ xs) ys = pairs_append None xs ys
pairs_append (Some id) (Data byte ∷ xs) ys = ap (λ l. (id, byte) ∷ l) (pairs_append (Some id) xs ys)

-- with no ID at first, bytes are passed over up to the first ID
without_id : (current : Option ℕ) (xs : List Symbol) → EndsWith (pairs_of None xs) (pairs_of current xs)
without_id current [] = ([], refl)
without_id current (NewId id ∷ xs) = ([], refl)
without_id None (Data byte ∷ xs) = ([], refl)
without_id (Some id) (Data byte ∷ xs) = let rest = without_id (Some id) xs in ((id, byte) ∷ rest.0, ap (λ l. (id, byte) ∷ l) rest.1)

symbols_end : (front xs : List Symbol) → EndsWith (pairs_of None xs) (pairs_of None (front ++ xs))
symbols_end front xs =
    let rest = without_id (id_after None front) xs in
    let before = pairs_of None front in
    (before ++ rest.0, pairs_append None front xs ∙ ap (λ l. before ++ l) rest.1 ∙ sym (append_assoc before rest.0 (pairs_of None xs)))

-- ---- frames

one_frame : (bytes : List ℕ) → 16 ≤ length bytes → whole_pieces 16 bytes ≡ take 16 bytes ∷ whole_pieces 16 (drop 16 bytes)
one_frame bytes le =
    let some : 0 < 16 = omega arith in
    let size : length (take 16 bytes) ≡ 16 = length-take-le 16 bytes le in
    ap (whole_pieces 16) (sym (take-append-drop 16 bytes)) ∙ whole_pieces-append 16 (take 16 bytes) (drop 16 bytes) some
    ∙ ap (λ l. l ++ whole_pieces 16 (left_over 16 (take 16 bytes) ++ drop 16 bytes)) (one_whole 16 (take 16 bytes) some size)
    ∙ ap (λ l. take 16 bytes ∷ whole_pieces 16 (l ++ drop 16 bytes)) (one_left 16 (take 16 bytes) some size)

next_place : (n : ℕ) (bytes : List ℕ) → drop (16 * n) (drop 16 bytes) ≡ drop (16 * suc n) bytes
next_place n bytes = drop-drop (16 * n) 16 bytes ∙ ap (λ k. drop k bytes) (let e : 16 + 16 * n ≡ 16 * suc n = omega arith in e)

none_whole : whole_pieces {A = ℕ} 16 [] ≡ []
none_whole = few_whole 16 [] (omega arith)

frames_end : (n : ℕ) (bytes : List ℕ) → EndsWith (symbols_of_frames (drop (16 * n) bytes)) (symbols_of_frames bytes)
frames_end zero bytes = ([], ap (λ k. symbols_of_frames (drop k bytes)) (let e : 0 ≡ 16 * 0 = omega arith in e))
frames_end (suc n) bytes = elim (cases_lt (length bytes) 16) [
  | inl few ↦
      let none : drop (16 * suc n) bytes ≡ [] = drop_all (16 * suc n) bytes (omega (arith, few)) in
      let nothing : symbols_of_frames (drop (16 * suc n) bytes) ≡ [] = ap symbols_of_frames none ∙ ap (λ l. flat_map symbols_in l) none_whole in
      (symbols_of_frames bytes, sym (append-nil (symbols_of_frames bytes)) ∙ ap (λ l. symbols_of_frames bytes ++ l) (sym nothing))
  | inr le ↦
      let rest = frames_end n (drop 16 bytes) in
      let first = symbols_in (take 16 bytes) in (
        first ++ rest.0,
        ap (λ l. flat_map symbols_in l) (one_frame bytes le) ∙ ap (λ l. first ++ l) rest.1
            ∙ sym (append_assoc first rest.0 _) ∙ ap (λ l. (first ++ rest.0) ++ symbols_of_frames l) (next_place n bytes),
      )
]

pub any_end : (bytes : List ℕ) (n : ℕ) → EndsWith (unframed (drop (16 * n) bytes)) (unframed bytes)
any_end bytes n =
    let f = frames_end n bytes in
    subst (λ l. EndsWith (unframed (drop (16 * n) bytes)) (pairs_of None l)) (sym f.1) (symbols_end f.0 (symbols_of_frames (drop (16 * n) bytes)))

-- and so of the last n frames
pub last_end : (bytes : List ℕ) (n : ℕ) → length bytes % 16 ≡ 0 → EndsWith (unframed (drop (length bytes - 16 * n) bytes)) (unframed bytes)
last_end bytes n is =
    let m = length bytes / 16 in
    let there : 16 * (m - n) ≡ length bytes - 16 * n = omega (arith, is) in
    subst (λ k. EndsWith (unframed (drop k bytes)) (unframed bytes)) there (any_end bytes (m - n))
