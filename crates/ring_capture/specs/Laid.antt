-- A capture buffer that was written round, as a layout of its bytes. The proofs stand here since an `impl` names them.
use Rattle.std.proofs.Common.{◌≡◌, ℕ, zero, suc, ◌*◌, ◌/◌, ◌≤◌, List, [], ◌∷◌, ◌++◌, length, take, drop}
use Rattle.std.proofs.Common.{refl, ap, ◌∙◌, arith, length-append}
use Rattle.std.proofs.lemmas.List.{drop_all, length-take-le, take-append-le}
use Rattle.capture_streams.specs.Laid.{Grow, IsLaid, Laid}
use Rattle.formatter_frames.proofs.Going.{more_pairs}
use Rattle.formatter_frames.specs.Symbols.{pairs_of}
use Rattle.formatter_frames.specs.Unframed.{begun_frame, id_after_frames, symbols_of_frames, unframed}
use Rattle.ring_capture.specs.Rotated.{first_frames, later_frames, rotated, whole_frames}

-- what the frames from frame k on carry, which come with the bytes
abbrev pub later_pairs : ℕ → List ℕ → List (ℕ × ℕ)
later_pairs k bytes = unframed (later_frames k bytes)

-- and all of them, the oldest frame first, once no more bytes come
abbrev pub wrapped_laid : ℕ → Laid
wrapped_laid k = record { carried = later_pairs k; whole = λ bytes. unframed (rotated k bytes); left = λ bytes. length (begun_frame bytes) }

-- ---- it is a layout

front_of : (m n : ℕ) (xs : List ℕ) → m ≤ n → (rest : List ℕ) × (take n xs ≡ take m xs ++ rest)
front_of zero n xs le = (take n xs, refl)
front_of (suc m) zero xs le = absurd (omega (arith, le))
front_of (suc m) (suc n) [] le = ([], refl)
front_of (suc m) (suc n) (x ∷ xs) le = let f = front_of m n xs (omega (arith, le)) in (f.0, ap (λ l. x ∷ l) f.1)

whole_grows : (bytes more : List ℕ) → (rest : List ℕ) × (whole_frames (bytes ++ more) ≡ whole_frames bytes ++ rest)
whole_grows bytes more =
    let size = length-append bytes more in
    let m = length bytes / 16 * 16 in
    let f = front_of m (length (bytes ++ more) / 16 * 16) (bytes ++ more) (omega (arith, size)) in
    (f.0, f.1 ∙ ap (λ l. l ++ f.0) (take-append-le m bytes more (omega arith)))

drop_grows : (n : ℕ) (xs ys : List ℕ) → (rest : List ℕ) × (drop n (xs ++ ys) ≡ drop n xs ++ rest)
drop_grows zero xs ys = (ys, refl)
drop_grows (suc n) [] ys = (drop (suc n) ys, refl)
drop_grows (suc n) (x ∷ xs) ys = drop_grows n xs ys

pub later_none : (k : ℕ) → later_frames k [] ≡ []
later_none k = drop_all (16 * k) (whole_frames []) (omega (arith, length-take-le {A = ℕ} 0 [] (omega arith)))

pub later_grows : (k : ℕ) (bytes more : List ℕ) → (rest : List ℕ) × (later_frames k (bytes ++ more) ≡ later_frames k bytes ++ rest)
later_grows k bytes more =
    let w = whole_grows bytes more in
    let d = drop_grows (16 * k) (whole_frames bytes) w.0 in
    (d.0, ap (drop (16 * k)) w.1 ∙ d.1)

later_carried : (k : ℕ) → Grow (later_pairs k)
later_carried k = (
  ap unframed (later_none k),
  λ bytes more.
      let front = later_frames k bytes in
      let l = later_grows k bytes more in
      (pairs_of (id_after_frames front) (symbols_of_frames (begun_frame front ++ l.0)), ap unframed l.1 ∙ more_pairs front l.0),
)

first_carried : (k : ℕ) (bytes : List ℕ) → (pairs : List (ℕ × ℕ)) × (unframed (rotated k bytes) ≡ later_pairs k bytes ++ pairs)
first_carried k bytes =
    let front = later_frames k bytes in
    let rest = first_frames k bytes ++ begun_frame bytes in
    (pairs_of (id_after_frames front) (symbols_of_frames (begun_frame front ++ rest)), more_pairs front rest)

pub wrapped_laid_is : (k : ℕ) → IsLaid (wrapped_laid k)
wrapped_laid_is k = record { grows = later_carried k; first = first_carried k }
