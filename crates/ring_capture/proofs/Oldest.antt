-- A capture buffer that is read from its oldest frame on.
use Rattle.std.proofs.Common.{◌≡◌, ℕ, ◌+◌, ◌*◌, ◌/◌, ◌%◌, ◌<◌, List, [], ◌++◌, length, drop}
use Rattle.std.proofs.Common.{ap, ◌∙◌, inl, inr, arith, length-append}
use Rattle.std.proofs.Math.Seq.{drop-append-add}
use Rattle.std.proofs.lemmas.Bool.{cases_lt}
use Rattle.std.proofs.lemmas.List.{drop_all, length-drop, length-take-le, take-append-drop, take_all}
use Rattle.formatter_frames.specs.Unframed.{begun_frame}
use Rattle.formatter_frames.proofs.Pieces.{length-left_over}
use Rattle.ring_capture.specs.Rotated.{first_frames, later_frames, rotated, whole_frames}

-- ---- the whole frames

whole_count : (bytes : List ℕ) → length (whole_frames bytes) ≡ length bytes / 16 * 16
whole_count bytes = length-take-le (length bytes / 16 * 16) bytes (omega arith)

-- whole frames in front of others
left_by : (front rest : List ℕ) → length front % 16 ≡ 0 → begun_frame (front ++ rest) ≡ begun_frame rest
left_by front rest whole_ones =
    let size = length-append front rest in
    let count : length (front ++ rest) / 16 * 16 ≡ length front + length rest / 16 * 16 = omega (arith, size, whole_ones) in
    ap (λ n. drop n (front ++ rest)) count ∙ drop-append-add front rest (length rest / 16 * 16)

-- ---- in another order

later_whole : (k : ℕ) (bytes : List ℕ) → length (later_frames k bytes) % 16 ≡ 0
later_whole k bytes = omega (arith, length-drop (16 * k) (whole_frames bytes), whole_count bytes)

front_whole : (k : ℕ) (bytes : List ℕ) → length (first_frames k bytes) % 16 ≡ 0
front_whole k bytes = elim (cases_lt (length (whole_frames bytes)) (16 * k)) [
  | inl lt ↦ omega (arith, ap length (take_all (16 * k) (whole_frames bytes) (omega (arith, lt))), whole_count bytes)
  | inr le ↦ omega (arith, length-take-le (16 * k) (whole_frames bytes) le)
]

left_again : (bytes : List ℕ) → begun_frame (begun_frame bytes) ≡ begun_frame bytes
left_again bytes =
    let size = length-left_over 16 bytes in
    let none : length (begun_frame bytes) / 16 * 16 ≡ 0 = omega (arith, size) in
    ap (λ n. drop n (begun_frame bytes)) none

pub left_rotated : (k : ℕ) (bytes : List ℕ) → begun_frame (rotated k bytes) ≡ begun_frame bytes
left_rotated k bytes =
    left_by (later_frames k bytes) (first_frames k bytes ++ begun_frame bytes) (later_whole k bytes)
    ∙ left_by (first_frames k bytes) (begun_frame bytes) (front_whole k bytes) ∙ left_again bytes

pub rotated_many : (k : ℕ) (bytes : List ℕ) → length (rotated k bytes) ≡ length bytes
rotated_many k bytes =
    omega (
      arith,
      length-append (later_frames k bytes) (first_frames k bytes ++ begun_frame bytes),
      length-append (first_frames k bytes) (begun_frame bytes),
      ap length (take-append-drop (16 * k) (whole_frames bytes)),
      length-append (first_frames k bytes) (later_frames k bytes),
      ap length (take-append-drop (length bytes / 16 * 16) bytes),
      length-append (whole_frames bytes) (begun_frame bytes),
    )

pub rotated_none : (bytes : List ℕ) → rotated 0 bytes ≡ bytes
rotated_none bytes = take-append-drop (length bytes / 16 * 16) bytes

pub rotated_few : (k : ℕ) (bytes : List ℕ) → length bytes < 16 * (k + 1) → rotated k bytes ≡ bytes
rotated_few k bytes few =
    let none : later_frames k bytes ≡ [] = drop_all (16 * k) (whole_frames bytes) (omega (arith, few, whole_count bytes)) in
    let all : first_frames k bytes ≡ whole_frames bytes = take_all (16 * k) (whole_frames bytes) (omega (arith, few, whole_count bytes)) in
    ap (λ l. l ++ (first_frames k bytes ++ begun_frame bytes)) none ∙ ap (λ l. l ++ begun_frame bytes) all
    ∙ take-append-drop (length bytes / 16 * 16) bytes
