-- A capture buffer that was written round, byte by byte.
use Rattle.std.proofs.Common.{◌≡◌, ℕ, zero, suc, ◌+◌, ◌-◌, ◌*◌, ◌/◌, ◌%◌, ◌<◌, ◌≤◌, true, if◌then◌else◌, nat_le, List, [], ◌∷◌, ◌++◌, length, take}
use Rattle.std.proofs.Common.{drop, Some, None}
use Rattle.std.proofs.Common.{refl, sym, ap, ◌∙◌, inl, inr, arith, append_assoc, length-append, lit<}
use Rattle.std.proofs.Math.Seq.{drop-append-add, take-append-add}
use Rattle.std.proofs.lemmas.Bool.{cases_lt}
use Rattle.std.proofs.lemmas.Bool.Decides.{nat_tests}
use Rattle.std.proofs.lemmas.List.{drop_all, drop-append-le, drop-take, length-take-le, take-append-drop, take-append-le, take_all}
use Rattle.formatter_frames.specs.Unframed.{begun_frame}
use Rattle.formatter_frames.proofs.Pieces.{few_left, left_over-append, length-left_over, one_left}
use Rattle.ring_capture.specs.Rotated.{first_frames, later_frames, whole_frames}
use Rattle.ring_capture.specs.Unwrapping.{StandsAt, Unwrapping, frame_at}

-- ---- whole frames

whole_parts : (bytes : List ℕ) → whole_frames bytes ++ begun_frame bytes ≡ bytes
whole_parts bytes = take-append-drop (length bytes / 16 * 16) bytes

few_begun : (bytes : List ℕ) → length (begun_frame bytes) < 16
few_begun bytes = omega (arith, length-left_over 16 bytes)

-- one byte more, which does not fill a frame, or does
whole_same : (bytes : List ℕ) (b : ℕ) → length (begun_frame bytes) < 15 → whole_frames (bytes ++ b ∷ []) ≡ whole_frames bytes
whole_same bytes b few =
    let size = length-append bytes (b ∷ []) in
    let same : length (bytes ++ b ∷ []) / 16 * 16 ≡ length bytes / 16 * 16 = omega (arith, size, few, length-left_over 16 bytes) in
    ap (λ n. take n (bytes ++ b ∷ [])) same ∙ take-append-le (length bytes / 16 * 16) bytes (b ∷ []) (omega arith)

whole_more : (bytes : List ℕ) (b : ℕ) → length (begun_frame bytes) ≡ 15
    → whole_frames (bytes ++ b ∷ []) ≡ whole_frames bytes ++ (begun_frame bytes ++ b ∷ [])
whole_more bytes b full =
    let size = length-append bytes (b ∷ []) in
    let all : length (bytes ++ b ∷ []) / 16 * 16 ≡ length (bytes ++ b ∷ []) = omega (arith, size, full, length-left_over 16 bytes) in
    take_all (length (bytes ++ b ∷ []) / 16 * 16) (bytes ++ b ∷ []) (omega (arith, all))
    ∙ ap (λ l. l ++ b ∷ []) (sym (whole_parts bytes)) ∙ append_assoc (whole_frames bytes) (begun_frame bytes) (b ∷ [])

begun_more : (bytes : List ℕ) (b : ℕ) → length (begun_frame bytes) < 15 → begun_frame (bytes ++ b ∷ []) ≡ begun_frame bytes ++ b ∷ []
begun_more bytes b few =
    left_over-append 16 bytes (b ∷ []) (lit< tt)
    ∙ few_left 16 (begun_frame bytes ++ b ∷ []) (omega (arith, few, length-append (begun_frame bytes) (b ∷ [])))

begun_none : (bytes : List ℕ) (b : ℕ) → length (begun_frame bytes) ≡ 15 → begun_frame (bytes ++ b ∷ []) ≡ []
begun_none bytes b full =
    left_over-append 16 bytes (b ∷ []) (lit< tt)
    ∙ one_left 16 (begun_frame bytes ++ b ∷ []) (lit< tt) (omega (arith, full, length-append (begun_frame bytes) (b ∷ [])))

-- ---- the frames behind the first ones

-- fewer bytes than those of the first
later_few : (k : ℕ) (bytes : List ℕ) → length bytes ≤ 16 * k → later_frames k bytes ≡ []
later_few k bytes few = drop_all (16 * k) (whole_frames bytes) (omega (arith, few, length-take-le (length bytes / 16 * 16) bytes (omega arith)))

later_by : (k : ℕ) (front rest : List ℕ) → length front ≡ 16 * k → later_frames k (front ++ rest) ≡ whole_frames rest
later_by k front rest many =
    let size = length-append front rest in
    let count : length (front ++ rest) / 16 * 16 ≡ length front + length rest / 16 * 16 = omega (arith, size, many) in
    let same : whole_frames (front ++ rest) ≡ front ++ whole_frames rest =
    ap (λ n. take n (front ++ rest)) count ∙ take-append-add front rest (length rest / 16 * 16) in
    ap (drop (16 * k)) same ∙ drop-append-le (16 * k) front (whole_frames rest) (omega (arith, many))
    ∙ ap (λ l. l ++ whole_frames rest) (drop_all (16 * k) front (omega (arith, many)))

later_is : (k : ℕ) (bytes : List ℕ) → 16 * k ≤ length bytes → later_frames k bytes ≡ whole_frames (drop (16 * k) bytes)
later_is k bytes le =
    ap (later_frames k) (sym (take-append-drop (16 * k) bytes))
    ∙ later_by k (take (16 * k) bytes) (drop (16 * k) bytes) (length-take-le (16 * k) bytes le)

-- ---- one byte more

abbrev at : ℕ → List ℕ → List ℕ → Unwrapping
at k kept begun = record { frames = k; kept = kept; begun = begun }

-- how many bytes there are, by how many are kept
all_kept : (n : ℕ) (bytes kept : List ℕ) → kept ≡ take n bytes → length kept < n → (length bytes < n) × (kept ≡ bytes)
all_kept n bytes kept e less = elim (cases_lt (length bytes) n) [
  | inl lt ↦ (lt, e ∙ take_all n bytes (omega (arith, lt)))
  | inr le ↦ absurd (omega (arith, less, ap length e, length-take-le n bytes le))
]

some_kept : (n : ℕ) (bytes kept : List ℕ) → kept ≡ take n bytes → length kept ≡ n → n ≤ length bytes
some_kept n bytes kept e many = elim (cases_lt (length bytes) n) [
  | inl lt ↦ absurd (omega (arith, lt, many, ap length e, ap length (take_all n bytes (omega (arith, lt)))))
  | inr le ↦ le
]

-- it is one of the first frames
pub first_stands : (k b : ℕ) (bytes kept begun next : List ℕ) → StandsAt (at k kept begun) bytes → length kept < 16 * k → next ≡ kept ++ b ∷ []
    → StandsAt (at k next begun) (bytes ++ b ∷ []) × (later_frames k (bytes ++ b ∷ []) ≡ later_frames k bytes)
first_stands k b bytes kept begun next stands less is =
    let all = all_kept (16 * k) bytes kept stands.kept less in
    let size = length-append bytes (b ∷ []) in
    let few : length (bytes ++ b ∷ []) ≤ 16 * k = omega (arith, size, all.0) in (
      record {
        kept = is ∙ ap (λ l. l ++ b ∷ []) all.1 ∙ sym (take_all (16 * k) (bytes ++ b ∷ []) few);
        begun = stands.begun ∙ ap begun_frame (drop_all (16 * k) bytes (omega (arith, all.0)) ∙ sym (drop_all (16 * k) (bytes ++ b ∷ []) few));
      },
      later_few k (bytes ++ b ∷ []) few ∙ sym (later_few k bytes (omega (arith, all.0))),
    )

-- it is one behind them, which is not full with it
pub later_stands : (k b : ℕ) (bytes kept begun next : List ℕ) → StandsAt (at k kept begun) bytes → length kept ≡ 16 * k → length begun < 15
    → next ≡ begun ++ b ∷ [] → StandsAt (at k kept next) (bytes ++ b ∷ []) × (later_frames k (bytes ++ b ∷ []) ≡ later_frames k bytes)
later_stands k b bytes kept begun next stands many few is =
    let le = some_kept (16 * k) bytes kept stands.kept many in
    let rest = drop (16 * k) bytes in
    let more : drop (16 * k) (bytes ++ b ∷ []) ≡ rest ++ b ∷ [] = drop-append-le (16 * k) bytes (b ∷ []) le in
    let little : length (begun_frame rest) < 15 = omega (arith, few, ap length stands.begun) in (
      record {
        kept = stands.kept ∙ sym (take-append-le (16 * k) bytes (b ∷ []) le);
        begun = is ∙ ap (λ l. l ++ b ∷ []) stands.begun ∙ sym (begun_more rest b little) ∙ ap begun_frame (sym more);
      },
      later_is k (bytes ++ b ∷ []) (omega (arith, le, length-append bytes (b ∷ []))) ∙ ap whole_frames more ∙ whole_same rest b little
          ∙ sym (later_is k bytes le),
    )

-- or which is
pub full_stands : (k b : ℕ) (bytes kept begun : List ℕ) → StandsAt (at k kept begun) bytes → length kept ≡ 16 * k → length begun ≡ 15
    → StandsAt (at k kept []) (bytes ++ b ∷ []) × (later_frames k (bytes ++ b ∷ []) ≡ later_frames k bytes ++ (begun ++ b ∷ []))
full_stands k b bytes kept begun stands many full =
    let le = some_kept (16 * k) bytes kept stands.kept many in
    let rest = drop (16 * k) bytes in
    let more : drop (16 * k) (bytes ++ b ∷ []) ≡ rest ++ b ∷ [] = drop-append-le (16 * k) bytes (b ∷ []) le in
    let whole_frame : length (begun_frame rest) ≡ 15 = omega (arith, full, ap length stands.begun) in (
      record {
        kept = stands.kept ∙ sym (take-append-le (16 * k) bytes (b ∷ []) le);
        begun = sym (ap begun_frame more ∙ begun_none rest b whole_frame);
      },
      later_is k (bytes ++ b ∷ []) (omega (arith, le, length-append bytes (b ∷ []))) ∙ ap whole_frames more ∙ whole_more rest b whole_frame
          ∙ ap (λ l. l ++ (begun_frame rest ++ b ∷ [])) (sym (later_is k bytes le))
          ∙ ap (λ l. later_frames k bytes ++ (l ++ b ∷ [])) (sym stands.begun),
    )

-- ---- the frame that was begun

-- among the first ones
pub tail_first : (k : ℕ) (bytes kept begun : List ℕ) → StandsAt (at k kept begun) bytes → length kept < 16 * k → begun_frame kept ≡ begun_frame bytes
tail_first k bytes kept begun stands less = ap begun_frame (all_kept (16 * k) bytes kept stands.kept less).1

left_by : (k : ℕ) (front rest : List ℕ) → length front ≡ 16 * k → begun_frame (front ++ rest) ≡ begun_frame rest
left_by k front rest many =
    let size = length-append front rest in
    let count : length (front ++ rest) / 16 * 16 ≡ length front + length rest / 16 * 16 = omega (arith, size, many) in
    ap (λ n. drop n (front ++ rest)) count ∙ drop-append-add front rest (length rest / 16 * 16)

-- or behind them
pub tail_later : (k : ℕ) (bytes kept begun : List ℕ) → StandsAt (at k kept begun) bytes → length kept ≡ 16 * k → begun ≡ begun_frame bytes
tail_later k bytes kept begun stands many =
    let le = some_kept (16 * k) bytes kept stands.kept many in
    stands.begun
    ∙ sym (ap begun_frame (sym (take-append-drop (16 * k) bytes))
    ∙ left_by k (take (16 * k) bytes) (drop (16 * k) bytes) (length-take-le (16 * k) bytes le))

-- ---- what is kept, as the code has it

pub take_both : (n m : ℕ) (xs : List ℕ) → n ≤ m → take n (take m xs) ≡ take n xs
take_both zero m xs le = refl
take_both (suc n) zero xs le = absurd (omega (arith, le))
take_both (suc n) (suc m) [] le = refl
take_both (suc n) (suc m) (x ∷ xs) le = ap (λ l. x ∷ l) (take_both n m xs (omega (arith, le)))

part : (first : List ℕ) (n k : ℕ) → n ≤ k → drop n (take k first) ≡ take (k - n) (drop n first)
part first n k le =
    let all : k ≡ n + (k - n) = omega (arith, le) in
    ap (λ m. drop n (take m first)) all ∙ drop-take n (k - n) first

pub front_of_frame : (first : List ℕ) (k j : ℕ) → 16 * j + 16 ≤ k → k ≤ length first
    → frame_at j (take k first) ≡ Some (take 16 (drop (16 * j) first))
front_of_frame first k j within le =
    let size = length-take-le k first le in
    let fits : nat_le (16 * j + 16) (length (take k first)) ≡ true = grind (arith, nat_tests, within, size) in
    let same : take 16 (drop (16 * j) (take k first)) ≡ take 16 (drop (16 * j) first) =
    ap (take 16) (part first (16 * j) k (omega (arith, within))) ∙ take_both 16 (k - 16 * j) (drop (16 * j) first) (omega (arith, within)) in
    ap (λ b. if b then Some (take 16 (drop (16 * j) (take k first))) else None) fits ∙ ap (λ l. Some l) same

pub cut_tail : (first : List ℕ) (k : ℕ) → k ≤ length first → take (k - (k - k % 16)) (drop (k - k % 16) first) ≡ begun_frame (take k first)
cut_tail first k le =
    let size = length-take-le k first le in
    let place : length (take k first) / 16 * 16 ≡ k - k % 16 = omega (arith, size) in
    sym (ap (λ n. drop n (take k first)) place ∙ part first (k - k % 16) k (omega arith))

-- the whole frames of what is kept are those before frame k
pub kept_whole : (k : ℕ) (bytes kept begun : List ℕ) → StandsAt (at k kept begun) bytes → whole_frames kept ≡ first_frames k bytes
kept_whole k bytes kept begun stands = elim (cases_lt (length bytes) (16 * k)) [
  | inl lt ↦
      let same : kept ≡ bytes = stands.kept ∙ take_all (16 * k) bytes (omega (arith, lt)) in
      ap whole_frames same
      ∙ sym (take_all (16 * k) (whole_frames bytes) (omega (arith, lt, length-take-le (length bytes / 16 * 16) bytes (omega arith))))
  | inr le ↦
      let size : length kept ≡ 16 * k = ap length stands.kept ∙ length-take-le (16 * k) bytes le in
      let count : length kept / 16 * 16 ≡ length kept = omega (arith, size) in
      take_all (length kept / 16 * 16) kept (omega (arith, count)) ∙ stands.kept
      ∙ sym (take_both (16 * k) (length bytes / 16 * 16) bytes (omega (arith, le)))
]
