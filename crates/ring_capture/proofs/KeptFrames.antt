-- The frames that were kept, and the bytes of the frame that was begun, behind the later frames.
use Rattle.std.proofs.Common.{◌≡◌, ℕ, ◌+◌, ◌*◌, ◌/◌, ◌<◌, ◌≤◌, Bool, true, false, if◌then◌else◌, nat_le, IsTrue, List, [], ◌++◌, length, take, drop}
use Rattle.std.proofs.Common.{Option, Some, None, Result, Ok, Err}
use Rattle.std.proofs.Common.{refl, sym, ap, subst, ◌∙◌, inl, inr, arith, append_assoc, append-nil}
use Rattle.std.proofs.Math.Seq.{take-add}
use Rattle.std.proofs.lemmas.Bool.{cases_lt}
use Rattle.std.proofs.lemmas.Bool.Decides.{nat_tests}
use Rattle.std.proofs.lemmas.List.{take-append-drop}
use Rattle.capture_streams.specs.Demuxed.{Gains}
use Rattle.capture_streams.specs.Texts.{Listing}
use Rattle.formatter_frames.specs.Unframed.{begun_frame, unframed}
use Rattle.capture_streams.proofs.Writing.{Gained, all_gained, gain_fails, gained_more}
use Rattle.trace_io.specs.State.{IoState}
use Rattle.ring_capture.specs.Rotated.{first_frames, whole_frames}
use Rattle.ring_capture.specs.Unwrapping.{StandsAt, Unwrapping, frame_at}
use Rattle.ring_capture.proofs.Unwrapped.{kept_whole, take_both}

none_some : (f : List ℕ) → ◌≡◌ {A = Option (List ℕ)} None (Some f) → ⊥
none_some f e = absurd cc

same_some : (f x : List ℕ) → ◌≡◌ {A = Option (List ℕ)} (Some f) (Some x) → x ≡ f
same_some f x e = cc

-- a frame that is kept is all there
pub frame_there : (j : ℕ) (kept frame : List ℕ) → Some frame ≡ frame_at j kept → (16 * j + 16 ≤ length kept) × (frame ≡ take 16 (drop (16 * j) kept))
frame_there j kept frame e = elim (cases_lt (length kept) (16 * j + 16)) [
  | inl lt ↦
      let none : nat_le (16 * j + 16) (length kept) ≡ false = grind (arith, nat_tests, lt) in
      absurd (none_some frame (sym (e ∙ ap (λ b. if b then Some (take 16 (drop (16 * j) kept)) else None) none)))
  | inr le ↦
      let some : nat_le (16 * j + 16) (length kept) ≡ true = grind (arith, nat_tests, le) in
      (le, sym (same_some frame (take 16 (drop (16 * j) kept)) (e ∙ ap (λ b. if b then Some (take 16 (drop (16 * j) kept)) else None) some)))
]

-- and where none is, no whole one is left
pub none_there : (j : ℕ) (kept : List ℕ) → None ≡ frame_at j kept → length kept < 16 * j + 16
none_there j kept e = elim (cases_lt (length kept) (16 * j + 16)) [
  | inl lt ↦ lt
  | inr le ↦
      let some : nat_le (16 * j + 16) (length kept) ≡ true = grind (arith, nat_tests, le) in
      absurd (none_some (take 16 (drop (16 * j) kept)) (e ∙ ap (λ b. if b then Some (take 16 (drop (16 * j) kept)) else None) some))
]

pub next_frame : (j : ℕ) (kept frame : List ℕ) → frame ≡ take 16 (drop (16 * j) kept) → take (16 * (j + 1)) kept ≡ take (16 * j) kept ++ frame
next_frame j kept frame is =
    let further : 16 * (j + 1) ≡ 16 * j + 16 = omega arith in
    ap (λ n. take n kept) further ∙ take-add (16 * j) 16 kept ∙ ap (λ l. take (16 * j) kept ++ l) (sym is)

-- what is still to come behind so many of them
pub rest_behind : (m : ℕ) (bytes : List ℕ) (u : Unwrapping) → StandsAt u bytes → 16 * m ≤ length u.kept
    → (rest : List ℕ) × (take (16 * m) u.kept ++ rest ≡ first_frames u.frames bytes ++ begun_frame bytes)
rest_behind m bytes u stands le =
    let all = kept_whole u.frames bytes u.kept u.begun stands in
    let front : take (16 * m) u.kept ≡ take (16 * m) (whole_frames u.kept) =
    sym (take_both (16 * m) (length u.kept / 16 * 16) u.kept (omega (arith, le))) in
    let rest = drop (16 * m) (whole_frames u.kept) in (
      rest ++ begun_frame bytes,
      ap (λ l. l ++ (rest ++ begun_frame bytes)) front ∙ sym (append_assoc (take (16 * m) (whole_frames u.kept)) rest (begun_frame bytes))
          ∙ ap (λ l. l ++ begun_frame bytes) (take-append-drop (16 * m) (whole_frames u.kept) ∙ all),
    )

-- all of them
pub all_behind : (m : ℕ) (bytes : List ℕ) (u : Unwrapping) → StandsAt u bytes → 16 * m ≤ length u.kept → length u.kept < 16 * m + 16
    → take (16 * m) u.kept ≡ first_frames u.frames bytes
all_behind m bytes u stands le lt =
    let count : 16 * m ≡ length u.kept / 16 * 16 = omega (arith, le, lt) in
    ap (λ n. take n u.kept) count ∙ kept_whole u.frames bytes u.kept u.begun stands

pub not_true : (b : Bool) → (IsTrue b → false ≡ true) → b ≡ false
not_true true no_way = sym (no_way refl)
not_true false no_way = refl

-- a last piece behind others, whether its lines were written or not
pub then_gains : {T E : Type 0} (g : Listing) (bytes piece more : List ℕ) (a b c : IoState) (r : Result T E) → Gained unframed g bytes piece a b
    → Gains unframed g (bytes ++ piece) more b c r → Gains unframed g bytes (piece ++ more) a c r
then_gains g bytes piece more a b c (Ok x) was gains =
    all_gained unframed g bytes (piece ++ more) a c x (gained_more unframed g bytes piece more a b c x was gains)
then_gains {T} g bytes piece more a b c (Err e) was gains =
    subst (λ l. Gains {T = T} unframed g bytes l a c (Err e)) (append-nil (piece ++ more))
    (gain_fails unframed g bytes piece a b was more gains.pairs gains.grows c e e gains.adds [] []
    (ap unframed (append-nil (bytes ++ (piece ++ more))) ∙ sym (append-nil (unframed (bytes ++ (piece ++ more))))))
