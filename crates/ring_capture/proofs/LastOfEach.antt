-- The bytes of one ID in frames behind missing ones: the last of its bytes.
use Rattle.std.proofs.Common.{◌≡◌, ℕ, zero, suc, ◌*◌, ◌==◌, ◌<◌, ◌≤◌, length, length-append, Bool, true, false, if◌then◌else◌, List, [], ◌∷◌, ◌++◌}
use Rattle.std.proofs.Common.{drop}
use Rattle.std.proofs.Common.{refl, sym, ap, ◌∙◌, arith, append-nil}
use Rattle.std.specs.Prelude.{replicate}
use Rattle.std.proofs.Math.Seq.{drop-append_seam}
use Rattle.std.proofs.lemmas.Bool.Decides.{nat_tests}
use Rattle.formatter_frames.specs.Framed.{framed}
use Rattle.formatter_frames.specs.Unframed.{unframed}
use Rattle.capture_streams.specs.Texts.{of}
use Rattle.formatter_frames.proofs.RoundTrip.{pairs_again}
use Rattle.ring_capture.specs.Ends.{EndsWith}
use Rattle.ring_capture.proofs.MissingFrames.{any_end}

of_by : (b : Bool) (x : ℕ) (xs ys : List ℕ) → (if b then x ∷ (xs ++ ys) else xs ++ ys) ≡ (if b then x ∷ xs else xs) ++ ys
of_by true x xs ys = refl
of_by false x xs ys = refl

of_append : (id : ℕ) (xs ys : List (ℕ × ℕ)) → of id (xs ++ ys) ≡ of id xs ++ of id ys
of_append id [] ys = refl
of_append id (p ∷ xs) ys = ap (λ l. if p.0 == id then p.1 ∷ l else l) (of_append id xs ys) ∙ of_by (p.0 == id) p.1 (of id xs) (of id ys)

of_null : (id n : ℕ) → 0 < id → of id (replicate n (0, 0)) ≡ []
of_null id zero lt = refl
of_null id (suc n) lt = let other : (0 == id) ≡ false = grind (arith, nat_tests, lt) in simp other (of_null id n lt)

-- what comes back of framed pairs has of each ID the bytes that it had
of_framed : (pairs : List (ℕ × ℕ)) (id : ℕ) → 0 < id → of id (unframed (framed pairs)) ≡ of id pairs
of_framed pairs id lt =
    let back = pairs_again pairs in
    ap (of id) back.2 ∙ of_append id pairs (replicate back.0 (0, 0)) ∙ ap (λ l. of id pairs ++ l) (of_null id back.0 lt) ∙ append-nil (of id pairs)

-- an end of pairs has of each ID an end of its bytes
pub each_ends : (last whole : List (ℕ × ℕ)) (id : ℕ) → EndsWith last whole → EndsWith (of id last) (of id whole)
each_ends last whole id (front, is) = (of id front, ap (of id) is ∙ of_append id front last)

-- an end of what comes back of framed pairs has of each ID an end of the bytes that it had
pub framed_ends : (pairs last : List (ℕ × ℕ)) (id : ℕ) → 0 < id → EndsWith last (unframed (framed pairs)) → EndsWith (of id last) (of id pairs)
framed_ends pairs last id lt ends =
    let each = each_ends last (unframed (framed pairs)) id ends in
    (each.0, sym (of_framed pairs id lt) ∙ each.1)

pub last_framed : (pairs : List (ℕ × ℕ)) (n id : ℕ) → 0 < id → EndsWith (of id (unframed (drop (16 * n) (framed pairs)))) (of id pairs)
last_framed pairs n id lt = framed_ends pairs (unframed (drop (16 * n) (framed pairs))) id lt (any_end (framed pairs) n)

-- an end is what is left where so many of the first are missing
pub ends_behind : (last whole : List ℕ) → EndsWith last whole → (missing : ℕ) × (missing ≤ length whole) × (last ≡ drop missing whole)
ends_behind last whole (front, is) =
    (length front, omega (arith, ap length is, length-append front last), sym (ap (drop (length front)) is ∙ drop-append_seam front last))
