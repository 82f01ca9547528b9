-- How many P0 elements are committed, and the mark of the last of them.
use Rattle.std.proofs.Common.{◌≡◌, ℕ, ◌+◌, ◌%◌, ◌^◌, List, [], ◌∷◌, ◌++◌, length, Option, Some, refl, ap, sym, ◌∙◌, arith, length-append}
use Rattle.time_marks.specs.Stamps.{Stamp}
use Rattle.time_marks.specs.TimeLines.{newest, shown_of}
use Rattle.time_marks.specs.declared.shown.Shown.{Shown}

newest-append : (done : List Stamp) (mark : Stamp) → newest (done ++ mark ∷ []) ≡ Some mark
newest-append [] mark = refl
newest-append (x ∷ []) mark = refl
newest-append (x ∷ y ∷ done) mark = newest-append (y ∷ done) mark

pub one_shown : (shown : Shown) (done : List Stamp) (mark : Stamp) → shown ≡ shown_of done
    → record { count = (shown.count + 1) % 2 ^ 64; last = Some mark } ≡ shown_of (done ++ mark ∷ [])
one_shown shown done mark is =
    let count : (shown.count + 1) % 2 ^ 64 ≡ length (done ++ mark ∷ []) % 2 ^ 64 =
    omega (arith, ap (λ (s : Shown). s.count) is, length-append done (mark ∷ [])) in
    ap (λ (n : ℕ). record { count = n; last = Some mark }) count
    ∙ ap (λ (l : Option Stamp). record { count = length (done ++ mark ∷ []) % 2 ^ 64; last = l }) (sym (newest-append done mark))
