-- The array that two slices are copied to, one after the other.
use Rattle.std.proofs.Common.{◌≡◌, ℕ, ◌+◌, ◌-◌, ◌<◌, ◌≤◌, ◌^◌, All, List, ◌++◌, length, take, drop, replicate, refl, sym, ap, ap₂, subst, ◌∙◌, arith}
use Rattle.std.proofs.Common.{append_assoc, length-append}
use Rattle.std.proofs.lemmas.List.{drop-replicate, drop_at, take_at}
use Rattle.std.proofs.lemmas.List.Elements.{All-append}
use Rattle.return_stack.specs.Saved.{Keeps, places}
use Rattle.return_stack.specs.Stack.{most_addresses}
use borrow.Rule.Slice.PartMut.{put_mid}

abbrev zeros : List ℕ
zeros = replicate most_addresses 0

-- the first list stands in front, and the second is put behind it
abbrev pub filled : List ℕ → List ℕ → List ℕ
filled newer older = put_mid (length newer) (length newer + length older - length newer) (newer ++ drop (length newer) zeros) older

-- what is left behind both
rest_is : (k m : ℕ) (newer left : List ℕ) (room : ℕ) → left ≡ replicate room 0 → m ≡ length newer + k
    → drop k (drop (length newer) (newer ++ drop (length newer) left)) ≡ replicate (room - m) 0
rest_is k m newer left room are both =
    let n = length newer in
    let fewer : room - n - k ≡ room - m = omega (arith, both) in
    rw (drop_at newer (drop n left) n refl, are, drop-replicate {X = ℕ} n room 0, drop-replicate {X = ℕ} k (room - n) 0, fewer) refl

filled_places : (newer older : List ℕ) → filled newer older ≡ places (newer ++ older)
filled_places newer older =
    let n = length newer in
    let k = n + length older - n in
    let rest = rest_is k (length (newer ++ older)) newer zeros most_addresses refl (omega (arith, length-append newer older)) in
    ap₂ (λ front back. front ++ (older ++ back)) (take_at newer (drop n zeros) n refl) rest ∙ sym (append_assoc newer older _)

pub filled_shows : (newer older : List ℕ) → take (length newer + length older) (filled newer older) ≡ newer ++ older
filled_shows newer older =
    ap (take (length newer + length older)) (filled_places newer older) ∙ take_at (newer ++ older) _ _ (length-append newer older)

pub filled_keeps : (newer older : List ℕ) → length newer + length older ≤ most_addresses
    → All (λ a. a < 2 ^ 64) newer → All (λ a. a < 2 ^ 64) older
    → Keeps (filled newer older) (length newer + length older) (take (length newer + length older) (filled newer older))
filled_keeps newer older few front back =
    let long = length-append newer older in
    let bounded = All-append (λ a. a < 2 ^ 64) newer older front back in
    subst (Keeps (filled newer older) (length newer + length older)) (sym (filled_shows newer older))
    record { few = omega (arith, long, few); bounded = bounded; counted = long; placed = sym (filled_places newer older) }
