-- Runs of equal marks: what one that grows, shrinks or leaves does to the list of marks.
use Rattle.std.proofs.Common.{◌≡◌, ℕ, suc, ◌+◌, ◌-◌, ◌<◌, ◌≤◌, List, [], ◌∷◌, ◌++◌, length, take, replicate, arith, ap, sym, ◌∙◌}
use Rattle.std.proofs.Common.{length-append}
use Rattle.std.proofs.Math.Seq.{take-append_seam}
use Rattle.std.proofs.lemmas.Grind.{flat_map-append}
use Rattle.std.proofs.lemmas.List.{append_assoc, append-nil, length-replicate, replicate-append-replicate}
use Rattle.std.proofs.lemmas.List.Elements.{All-head, All-tail}
use Rattle.time_marks.specs.Runs.{AreRuns, marks_of, run_mark}
use Rattle.time_marks.specs.Stamps.{Stamp}
use Rattle.time_marks.specs.declared.marks.EqualMarks.{EqualMarks}

-- so many of the mark of a run
abbrev with_count : EqualMarks → ℕ → EqualMarks
with_count r n = record r { count = n }

abbrev each : EqualMarks → List Stamp
each r = replicate r.count (run_mark r)

-- ---- the oldest

pub none_first : (r : EqualMarks) (rest : List EqualMarks) → r.count ≡ 0 → marks_of (r ∷ rest) ≡ marks_of rest
none_first r rest none = ap (λ (n : ℕ). replicate n (run_mark r) ++ marks_of rest) none

pub oldest_out : (r : EqualMarks) (rest : List EqualMarks) → 0 < r.count → marks_of (r ∷ rest) ≡ run_mark r ∷ marks_of (with_count r (r.count - 1) ∷ rest)
oldest_out r rest some = let at : r.count ≡ suc (r.count - 1) = omega (arith, some) in ap (λ (n : ℕ). replicate n (run_mark r) ++ marks_of rest) at

-- ---- the newest

marks_and : (runs : List EqualMarks) (r : EqualMarks) → marks_of (runs ++ r ∷ []) ≡ marks_of runs ++ each r
marks_and runs r = flat_map-append each runs (r ∷ []) ∙ ap (λ (ys : List Stamp). marks_of runs ++ ys) (append-nil (each r))

pub none_last : (runs : List EqualMarks) (r : EqualMarks) → r.count ≡ 0 → marks_of (runs ++ r ∷ []) ≡ marks_of runs
none_last runs r none =
    marks_and runs r ∙ ap (λ (n : ℕ). marks_of runs ++ replicate n (run_mark r)) none ∙ append-nil (marks_of runs)

-- some marks of a run, and the others of it
parted : (runs : List EqualMarks) (r : EqualMarks) (n : ℕ) → n ≤ r.count
    → marks_of (runs ++ r ∷ []) ≡ marks_of (runs ++ with_count r (r.count - n) ∷ []) ++ replicate n (run_mark r)
parted runs r n within =
    let at : r.count ≡ r.count - n + n = omega (arith, within) in
    let halves : each r ≡ replicate (r.count - n) (run_mark r) ++ replicate n (run_mark r) =
    ap (λ (k : ℕ). replicate k (run_mark r)) at ∙ sym (replicate-append-replicate (r.count - n) n (run_mark r)) in
    marks_and runs r ∙ ap (λ (ys : List Stamp). marks_of runs ++ ys) halves
    ∙ sym (append_assoc (marks_of runs) (replicate (r.count - n) (run_mark r)) (replicate n (run_mark r)))
    ∙ ap (λ (ys : List Stamp). ys ++ replicate n (run_mark r)) (sym (marks_and runs (with_count r (r.count - n))))

without : (xs ys whole : List Stamp) → whole ≡ xs ++ ys → xs ≡ take (length whole - length ys) whole
without xs ys whole is =
    let count : length (xs ++ ys) - length ys ≡ length xs = omega (arith, length-append xs ys) in
    sym (take-append_seam xs ys) ∙ ap (λ (n : ℕ). take n (xs ++ ys)) (sym count) ∙ ap (λ (zs : List Stamp). take (length zs - length ys) zs) (sym is)

pub newest_out : (runs : List EqualMarks) (r : EqualMarks) (n : ℕ) → n ≤ r.count
    → marks_of (runs ++ with_count r (r.count - n) ∷ []) ≡ take (length (marks_of (runs ++ r ∷ [])) - n) (marks_of (runs ++ r ∷ []))
newest_out runs r n within =
    let whole = marks_of (runs ++ r ∷ []) in
    without (marks_of (runs ++ with_count r (r.count - n) ∷ [])) (replicate n (run_mark r)) whole (parted runs r n within)
    ∙ ap (λ (k : ℕ). take (length whole - k) whole) (length-replicate n (run_mark r))

-- ---- how many

few : (runs : List EqualMarks) → AreRuns runs → length runs ≤ length (marks_of runs)
few [] are = omega arith
few (r ∷ runs) are =
    omega (
      arith,
      All-head (λ (r : EqualMarks). 0 < r.count) r runs are,
      few runs (All-tail (λ (r : EqualMarks). 0 < r.count) r runs are),
      length-append (each r) (marks_of runs),
      length-replicate r.count (run_mark r),
    )

pub few_between : (oldest newest : EqualMarks) (runs : List EqualMarks) → AreRuns runs → length runs + newest.count ≤ length (marks_of (oldest ∷ runs ++ newest ∷ []))
few_between oldest newest runs are =
    omega (
      arith,
      few runs are,
      length-append (each oldest) (marks_of (runs ++ newest ∷ [])),
      ap (λ (xs : List Stamp). length xs) (marks_and runs newest),
      length-append (marks_of runs) (each newest),
      length-replicate newest.count (run_mark newest),
    )
