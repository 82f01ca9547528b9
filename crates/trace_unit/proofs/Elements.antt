-- The P0 elements of lists of steps.
use Rattle.std.proofs.Common.{◌≡◌, ℕ, suc, ◌+◌, ◌-◌, Bool, true, false, if◌then◌else◌, List, [], ◌∷◌, ◌++◌, length, take, drop, refl, sym, ap, ◌∙◌, arith}
use Rattle.std.proofs.Common.{length-append}
use Rattle.std.proofs.lemmas.List.{drop_at, take-append-drop}
use Rattle.etm_types.specs.declared.element.P0.{P0}
use Rattle.etm_types.specs.declared.element.P0.TheVariants.{Atom}
use Rattle.program_image.specs.declared.image.Image.{Image}
use Rattle.spec_run.specs.Runs.{turn_newest, turned}
use Rattle.spec_run.specs.Steps.{ends_in_cond, is_p0, kept, newest, p0s}
use Rattle.spec_run.specs.declared.step.RunStep.{RunStep}
use Rattle.trace_unit.proofs.Flipped.{branch, ends_in_branch, turn_newest_at}
use Rattle.trace_unit.proofs.Lists.{kept_at}
use Rattle.trace_unit.proofs.WindowHeld.{at_newest_push}
use Rattle.trace_unit.specs.Agreeing.{elements_of}
use Rattle.trace_unit.specs.Followed.{element_of}
use Rattle.trace_unit.specs.WindowKept.{turn_newest_p0, turn_p0}

pub elements_many : (steps : List RunStep) → length (elements_of steps) ≡ p0s steps
elements_many [] = refl
elements_many (s ∷ steps) = by (is_p0 s) (elements_many steps)
  where
    by : (b : Bool) → length (elements_of steps) ≡ p0s steps
        → length (if b then element_of s.kind s.addr ∷ elements_of steps else elements_of steps) ≡ (if b then 1 else 0) + p0s steps
    by true e = omega (arith, e)
    by false e = omega (arith, e)

pub elements_joined : (xs ys : List RunStep) → elements_of (xs ++ ys) ≡ elements_of xs ++ elements_of ys
elements_joined [] ys = refl
elements_joined (x ∷ xs) ys = by (is_p0 x) (elements_joined xs ys)
  where
    by : (b : Bool) → elements_of (xs ++ ys) ≡ elements_of xs ++ elements_of ys
        → (if b then element_of x.kind x.addr ∷ elements_of (xs ++ ys) else elements_of (xs ++ ys))
        ≡ (if b then element_of x.kind x.addr ∷ elements_of xs else elements_of xs) ++ elements_of ys
    by true e = ap (λ l. element_of x.kind x.addr ∷ l) e
    by false e = e

-- ---- so many of the oldest, or of the newest, go

pub elements_dropped : (n : ℕ) (steps : List RunStep) → elements_of (drop n steps) ≡ drop (p0s (take n steps)) (elements_of steps)
elements_dropped n steps =
    let front = take n steps in
    let rest = drop n steps in
    sym (ap (drop (p0s front)) (ap elements_of (sym (take-append-drop n steps)) ∙ elements_joined front rest)
    ∙ drop_at (elements_of front) (elements_of rest) (p0s front) (elements_many front))

pub elements_kept : (n : ℕ) (steps : List RunStep) → elements_of (kept n steps) ≡ kept (p0s (newest n steps)) (elements_of steps)
elements_kept n steps =
    let front = kept n steps in
    let rest = newest n steps in
    sym (ap (kept (p0s rest)) (ap elements_of (sym (take-append-drop (length steps - n) steps)) ∙ elements_joined front rest)
    ∙ kept_at (p0s rest) (elements_of front) (elements_of rest) (elements_many rest))

pub p0s_parts : (n : ℕ) (steps : List RunStep) → p0s (take n steps) + p0s (drop n steps) ≡ p0s steps
p0s_parts n steps =
    let both = ap (λ l. length (elements_of l)) (take-append-drop n steps) in
    let joined = ap length (elements_joined (take n steps) (drop n steps)) in
    omega (
      arith,
      both,
      joined,
      length-append (elements_of (take n steps)) (elements_of (drop n steps)),
      elements_many (take n steps),
      elements_many (drop n steps),
      elements_many steps,
    )

-- ---- the newest step goes the other way

pub record EndsInAtom (elements : List P0) : Type 0 where
  pub others : List P0
  pub taken : Bool
  pub whole : elements ≡ others ++ Atom taken ∷ []

pub ends_in_atom : (steps : List RunStep) → ends_in_cond steps ≡ true → EndsInAtom (elements_of steps)
ends_in_atom steps ends =
    let b = ends_in_branch steps ends in
    let last = branch b.addr b.ctx b.taken b.next b.link in
    record { others = elements_of b.others; taken = b.taken; whole = ap elements_of b.whole ∙ elements_joined b.others (last ∷ []) }

pub elements_turned : (image : Image) (steps : List RunStep) → ends_in_cond steps ≡ true
    → elements_of (turn_newest image steps) ≡ turn_newest_p0 (elements_of steps)
elements_turned image steps ends =
    let b = ends_in_branch steps ends in
    let last = branch b.addr b.ctx b.taken b.next b.link in
    ap (λ l. elements_of (turn_newest image l)) b.whole
    ∙ ap elements_of (turn_newest_at image b.others last)
    ∙ elements_joined b.others (turned image last ∷ [])
    ∙ sym (at_newest_push turn_p0 (elements_of b.others) (Atom b.taken))
    ∙ ap turn_newest_p0 (sym (elements_joined b.others (last ∷ [])))
    ∙ ap (λ l. turn_newest_p0 (elements_of l)) (sym b.whole)

pub turned_many : (elements : List P0) → length (turn_newest_p0 elements) ≡ length elements
turned_many [] = refl
turned_many (x ∷ []) = refl
turned_many (x ∷ y ∷ elements) = ap (λ n. suc n) (turned_many (y ∷ elements))
