-- Steps that are retired one behind the other, and the lines of the blocks that they end.
use Rattle.std.proofs.Common.{◌≡◌, ℕ, zero, suc, ◌+◌, ◌<◌, ◌^◌, Bool, true, false, List, [], ◌∷◌, ◌++◌, length, take, Option, Some, None}
use Rattle.std.proofs.Common.{inl, inr, refl, sym, ap, subst, ◌∙◌, append_assoc, append-nil, arith, length-append}
use Rattle.std.specs.Prelude.{slice_get}
use Rattle.std.proofs.lemmas.List.{take_all, take_more}
use Rattle.std.proofs.lemmas.Option.{get_or_from_slice_get, slice_get_cases, slice_get_within}
use Rattle.etm_types.specs.declared.context.Ctx.{Ctx}
use Rattle.path_text.proofs.LineLemmas.{lines_of-append, shown_after_all-append}
use Rattle.path_text.specs.PathLines.{lines_of, shown_after_all}
use Rattle.spec_run.proofs.PathFollows.{few, follows}
use Rattle.spec_run.proofs.PathGrows.{items_joined, only_items}
use Rattle.spec_run.specs.Blocks.{fresh}
use Rattle.spec_run.specs.Executed.{AreSteps}
use Rattle.spec_run.specs.RetiredItems.{items_behind, stretch_items}
use Rattle.spec_run.specs.Stands.{Follows, OpenBlock, PathStandsAt}
use Rattle.spec_run.specs.declared.step.RunStep.{RunStep}
use Rattle.spec_run.specs.declared.step.StepKind.TheVariants.{Jump}
use Rattle.retired_paths.specs.Retiring.{CanRetire}
use Rattle.retired_paths.specs.declared.retiring.Retiring.{Retiring}

-- ---- a front of a list, and one more

pub take_one : {X : Type 0} (xs : List X) (k : ℕ) (x : X) → slice_get xs k ≡ Some x → take (k + 1) xs ≡ take k xs ++ x ∷ []
take_one xs k x e = take_more xs k x (slice_get_within xs k x e) ∙ ap (λ y. take k xs ++ y ∷ []) (get_or_from_slice_get xs k x x e)

pub take_none : {X : Type 0} (xs : List X) (k : ℕ) → slice_get xs k ≡ None → take (k + 1) xs ≡ take k xs
take_none xs k e = elim (slice_get_cases xs k).1 [
  | inl w ↦ absurd (let there = w.2 in cc)
  | inr w ↦ take_all (k + 1) xs (omega (arith, w.0)) ∙ sym (take_all k xs w.0)
]

pub taken_on : {X : Type 0} (n k : ℕ) (xs : List X) (x : X) → k < n → slice_get xs k ≡ Some x → (rest : List X) × (take n xs ≡ take k xs ++ x ∷ rest)
taken_on zero k xs x lt e = absurd (omega (arith, lt))
taken_on (suc n) zero [] x lt e = absurd cc
taken_on (suc n) zero (y ∷ xs) x lt e = let same : y ≡ x = cc in (take n xs, ap (λ z. z ∷ take n xs) same)
taken_on (suc n) (suc k) [] x lt e = absurd cc
taken_on (suc n) (suc k) (y ∷ xs) x lt e = let r = taken_on n k xs x (omega (arith, lt)) e in (r.0, ap (λ l. y ∷ l) r.1)

-- ---- a retired path takes the next of them

some_taken : {X : Type 0} (n k : ℕ) (xs : List X) (x : X) → k < n → slice_get xs k ≡ Some x → 0 < length (take n xs)
some_taken n k xs x lt e =
    let r = taken_on n k xs x lt e in
    let long = ap length r.1 ∙ length-append (take k xs) (x ∷ r.0) in omega (arith, long)

-- the steps, with the next of them in their middle
next_are : (t : Retiring) (n k : ℕ) (xs : List RunStep) (s : RunStep) (lt : k < n) (e : slice_get xs k ≡ Some s) (can : CanRetire t (take n xs))
    → AreSteps can.image (fresh can.start) can.first ((can.steps ++ take k xs) ++ s ∷ (taken_on n k xs s lt e).0)
next_are t n k xs s lt e can =
    let r = taken_on n k xs s lt e in
    subst (AreSteps can.image (fresh can.start) can.first) (ap (λ l. can.steps ++ l) r.1 ∙ sym (append_assoc can.steps (take k xs) (s ∷ r.0))) can.are

pub takes_follow : (t : Retiring) (b : OpenBlock) (n k : ℕ) (xs : List RunStep) (s : RunStep) → (0 < length (take n xs) → CanRetire t (take n xs))
    → ((steps : List RunStep) → PathStandsAt t.path steps → PathStandsAt b (steps ++ take k xs)) → k < n → slice_get xs k ≡ Some s → Follows b s
takes_follow t b n k xs s given stands lt e =
    let can = given (some_taken n k xs s lt e) in
    follows can.image can.start can.first (can.steps ++ take k xs) (taken_on n k xs s lt e).0 s b can.place (next_are t n k xs s lt e can)
    (stands can.steps can.stands)

pub takes_few : (t : Retiring) (b : OpenBlock) (n k : ℕ) (xs : List RunStep) (s : RunStep) → (0 < length (take n xs) → CanRetire t (take n xs))
    → ((steps : List RunStep) → PathStandsAt t.path steps → PathStandsAt b (steps ++ take k xs)) → k < n → slice_get xs k ≡ Some s → b.plain < 2 ^ 62
takes_few t b n k xs s given stands lt e =
    let can = given (some_taken n k xs s lt e) in
    few can.image can.start can.first (can.steps ++ take k xs) (s ∷ (taken_on n k xs s lt e).0) b can.gap can.place (next_are t n k xs s lt e can)
    (stands can.steps can.stands)

pub stands_one : (b : OpenBlock) (k : ℕ) (xs steps : List RunStep) (s : RunStep) → slice_get xs k ≡ Some s → PathStandsAt b ((steps ++ take k xs) ++ s ∷ [])
    → PathStandsAt b (steps ++ take (k + 1) xs)
stands_one b k xs steps s e at =
    subst (PathStandsAt b) (append_assoc steps (take k xs) (s ∷ []) ∙ ap (λ l. steps ++ l) (sym (take_one xs k s e))) at

-- where tracing ended, a retired path stands behind some steps
closed_by : (first : Bool) (start : ℕ) (ctx : Ctx)
    → (steps : List RunStep) × PathStandsAt (record { first = first; start = start; plain = 0; ctx = ctx }) steps
closed_by true start ctx = ([], record { first = refl; begun = refl })
closed_by false start ctx =
    (record { addr = start; ctx = ctx; kind = Jump; next = start; link = false } ∷ [], record { first = refl; begun = refl })

pub closed_stands : (b : OpenBlock) → (steps : List RunStep) × PathStandsAt (record b { plain = 0 }) steps
closed_stands b = closed_by b.first b.start b.ctx

-- ---- what is printed of them

pub nothing_behind : (steps : List RunStep) → items_behind steps [] ≡ []
nothing_behind steps = only_items steps [] [] (ap stretch_items (append-nil steps) ∙ sym (append-nil (stretch_items steps)))

items_one : (k : ℕ) (xs steps : List RunStep) (s : RunStep) → slice_get xs k ≡ Some s
    → items_behind steps (take (k + 1) xs) ≡ items_behind steps (take k xs) ++ items_behind (steps ++ take k xs) (s ∷ [])
items_one k xs steps s e = ap (items_behind steps) (take_one xs k s e) ∙ items_joined steps (take k xs) (s ∷ [])

pub lines_one : (id : ℕ) (shown now : Option Ctx) (k : ℕ) (xs steps : List RunStep) (s : RunStep) → slice_get xs k ≡ Some s
    → now ≡ shown_after_all shown (items_behind steps (take k xs))
    → lines_of id shown (items_behind steps (take k xs)) ++ lines_of id now (items_behind (steps ++ take k xs) (s ∷ []))
    ≡ lines_of id shown (items_behind steps (take (k + 1) xs))
lines_one id shown now k xs steps s e is =
    let front = items_behind steps (take k xs) in
    let more = items_behind (steps ++ take k xs) (s ∷ []) in
    ap (λ c. lines_of id shown front ++ lines_of id c more) is ∙ sym (lines_of-append id shown front more)
    ∙ ap (lines_of id shown) (sym (items_one k xs steps s e))

pub shown_one : (shown now next : Option Ctx) (k : ℕ) (xs steps : List RunStep) (s : RunStep) → slice_get xs k ≡ Some s
    → now ≡ shown_after_all shown (items_behind steps (take k xs)) → next ≡ shown_after_all now (items_behind (steps ++ take k xs) (s ∷ []))
    → next ≡ shown_after_all shown (items_behind steps (take (k + 1) xs))
shown_one shown now next k xs steps s e is then =
    let front = items_behind steps (take k xs) in
    let more = items_behind (steps ++ take k xs) (s ∷ []) in
    then ∙ ap (λ c. shown_after_all c more) is ∙ sym (shown_after_all-append shown front more) ∙ ap (shown_after_all shown) (sym (items_one k xs steps s e))

-- the lines of the next step are followed by those of the steps behind it
pub lines_all : (id : ℕ) (shown now : Option Ctx) (n k : ℕ) (xs steps : List RunStep) (s : RunStep) → k < n → slice_get xs k ≡ Some s
    → now ≡ shown_after_all shown (items_behind steps (take k xs))
    → (rest : List ℕ)
    × (lines_of id shown (items_behind steps (take k xs)) ++ (lines_of id now (items_behind (steps ++ take k xs) (s ∷ [])) ++ rest)
    ≡ lines_of id shown (items_behind steps (take n xs)))
lines_all id shown now n k xs steps s lt e is =
    let r = taken_on n k xs s lt e in
    let one = take (k + 1) xs in
    let front = items_behind steps one in
    let more = items_behind (steps ++ one) r.0 in
    let rest = lines_of id (shown_after_all shown front) more in
    let all : items_behind steps (take n xs) ≡ front ++ more =
    ap (items_behind steps) (r.1 ∙ sym (append_assoc (take k xs) (s ∷ []) r.0) ∙ ap (λ l. l ++ r.0) (sym (take_one xs k s e))) ∙ items_joined steps one r.0 in (
      rest,
      sym (append_assoc (lines_of id shown (items_behind steps (take k xs))) (lines_of id now (items_behind (steps ++ take k xs) (s ∷ []))) rest)
          ∙ ap (λ l. l ++ rest) (lines_one id shown now k xs steps s e is) ∙ sym (lines_of-append id shown front more) ∙ ap (lines_of id shown) (sym all),
    )
