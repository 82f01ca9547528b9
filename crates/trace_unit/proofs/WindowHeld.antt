-- The P0 steps of a window.
use Rattle.std.proofs.Common.{◌≡◌, ℕ, zero, suc, ◌+◌, ◌-◌, ◌<◌, ◌≤◌, List, [], ◌∷◌, ◌++◌, length, map, take, drop, slice_get, slice_set, Some}
use Rattle.std.proofs.Common.{refl, sym, ap, ◌∙◌, arith}
use Rattle.std.proofs.lemmas.List.{length-take-le, map_push, same_from_push, set_at}
use Rattle.std.proofs.lemmas.List.Elements.{All-cons, All-head, All-nil, All-tail}
use Rattle.std.specs.Prelude.{All}
use Rattle.std.specs.Option.{option_map}
use Rattle.etm_types.specs.declared.element.P0.{P0}
use Rattle.element_queue.proofs.Flipped.{newest_of}
use Rattle.trace_unit.specs.WindowKept.{StepKept, at_newest, oldest_saved, p0s_in, step_emptied, turn_step, without_stacks}

-- ---- the newest

pub at_newest_push : {X : Type 0} (change : X → X) (xs : List X) (x : X) → at_newest change (xs ++ x ∷ []) ≡ xs ++ change x ∷ []
at_newest_push change [] x = refl
at_newest_push change (y ∷ []) x = refl
at_newest_push change (y ∷ z ∷ xs) x = ap (λ l. y ∷ l) (at_newest_push change (z ∷ xs) x)

-- what is written at the last index
pub newest_set : {X : Type 0} (change : X → X) (xs : List X) (n : ℕ) (x : X) → slice_get xs n ≡ Some x → n + 1 ≡ length xs
    → slice_set xs n (change x) ≡ at_newest change xs
newest_set change xs n x at last =
    let front = take n xs in
    let parts = newest_of xs n x at last in
    ap (λ l. slice_set l n (change x)) parts ∙ set_at front x [] (change x) n (length-take-le n xs (omega arith))
    ∙ sym (ap (at_newest change) parts ∙ at_newest_push change front x)

pub at_newest_all : {X : Type 0} (P : X → Type 0) (change : X → X) → ((x : X) → P x → P (change x)) → (xs : List X) → All P xs
    → All P (at_newest change xs)
at_newest_all P change keeps [] all = all
at_newest_all P change keeps (x ∷ []) all = All-cons P (change x) [] (keeps x (All-head P x [] all)) (All-nil P)
at_newest_all P change keeps (x ∷ y ∷ xs) all =
    All-cons P x (at_newest change (y ∷ xs)) (All-head P x (y ∷ xs) all) (at_newest_all P change keeps (y ∷ xs) (All-tail P x (y ∷ xs) all))

-- ---- the oldest, behind so many

-- where there is room for one more, and no more are held than there is room for, there is no room for any
pub no_room : (room held : ℕ) → (0 < room → held < room) → held ≡ room → room ≡ 0
no_room zero held space full = refl
no_room (suc room) held space full = let less = space (omega arith) in absurd (omega (arith, less, full))

pub none_left : {X : Type 0} (xs : List X) → length xs ≡ 0 → xs ≡ []
none_left [] e = refl
none_left (x ∷ xs) e = absurd (omega (arith, e))

pub oldest_at : (i : ℕ) (steps : List StepKept) → option_map (λ (s : StepKept). s.saved) (slice_get steps i) ≡ oldest_saved (drop i steps)
oldest_at zero [] = refl
oldest_at (suc i) [] = refl
oldest_at zero (s ∷ steps) = refl
oldest_at (suc i) (s ∷ steps) = oldest_at i steps

-- ---- without return addresses

none_emptied : (n : ℕ) → without_stacks n [] ≡ []
none_emptied zero = refl
none_emptied (suc n) = refl

pub emptied_length : (n : ℕ) (vs : List StepKept) → length (without_stacks n vs) ≡ length vs
emptied_length zero vs = refl
emptied_length (suc n) [] = refl
emptied_length (suc n) (x ∷ vs) = ap suc (emptied_length n vs)

-- without the oldest or the newest of them
pub emptied_drop : (i n m : ℕ) (vs : List StepKept) → m ≡ n - i → without_stacks m (drop i vs) ≡ drop i (without_stacks n vs)
emptied_drop zero n m vs h = let same : m ≡ n = omega (arith, h) in ap (λ k. without_stacks k vs) same
emptied_drop (suc i) zero zero vs h = refl
emptied_drop (suc i) zero (suc m) vs h = absurd (omega (arith, h))
emptied_drop (suc i) (suc n) m [] h = none_emptied m
emptied_drop (suc i) (suc n) m (x ∷ vs) h = emptied_drop i n m vs (omega (arith, h))

pub emptied_take : (n i m : ℕ) (vs : List StepKept) → m + (n - i) ≡ n → without_stacks m (take i vs) ≡ take i (without_stacks n vs)
emptied_take zero i zero vs h = refl
emptied_take zero i (suc m) vs h = absurd (omega (arith, h))
emptied_take (suc n) zero zero vs h = refl
emptied_take (suc n) zero (suc m) vs h = absurd (omega (arith, h))
emptied_take (suc n) (suc i) zero vs h = absurd (omega (arith, h))
emptied_take (suc n) (suc i) (suc m) [] h = refl
emptied_take (suc n) (suc i) (suc m) (x ∷ vs) h = ap (λ l. step_emptied x ∷ l) (emptied_take n i m vs (omega (arith, h)))

-- with another newest
pub emptied_turned : (n : ℕ) (vs : List StepKept) → without_stacks n (at_newest turn_step vs) ≡ at_newest turn_step (without_stacks n vs)
emptied_turned zero vs = refl
emptied_turned (suc n) [] = refl
emptied_turned (suc zero) (x ∷ []) = refl
emptied_turned (suc (suc n)) (x ∷ []) = refl
emptied_turned (suc zero) (x ∷ y ∷ vs) = refl
emptied_turned (suc (suc n)) (x ∷ y ∷ vs) = ap (λ l. step_emptied x ∷ l) (emptied_turned (suc n) (y ∷ vs))

emptied_p0s : (n : ℕ) (vs : List StepKept) → p0s_in (without_stacks n vs) ≡ p0s_in vs
emptied_p0s zero vs = refl
emptied_p0s (suc n) [] = refl
emptied_p0s (suc n) (x ∷ vs) = ap (λ l. x.p0 ∷ l) (emptied_p0s n vs)

-- the newest is the one that the P0 elements end in
pub newest_is : (e n : ℕ) (steps : List StepKept) (newest : StepKept) (p0s : List P0) (p0 : P0) → slice_get steps n ≡ Some newest → n + 1 ≡ length steps
    → p0s_in (without_stacks e steps) ≡ p0s ++ p0 ∷ [] → newest.p0 ≡ p0
newest_is e n steps newest p0s p0 at last ends =
    let front = take n steps in
    let split = ap p0s_in (newest_of steps n newest at last) ∙ map_push (λ (s : StepKept). s.p0) front newest in
    (same_from_push (p0s_in front) p0s newest.p0 p0 (sym split ∙ sym (emptied_p0s e steps) ∙ ends)).1

-- without any
pub all_emptied : (n i : ℕ) (vs : List StepKept) → length vs ≤ i → without_stacks i vs ≡ map step_emptied (without_stacks n vs)
all_emptied n zero [] h = sym (ap (map step_emptied) (none_emptied n))
all_emptied n (suc i) [] h = sym (ap (map step_emptied) (none_emptied n))
all_emptied n zero (x ∷ vs) h = absurd (omega arith)
all_emptied zero (suc i) (x ∷ vs) h = ap (λ l. step_emptied x ∷ l) (all_emptied zero i vs (omega arith))
all_emptied (suc n) (suc i) (x ∷ vs) h = ap (λ l. step_emptied x ∷ l) (all_emptied n i vs (omega arith))
