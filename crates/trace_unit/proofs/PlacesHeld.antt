-- What is saved of the P0 steps of a window, and their P0 elements.
use Rattle.std.proofs.Common.{◌≡◌, ℕ, ◌-◌, ◌≤◌, false, List, [], ◌∷◌, length, map, take, drop, Some, None}
use Rattle.std.proofs.Common.{refl, sym, ap, subst, ◌∙◌}
use Rattle.std.proofs.lemmas.List.{drop-map, length-map, take-map}
use Rattle.std.proofs.lemmas.List.Elements.{All-head}
use Rattle.std.specs.Prelude.{All}
use Rattle.spec_run.specs.Steps.{kept, newest}
use Rattle.trace_unit.specs.Places.{Places, Saved, back_by, placed_back, without_stack}
use Rattle.trace_unit.specs.WindowKept.{StepKept, at_newest, oldest_saved, p0s_in, saved_in, step_emptied, turn_newest_p0, turn_step}

-- the newest is the other atom
pub p0s_turned : (steps : List StepKept) → p0s_in (at_newest turn_step steps) ≡ turn_newest_p0 (p0s_in steps)
p0s_turned [] = refl
p0s_turned (s ∷ []) = refl
p0s_turned (s ∷ t ∷ steps) = ap (λ l. s.p0 ∷ l) (p0s_turned (t ∷ steps))

pub saved_turned : (steps : List StepKept) → saved_in (at_newest turn_step steps) ≡ saved_in steps
saved_turned [] = refl
saved_turned (s ∷ []) = refl
saved_turned (s ∷ t ∷ steps) = ap (λ l. s.saved ∷ l) (saved_turned (t ∷ steps))

-- none is held
pub none_saved : (steps : List StepKept) → p0s_in steps ≡ [] → saved_in steps ≡ []
none_saved [] e = refl
none_saved (s ∷ steps) e = absurd cc

-- a reader has emptied its return stack
pub p0s_emptied : (steps : List StepKept) → p0s_in (map step_emptied steps) ≡ p0s_in steps
p0s_emptied [] = refl
p0s_emptied (s ∷ steps) = ap (λ l. s.p0 ∷ l) (p0s_emptied steps)

pub saved_emptied : (steps : List StepKept) → saved_in (map step_emptied steps) ≡ map without_stack (saved_in steps)
saved_emptied [] = refl
saved_emptied (s ∷ steps) = ap (λ l. without_stack s.saved ∷ l) (saved_emptied steps)

-- no more than so many return addresses are saved of the oldest
pub oldest_fits : (depth : ℕ) (steps : List StepKept) (v : Saved) → All (λ (s : StepKept). length s.saved.stack ≤ depth) steps → oldest_saved steps ≡ Some v
    → length v.stack ≤ depth
oldest_fits depth [] v all at = absurd cc
oldest_fits depth (s ∷ steps) v all at =
    let same : s.saved ≡ v = cc in
    subst (λ (v : Saved). length v.stack ≤ depth) same (All-head (λ (s : StepKept). length s.saved.stack ≤ depth) s steps all)

-- but for the newest of them
pub kept_map : {X Y : Type 0} (f : X → Y) (n : ℕ) (xs : List X) → map f (kept n xs) ≡ kept n (map f xs)
kept_map f n xs = sym (take-map f (length xs - n) xs) ∙ ap (λ m. take (m - n) (map f xs)) (sym (length-map xs f))

newest_map : {X Y : Type 0} (f : X → Y) (n : ℕ) (xs : List X) → map f (newest n xs) ≡ newest n (map f xs)
newest_map f n xs = sym (drop-map f (length xs - n) xs) ∙ ap (λ m. drop (m - n) (map f xs)) (sym (length-map xs f))

-- ---- back to the oldest of those that are taken back

-- where there is one
pub back_to : (p : Places) (n : ℕ) (steps : List StepKept) (v : Saved) → oldest_saved (newest n steps) ≡ Some v → {now : Places}
    → now ≡ record { stack = v.stack; saved = saved_in (kept n steps); needs = false; start = v.start; reader_context = v.context }
    → now ≡ placed_back (record p { saved = saved_in steps }) n
back_to p n steps v at is =
    let was : Places = record p { saved = saved_in steps } in
    is ∙ ap (λ l. record { stack = v.stack; saved = l; needs = false; start = v.start; reader_context = v.context }) (kept_map (λ (s : StepKept). s.saved) n steps)
    ∙ from was (kept n (saved_in steps)) (newest n steps) v at
    ∙ ap (λ l. record (back_by was l) { saved = kept n (saved_in steps) }) (newest_map (λ (s : StepKept). s.saved) n steps)
  where
    from : (p : Places) (rest : List Saved) (steps : List StepKept) (v : Saved) → oldest_saved steps ≡ Some v
        → record { stack = v.stack; saved = rest; needs = false; start = v.start; reader_context = v.context } ≡ record (back_by p (saved_in steps)) { saved = rest }
    from p rest [] v at = absurd cc
    from p rest (s ∷ steps) v at =
        let same : v ≡ s.saved = cc in
        ap (λ (v : Saved). record { stack = v.stack; saved = rest; needs = false; start = v.start; reader_context = v.context }) same

-- where there is none
pub stays : (p : Places) (n : ℕ) (steps : List StepKept) → oldest_saved (newest n steps) ≡ None
    → record p { saved = saved_in (kept n steps) } ≡ placed_back (record p { saved = saved_in steps }) n
stays p n steps at =
    let was : Places = record p { saved = saved_in steps } in
    ap (λ l. record p { saved = l }) (kept_map (λ (s : StepKept). s.saved) n steps)
    ∙ from was (kept n (saved_in steps)) (newest n steps) at
    ∙ ap (λ l. record (back_by was l) { saved = kept n (saved_in steps) }) (newest_map (λ (s : StepKept). s.saved) n steps)
  where
    from : (p : Places) (rest : List Saved) (steps : List StepKept) → oldest_saved steps ≡ None
        → record p { saved = rest } ≡ record (back_by p (saved_in steps)) { saved = rest }
    from p rest [] at = refl
    from p rest (s ∷ steps) at = absurd cc
