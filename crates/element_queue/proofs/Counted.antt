-- What a tally counts, beside what the same elements leave committed for good.
use Rattle.std.proofs.Common.{◌≡◌, ℕ, ◌+◌, List, [], ◌∷◌, ◌++◌, Ok, Err, refl, subst, arith}
use Rattle.std.specs.Prelude.{◌%◌, ◌^◌}
use Rattle.etm_types.specs.declared.element.Elem.{Elem}
use Rattle.etm_types.specs.declared.element.Elem.TheVariants as elem
use Rattle.etm_types.specs.declared.element.Thing.{Thing}
use Rattle.etm_types.specs.declared.element.Thing.TheVariants.{Seen}
use Rattle.etm_types.specs.declared.queue_fault.QueueFault.{QueueFault}
use Rattle.element_queue.specs.declared.ledger.Counts.{Counts}
use Rattle.element_queue.specs.Counting.{counts_after, entries, made_by, no_counts, p0s, tally, tally_step}
use Rattle.element_queue.specs.Pending.{Pending, Taken, taken}
use Rattle.element_queue.specs.Resolved.{Resolved, at_first, resolve_all, then_resolve, unresolved, with_done}

-- ---- what is made

p0s-cons : (e : Elem) (elements : List Elem) → p0s (e ∷ elements) ≡ made_by e + p0s elements
p0s-cons (elem.P0 p0) elements = omega arith
p0s-cons e elements = omega arith

-- a P0 element has no fault
none_made : (depth : ℕ) (p : Pending) (e : Elem) (fault : QueueFault) → taken depth p e ≡ Err fault → made_by e ≡ 0
none_made depth p (elem.P0 p0) fault h = absurd cc
none_made depth p e fault h = refl

made_last : (c : Counts) (made : ℕ) (e : Elem) (t : Taken) → ((fault : QueueFault) → t ≡ Err fault → made_by e ≡ 0)
    → c.made ≡ made % 2 ^ 64 → (tally_step c e t (λ p' c'. c')).made ≡ (made + p0s (e ∷ [])) % 2 ^ 64
made_last c made e (Ok t) none counted = omega (arith, p0s-cons e [])
made_last c made e (Err fault) none counted = let n = none fault refl in omega (arith, p0s-cons e [])

made_next : (depth made : ℕ) (r : Resolved) (done : List Thing) (c : Counts) (e : Elem) (t : Taken) (front : List Elem) (last : Elem)
    → c.made ≡ made % 2 ^ 64
    → ((next : Resolved) (c' : Counts) → c'.made ≡ (made + made_by e) % 2 ^ 64 → resolve_all depth next front ≡ Ok r
    → (tally depth next.pending c' (front ++ last ∷ [])).made ≡ (made + made_by e + p0s (front ++ last ∷ [])) % 2 ^ 64)
    → then_resolve (with_done done t) (λ next. resolve_all depth next front) ≡ Ok r
    → (tally_step c e t (λ p' c'. tally depth p' c' (front ++ last ∷ []))).made ≡ (made + p0s (e ∷ front ++ last ∷ [])) % 2 ^ 64
made_next depth made r done c e (Ok t) front last counted rest h =
    let now = rest (record { done = done ++ (t.1).committed; pending = t.0 }) (counts_after c (made_by e) t.1) (omega arith) h in
    omega (arith, p0s-cons e (front ++ last ∷ []))
made_next depth made r done c e (Err fault) front last counted rest h = absurd cc

made_from : (depth made : ℕ) (start r : Resolved) (c : Counts) (front : List Elem) (last : Elem) → c.made ≡ made % 2 ^ 64
    → resolve_all depth start front ≡ Ok r
    → (tally depth start.pending c (front ++ last ∷ [])).made ≡ (made + p0s (front ++ last ∷ [])) % 2 ^ 64
made_from depth made start r c [] last counted h =
    made_last c made last (taken depth start.pending last) (none_made depth start.pending last) counted
made_from depth made start r c (e ∷ front) last counted h =
    made_next depth made r start.done c e (taken depth start.pending e) front last counted
    (λ next c' now q. made_from depth (made + made_by e) next r c' front last now q) h

pub made_at_first : (depth : ℕ) (r : Resolved) (front : List Elem) (last : Elem) → resolve_all depth unresolved front ≡ Ok r
    → (tally depth at_first no_counts (front ++ last ∷ [])).made ≡ p0s (front ++ last ∷ []) % 2 ^ 64
made_at_first depth r front last h = omega (arith, made_from depth 0 unresolved r no_counts front last (omega arith) h)

-- ---- what is committed

entries-append : (xs ys : List Thing) → entries (xs ++ ys) ≡ entries xs + entries ys
entries-append [] ys = omega arith
entries-append (Seen entry ∷ xs) ys = omega (arith, entries-append xs ys)
entries-append (thing ∷ xs) ys = entries-append xs ys

committed_next : (depth : ℕ) (r : Resolved) (done : List Thing) (c : Counts) (e : Elem) (t : Taken) (elements : List Elem)
    → c.committed ≡ entries done % 2 ^ 64
    → ((next : Resolved) (c' : Counts) → c'.committed ≡ entries next.done % 2 ^ 64 → resolve_all depth next elements ≡ Ok r
    → (tally depth next.pending c' elements).committed ≡ entries r.done % 2 ^ 64)
    → then_resolve (with_done done t) (λ next. resolve_all depth next elements) ≡ Ok r
    → (tally_step c e t (λ p' c'. tally depth p' c' elements)).committed ≡ entries r.done % 2 ^ 64
committed_next depth r done c e (Ok t) elements counted rest h =
    rest (record { done = done ++ (t.1).committed; pending = t.0 }) (counts_after c (made_by e) t.1)
    (omega (arith, entries-append done (t.1).committed)) h
committed_next depth r done c e (Err fault) elements counted rest h = absurd cc

committed_from : (depth : ℕ) (start r : Resolved) (c : Counts) (elements : List Elem) → c.committed ≡ entries start.done % 2 ^ 64
    → resolve_all depth start elements ≡ Ok r → (tally depth start.pending c elements).committed ≡ entries r.done % 2 ^ 64
committed_from depth start r c [] counted h =
    let same : start ≡ r = cc in subst (λ (x : Resolved). c.committed ≡ entries x.done % 2 ^ 64) same counted
committed_from depth start r c (e ∷ elements) counted h =
    committed_next depth r start.done c e (taken depth start.pending e) elements counted
    (λ next c' now q. committed_from depth next r c' elements now q) h

pub committed_at_first : (depth : ℕ) (r : Resolved) (elements : List Elem) → resolve_all depth unresolved elements ≡ Ok r
    → (tally depth at_first no_counts elements).committed ≡ entries r.done % 2 ^ 64
committed_at_first depth r elements h = committed_from depth unresolved r no_counts elements (omega arith) h
