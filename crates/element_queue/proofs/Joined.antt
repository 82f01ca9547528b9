-- What the rules make of joined lists of elements.
use Rattle.std.proofs.Common.{◌≡◌, ℕ, suc, ◌-◌, ◌≤◌, Bool, true, false, if◌then◌else◌, List, [], ◌∷◌, ◌++◌, length, Option, Some}
use Rattle.std.proofs.Common.{None, Result, Ok, Err, refl, ap, subst, ◌∙◌, arith, append_assoc, append-nil}
use Rattle.std.proofs.lemmas.List.{length-take, length-drop}
use Rattle.std.specs.Prelude.{◌==◌, nat_le, ⊤}
use Rattle.std.specs.Option.{option_map}
use Rattle.etm_types.specs.Pre.{nothing_told}
use Rattle.etm_types.specs.declared.element.Elem.{Elem}
use Rattle.etm_types.specs.declared.element.Elem.TheVariants as elem
use Rattle.etm_types.specs.declared.element.Pre.{Pre}
use Rattle.etm_types.specs.declared.element.Thing.{Thing}
use Rattle.etm_types.specs.declared.element.Thing.TheVariants.{Seen}
use Rattle.etm_types.specs.declared.queue_fault.QueueFault.{QueueFault}
use Rattle.element_queue.specs.Pending.{Pending, Taken, taken, commits, flips, flip_newest, flip_thing}
use Rattle.element_queue.specs.Resolved.{Resolved, resolve, resolve_all, then_resolve, with_done}

-- ---- one by one

then_then : (r : Result Resolved QueueFault) (f g : Resolved → Result Resolved QueueFault)
    → then_resolve r (λ x. then_resolve (f x) g) ≡ then_resolve (then_resolve r f) g
then_then (Ok r) f g = refl
then_then (Err fault) f g = refl

then_same : (r : Result Resolved QueueFault) (f g : Resolved → Result Resolved QueueFault) → ((x : Resolved) → f x ≡ g x) → then_resolve r f ≡ then_resolve r g
then_same (Ok r) f g e = e r
then_same (Err fault) f g e = refl

pub one_by_one : (depth : ℕ) (r : Resolved) (first second : List Elem)
    → resolve_all depth r (first ++ second) ≡ then_resolve (resolve_all depth r first) (λ next. resolve_all depth next second)
one_by_one depth r [] second = refl
one_by_one depth r (e ∷ first) second =
    then_same (resolve depth r e) _ _ (λ next. one_by_one depth next first second)
    ∙ then_then (resolve depth r e) (λ next. resolve_all depth next first) (λ next. resolve_all depth next second)

-- ---- what is done

more_done : (t : Taken) (done : List Thing) (after : Resolved) → with_done done t ≡ Ok after → (more : List Thing) × (after.done ≡ done ++ more)
more_done (Ok t) done after e = ((t.1).committed, cc)
more_done (Err fault) done after e = absurd cc

more_all : (depth : ℕ) (r : Result Resolved QueueFault) (done : List Thing) (elements : List Elem) (after : Resolved)
    → ((next : Resolved) → r ≡ Ok next → (more : List Thing) × (next.done ≡ done ++ more))
    → ((next : Resolved) → resolve_all depth next elements ≡ Ok after → (more : List Thing) × (after.done ≡ next.done ++ more))
    → then_resolve r (λ next. resolve_all depth next elements) ≡ Ok after → (more : List Thing) × (after.done ≡ done ++ more)
more_all depth (Ok r) done elements after one rest e =
    let a = one r refl in let b = rest r e in (a.0 ++ b.0, b.1 ∙ ap (λ l. l ++ b.0) a.1 ∙ append_assoc done a.0 b.0)
more_all depth (Err fault) done elements after one rest e = absurd cc

pub stays_done : (depth : ℕ) (r after : Resolved) (elements : List Elem)
    → resolve_all depth r elements ≡ Ok after → (more : List Thing) × (after.done ≡ r.done ++ more)
stays_done depth r after [] e = ([], cc (append-nil r.done))
stays_done depth r after (e ∷ elements) h =
    more_all depth (resolve depth r e) r.done elements after (λ next q. more_done (taken depth r.pending e) r.done next q)
    (λ next q. stays_done depth next after elements q) h

-- ---- what is held

-- as long a list, where there is one
abbrev AsLong : List Thing → Option (List Thing) → Type 0
AsLong held None = ⊤
AsLong held (Some flipped) = length flipped ≡ length held

as_long_one : (thing : Thing) (o : Option Thing) → AsLong (thing ∷ []) (option_map (λ flipped. flipped ∷ []) o)
as_long_one thing None = tt
as_long_one thing (Some flipped) = refl

as_long_more : (thing : Thing) (things : List Thing) (o : Option (List Thing)) → AsLong things o → AsLong (thing ∷ things) (option_map (λ l. thing ∷ l) o)
as_long_more thing things None h = tt
as_long_more thing things (Some flipped) h = ap suc h

as_long : (held : List Thing) → AsLong held (flip_newest held)
as_long [] = tt
as_long (thing ∷ []) = as_long_one thing (flip_thing thing)
as_long (thing ∷ next ∷ things) = as_long_more thing (next ∷ things) (flip_newest (next ∷ things)) (as_long (next ∷ things))

-- where there is no fault, a trace info came and no more than the depth is held
abbrev Within : ℕ → Taken → Type 0
Within depth (Ok t) = ((t.0).informed ≡ true) × (length (t.0).held ≤ depth)
Within depth (Err fault) = ⊤

within_if : (depth : ℕ) (b : Bool) (x y : Taken) → Within depth x → Within depth y → Within depth (if b then x else y)
within_if depth true x y h k = h
within_if depth false x y h k = k

within_informed : (depth : ℕ) (b : Bool) (x y : Taken) → b ≡ true → Within depth x → Within depth (if b then x else y)
within_informed depth true x y e h = h
within_informed depth false x y e h = absurd cc

within_flip : (depth : ℕ) (p : Pending) (o : Option (List Thing)) → p.informed ≡ true → length p.held ≤ depth → AsLong p.held o → Within depth (flips p o)
within_flip depth p None i few h = tt
within_flip depth p (Some flipped) i few h = (i, omega arith)

within_commit : (depth n : ℕ) (p : Pending) (pre : Pre) (all : List Thing) → p.informed ≡ true → length all - n ≤ depth → Within depth (commits p pre all n)
within_commit depth n p pre all i few = (i, omega (arith, length-drop n all))

within : (depth : ℕ) (p : Pending) (e : Elem) → p.informed ≡ true → length p.held ≤ depth → Within depth (taken depth p e)
within depth p (elem.Info spec) i few = within_informed depth p.informed _ _ i (i, few)
within depth p elem.On i few = (i, few)
within depth p (elem.Ctx ctx) i few = (i, few)
within depth p (elem.Addr addr) i few = (i, few)
within depth p (elem.P0 p0) i few =
    let all : List Thing = p.held ++ Seen (record { pre = p.pre; p0 = p0 }) ∷ [] in
    within_commit depth (length all - depth) p nothing_told all i (omega arith)
within depth p (elem.Commit n) i few = within_if depth (nat_le n (length p.held)) _ _ (within_commit depth n p p.pre p.held i (omega arith)) tt
within depth p (elem.Cancel n) i few =
    within_if depth (n == 0) _ _ (i, few)
    (within_if depth (nat_le n (length p.held)) _ _ (i, omega (arith, length-take (length p.held - n) p.held)) tt)
within depth p elem.Flip i few = within_flip depth p (flip_newest p.held) i few (as_long p.held)
within depth p elem.Overflow i few = (i, omega arith)
within depth p elem.Discard i few = (i, omega arith)

within_all : (depth : ℕ) (t : Taken) (done : List Thing) (elements : List Elem) (after : Resolved) → Within depth t
    → ((next : Resolved) → next.pending.informed ≡ true → length next.pending.held ≤ depth → resolve_all depth next elements ≡ Ok after
    → length after.pending.held ≤ depth)
    → then_resolve (with_done done t) (λ next. resolve_all depth next elements) ≡ Ok after → length after.pending.held ≤ depth
within_all depth (Ok t) done elements after h rest e = rest _ h.0 h.1 e
within_all depth (Err fault) done elements after h rest e = absurd cc

pub no_more_held : (depth : ℕ) (r after : Resolved) (elements : List Elem) → r.pending.informed ≡ true → length r.pending.held ≤ depth
    → resolve_all depth r elements ≡ Ok after → length after.pending.held ≤ depth
no_more_held depth r after [] i few e =
    let same : r ≡ after = cc in subst (λ (x : Resolved). length x.pending.held ≤ depth) same few
no_more_held depth r after (e ∷ elements) i few h =
    within_all depth (taken depth r.pending e) r.done elements after (within depth r.pending e i few)
    (λ next j less q. no_more_held depth next after elements j less q) h
