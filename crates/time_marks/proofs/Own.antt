-- Each P0 element has its own mark.
use Rattle.std.proofs.Common.{◌≡◌, ℕ, zero, suc, ◌+◌, ◌-◌, ◌≤◌, Bool, true, false, if◌then◌else◌, List, [], ◌∷◌, ◌++◌, length, map, take}
use Rattle.std.proofs.Common.{drop, replicate, Option, Some, None, Result, Ok, Err}
use Rattle.std.proofs.Common.{refl, ap, sym, ◌∙◌, subst, arith, append-nil, append_assoc, length-append, length-drop}
use Rattle.std.specs.Prelude.{nat_le, ◌==◌, not, slice_get}
use Rattle.std.specs.Option.{option_map}
use Rattle.std.proofs.Math.Seq.{take-add, take-length}
use Rattle.std.proofs.lemmas.List.{take-append-drop}
use Rattle.element_queue.specs.Counting.{entries, made_by}
use Rattle.element_queue.specs.Pending.{Gone, Pending, Taken, cancels, commits, flip_entry, flip_newest, flip_thing, flips, taken, tells}
use Rattle.element_queue.specs.Resolved.{Resolved, resolve_all, then_resolve, unresolved, with_done}
use Rattle.etm_types.specs.Pre.{nothing_told}
use Rattle.etm_types.specs.declared.element.Elem.{Elem}
use Rattle.etm_types.specs.declared.element.Elem.TheVariants as elem
use Rattle.etm_types.specs.declared.element.P0.{P0}
use Rattle.etm_types.specs.declared.element.P0.TheVariants.{Atom, Exc}
use Rattle.etm_types.specs.declared.element.Pre.{Pre}
use Rattle.etm_types.specs.declared.element.Thing.{Thing}
use Rattle.etm_types.specs.declared.element.Thing.TheVariants.{Gap, Seen, Stop, Unseen}
use Rattle.etm_types.specs.declared.queue_fault.QueueFault.{QueueFault}
use Rattle.time_marks.proofs.Resolving.{Conserves, OneEach, conserves, each_kept, marks_size}
use Rattle.time_marks.specs.MarkLaws.{CarryOwn, HasOwnMarks, MarksAreOwn, MayBe, Rise, after_numbered, p0s_in}
use Rattle.time_marks.specs.Stamps.{Stamp}
use Rattle.time_marks.specs.Times.{Times, after_element, mark_of, marks_left, marks_with, no_times, taken_so}

-- ---- lists of things and of their marks

module _ (p0s : List P0) where
  carry-append : (xs ys : List Thing) (ms ns : List Stamp) → CarryOwn p0s xs ms → CarryOwn p0s ys ns → CarryOwn p0s (xs ++ ys) (ms ++ ns)
  carry-append [] ys [] ns c d = d
  carry-append [] ys (m ∷ ms) ns c d = absurd c
  carry-append (Seen e ∷ xs) ys (Some n ∷ ms) ns c d = (c.0, carry-append xs ys ms ns c.1 d)
  carry-append (Seen e ∷ xs) ys (None ∷ ms) ns c d = absurd c
  carry-append (Seen e ∷ xs) ys [] ns c d = absurd c
  carry-append (Unseen ∷ xs) ys ms ns c d = carry-append xs ys ms ns c d
  carry-append (Gap ∷ xs) ys ms ns c d = carry-append xs ys ms ns c d
  carry-append (Stop ∷ xs) ys ms ns c d = carry-append xs ys ms ns c d

  -- the first things have the first marks, and the others the others
  carry_first : (xs ys : List Thing) (ms : List Stamp) → CarryOwn p0s (xs ++ ys) ms → CarryOwn p0s xs (take (entries xs) ms)
  carry_first [] ys ms c = tt
  carry_first (Seen e ∷ xs) ys (Some n ∷ ms) c = (c.0, carry_first xs ys ms c.1)
  carry_first (Seen e ∷ xs) ys (None ∷ ms) c = absurd c
  carry_first (Seen e ∷ xs) ys [] c = absurd c
  carry_first (Unseen ∷ xs) ys ms c = carry_first xs ys ms c
  carry_first (Gap ∷ xs) ys ms c = carry_first xs ys ms c
  carry_first (Stop ∷ xs) ys ms c = carry_first xs ys ms c

  carry_others : (xs ys : List Thing) (ms : List Stamp) → CarryOwn p0s (xs ++ ys) ms → CarryOwn p0s ys (drop (entries xs) ms)
  carry_others [] ys ms c = c
  carry_others (Seen e ∷ xs) ys (Some n ∷ ms) c = carry_others xs ys ms c.1
  carry_others (Seen e ∷ xs) ys (None ∷ ms) c = absurd c
  carry_others (Seen e ∷ xs) ys [] c = absurd c
  carry_others (Unseen ∷ xs) ys ms c = carry_others xs ys ms c
  carry_others (Gap ∷ xs) ys ms c = carry_others xs ys ms c
  carry_others (Stop ∷ xs) ys ms c = carry_others xs ys ms c

  pub carry_count : (xs : List Thing) (ms : List Stamp) → CarryOwn p0s xs ms → length ms ≡ entries xs
  carry_count [] [] c = refl
  carry_count [] (m ∷ ms) c = absurd c
  carry_count (Seen e ∷ xs) (Some n ∷ ms) c = ap suc (carry_count xs ms c.1)
  carry_count (Seen e ∷ xs) (None ∷ ms) c = absurd c
  carry_count (Seen e ∷ xs) [] c = absurd c
  carry_count (Unseen ∷ xs) ms c = carry_count xs ms c
  carry_count (Gap ∷ xs) ms c = carry_count xs ms c
  carry_count (Stop ∷ xs) ms c = carry_count xs ms c

  -- these are numbers
  pub carry_numbers : (xs : List Thing) (ms : List Stamp) → CarryOwn p0s xs ms → (ns : List ℕ) × (ms ≡ map Some ns)
  carry_numbers [] [] c = ([], refl)
  carry_numbers [] (m ∷ ms) c = absurd c
  carry_numbers (Seen e ∷ xs) (Some n ∷ ms) c = let later = carry_numbers xs ms c.1 in (n ∷ later.0, ap (λ (l : List Stamp). Some n ∷ l) later.1)
  carry_numbers (Seen e ∷ xs) (None ∷ ms) c = absurd c
  carry_numbers (Seen e ∷ xs) [] c = absurd c
  carry_numbers (Unseen ∷ xs) ms c = carry_numbers xs ms c
  carry_numbers (Gap ∷ xs) ms c = carry_numbers xs ms c
  carry_numbers (Stop ∷ xs) ms c = carry_numbers xs ms c

  carry_unseen : (n : ℕ) → CarryOwn p0s (replicate n Unseen) []
  carry_unseen zero = tt
  carry_unseen (suc n) = carry_unseen n

  carry_all : (xs : List Thing) (ms : List Stamp) → CarryOwn p0s xs ms → CarryOwn p0s xs (take (entries xs) ms)
  carry_all xs ms c = subst (CarryOwn p0s xs) (sym (ap (λ (k : ℕ). take k ms) (sym (carry_count xs ms c)) ∙ take-length ms)) c

  -- ---- a flip

  flip_may : (t : Bool) (p0 : P0) → MayBe (Atom t) p0 → MayBe (Atom (not t)) p0
  flip_may t (Atom other) same = tt
  flip_may t (Exc kind ret) same = absurd same

  flipped_own : (pre : Pre) (t : Bool) (ms : List Stamp) → CarryOwn p0s (Seen (record { pre = pre; p0 = Atom t }) ∷ []) ms
      → CarryOwn p0s (Seen (record { pre = pre; p0 = Atom (not t) }) ∷ []) ms
  flipped_own pre t (Some n ∷ ms) c = (record { p0 = (c.0).p0; there = (c.0).there; same = flip_may t ((c.0).p0) ((c.0).same) }, c.1)
  flipped_own pre t (None ∷ ms) c = absurd c
  flipped_own pre t [] c = absurd c

  abbrev FlipsOwn : Option (List Thing) → List Thing → Type 0
  FlipsOwn flipped held = (after : List Thing) (ms : List Stamp) → flipped ≡ Some after → CarryOwn p0s held ms → CarryOwn p0s after ms

  same_after : (xs after : List Thing) (ms : List Stamp) → ◌≡◌ {A = Option (List Thing)} (Some xs) (Some after) → CarryOwn p0s xs ms → CarryOwn p0s after ms
  same_after xs after ms is c = let e : xs ≡ after = cc in subst (λ (l : List Thing). CarryOwn p0s l ms) e c

  seen_own : (pre : Pre) (p0 : P0) → FlipsOwn (option_map (λ (f : Thing). f ∷ []) (flip_entry pre p0)) (Seen (record { pre = pre; p0 = p0 }) ∷ [])
  seen_own pre (Atom t) after ms is c = same_after (Seen (record { pre = pre; p0 = Atom (not t) }) ∷ []) after ms is (flipped_own pre t ms c)
  seen_own pre (Exc kind ret) after ms is c = absurd cc

  one_own : (thing : Thing) → FlipsOwn (option_map (λ (f : Thing). f ∷ []) (flip_thing thing)) (thing ∷ [])
  one_own (Seen entry) after ms is c = seen_own entry.pre entry.p0 after ms is c
  one_own Unseen after ms is c = same_after (Unseen ∷ []) after ms is c
  one_own Gap after ms is c = absurd cc
  one_own Stop after ms is c = absurd cc

  own_before : (thing : Thing) (held xs : List Thing) → ((ms : List Stamp) → CarryOwn p0s held ms → CarryOwn p0s xs ms)
      → (ms : List Stamp) → CarryOwn p0s (thing ∷ held) ms → CarryOwn p0s (thing ∷ xs) ms
  own_before (Seen e) held xs later (Some n ∷ ms) c = (c.0, later ms c.1)
  own_before (Seen e) held xs later (None ∷ ms) c = absurd c
  own_before (Seen e) held xs later [] c = absurd c
  own_before Unseen held xs later ms c = later ms c
  own_before Gap held xs later ms c = later ms c
  own_before Stop held xs later ms c = later ms c

  own_behind : (thing : Thing) (held : List Thing) (flipped : Option (List Thing)) → FlipsOwn flipped held
      → FlipsOwn (option_map (λ (f : List Thing). thing ∷ f) flipped) (thing ∷ held)
  own_behind thing held None later after ms is c = absurd cc
  own_behind thing held (Some xs) later after ms is c =
      same_after (thing ∷ xs) after ms is (own_before thing held xs (λ ns d. later xs ns refl d) ms c)

  flip_own : (held : List Thing) → FlipsOwn (flip_newest held) held
  flip_own [] after ms is c = absurd cc
  flip_own (thing ∷ []) after ms is c = one_own thing after ms is c
  flip_own (thing ∷ next ∷ things) after ms is c =
      own_behind thing (next ∷ things) (flip_newest (next ∷ things)) (flip_own (next ∷ things)) after ms is c

  -- ---- what is committed and what is held

  abbrev things_made : Pending → Elem → List Thing
  things_made p (elem.P0 p0) = Seen (record { pre = p.pre; p0 = p0 }) ∷ []
  things_made p e = []

  abbrev Own : Pending → Gone → List Stamp → Type 0
  Own p g ms = CarryOwn p0s g.committed (take (entries g.committed) ms) × CarryOwn p0s p.held (take (entries p.held) (drop (entries g.committed) ms))

  abbrev OwnIn : List Thing → Taken → Type 0
  OwnIn all (Ok x) = (ms : List Stamp) → CarryOwn p0s all ms → Own x.0 x.1 ms
  OwnIn all (Err f) = Unit {0}

  bare : (xs : List Thing) (ms : List Stamp) → CarryOwn p0s (xs ++ []) ms → CarryOwn p0s xs ms
  bare xs ms c = subst (λ (l : List Thing). CarryOwn p0s l ms) (append-nil xs) c

  own_if : (b : Bool) (all : List Thing) (one other : Taken) → OwnIn all one → OwnIn all other → OwnIn all (if b then one else other)
  own_if true all one other is also = is
  own_if false all one other is also = also

  tells_own : (p : Pending) (pre : Pre) → OwnIn (p.held ++ []) (tells p pre)
  tells_own p pre ms c = (tt, carry_first p.held [] ms c)

  commits_own : (p : Pending) (pre : Pre) (all : List Thing) (n : ℕ) → OwnIn all (commits p pre all n)
  commits_own p pre all n ms c =
      let parts = subst (λ (l : List Thing). CarryOwn p0s l ms) (sym (take-append-drop n all)) c in (
        carry_first (take n all) (drop n all) ms parts,
        carry_all (drop n all) (drop (entries (take n all)) ms) (carry_others (take n all) (drop n all) ms parts),
      )

  cancels_own : (p : Pending) (n : ℕ) → OwnIn (p.held ++ []) (cancels p n)
  cancels_own p n ms c =
      let k = length p.held - n in
      (tt, carry_first (take k p.held) (drop k p.held) ms (subst (λ (l : List Thing). CarryOwn p0s l ms) (sym (take-append-drop k p.held)) (bare p.held ms c)))

  first_own : (p : Pending) (pre : Pre) (spec : ℕ) → OwnIn (p.held ++ [])
      (Ok (record { held = p.held ++ replicate spec Unseen; pre = pre; informed = true }, record { committed = []; cancelled = []; lost = [] }))
  first_own p pre spec ms c =
      let marks = subst (CarryOwn p0s (p.held ++ replicate spec Unseen)) (append-nil ms)
      (carry-append p.held (replicate spec Unseen) ms [] (bare p.held ms c) (carry_unseen spec)) in
      (tt, carry_all (p.held ++ replicate spec Unseen) ms marks)

  flips_own : (p : Pending) (flipped : Option (List Thing)) → flip_newest p.held ≡ flipped → OwnIn (p.held ++ []) (flips p flipped)
  flips_own p None is = tt
  flips_own p (Some held) is = λ ms c. (tt, carry_all held ms (flip_own p.held held ms is (bare p.held ms c)))

  owns : (depth : ℕ) (p : Pending) (e : Elem) → OwnIn (p.held ++ things_made p e) (taken depth p e)
  owns depth p (elem.Info spec) =
      own_if p.informed (p.held ++ []) _ _ (tells_own p (record (p.pre) { flush = true }))
      (own_if (nat_le spec depth) (p.held ++ []) _ _ (first_own p (record (p.pre) { flush = true }) spec) tt)
  owns depth p elem.On = tells_own p (record (p.pre) { on = true; addr = None })
  owns depth p (elem.Ctx ctx) = tells_own p (record (p.pre) { ctx = Some ctx })
  owns depth p (elem.Addr addr) = tells_own p (record (p.pre) { addr = Some addr })
  owns depth p (elem.P0 p0) =
      let all = p.held ++ Seen (record { pre = p.pre; p0 = p0 }) ∷ [] in commits_own p nothing_told all (length all - depth)
  owns depth p (elem.Commit n) =
      own_if (nat_le n (length p.held)) (p.held ++ []) _ _ (λ ms c. commits_own p p.pre p.held n ms (bare p.held ms c)) tt
  owns depth p (elem.Cancel n) =
      own_if (n == 0) (p.held ++ []) _ _ (tells_own p p.pre) (own_if (nat_le n (length p.held)) (p.held ++ []) _ _ (cancels_own p n) tt)
  owns depth p elem.Flip = flips_own p (flip_newest p.held) refl
  owns depth p elem.Overflow = λ ms c. (tt, tt)
  owns depth p elem.Discard = λ ms c. (tt, tt)

-- ---- more P0 elements

abbrev p0_of : Elem → List P0
p0_of (elem.P0 p0) = p0 ∷ []
p0_of e = []

pub get_more : {A : Type 0} (xs ys : List A) (k : ℕ) (x : A) → slice_get xs k ≡ Some x → slice_get (xs ++ ys) k ≡ Some x
get_more [] ys k x is = absurd cc
get_more (y ∷ xs) ys zero x is = is
get_more (y ∷ xs) ys (suc k) x is = get_more xs ys k x is

pub get_last : {A : Type 0} (xs : List A) (x : A) → slice_get (xs ++ x ∷ []) (length xs) ≡ Some x
get_last [] x = refl
get_last (y ∷ xs) x = get_last xs x

module _ (xs ys : List P0) where
  carry_more : (things : List Thing) (ms : List Stamp) → CarryOwn xs things ms → CarryOwn (xs ++ ys) things ms
  carry_more [] [] c = tt
  carry_more [] (m ∷ ms) c = absurd c
  carry_more (Seen e ∷ things) (Some n ∷ ms) c =
      (record { p0 = (c.0).p0; there = get_more xs ys n ((c.0).p0) ((c.0).there); same = (c.0).same }, carry_more things ms c.1)
  carry_more (Seen e ∷ things) (None ∷ ms) c = absurd c
  carry_more (Seen e ∷ things) [] c = absurd c
  carry_more (Unseen ∷ things) ms c = carry_more things ms c
  carry_more (Gap ∷ things) ms c = carry_more things ms c
  carry_more (Stop ∷ things) ms c = carry_more things ms c

may_self : (p0 : P0) → MayBe p0 p0
may_self (Atom t) = tt
may_self (Exc kind ret) = (refl, refl)

-- ---- numbers rise

pub rise_first : (low high : ℕ) (xs ys : List Stamp) → Rise low (xs ++ ys) high → Rise low xs high
rise_first low high [] ys rise = within low ys rise
  where
    within : (low : ℕ) (ys : List Stamp) → Rise low ys high → low ≤ high
    within low [] rise = rise
    within low (Some n ∷ ys) rise = let few = within (n + 1) ys rise.1 in omega (arith, rise.0, few)
    within low (None ∷ ys) rise = absurd rise
rise_first low high (Some n ∷ xs) ys rise = (rise.0, rise_first (n + 1) high xs ys rise.1)
rise_first low high (None ∷ xs) ys rise = absurd rise

rise_one : (low high : ℕ) (xs : List Stamp) → Rise low xs high → Rise low (xs ++ Some high ∷ []) (high + 1)
rise_one low high [] rise = (rise, omega arith)
rise_one low high (Some n ∷ xs) rise = (rise.0, rise_one (n + 1) high xs rise.1)
rise_one low high (None ∷ xs) rise = absurd rise

-- ---- one element more

module _ (p0s : List P0) (r : Resolved) (t : Times) (is : HasOwnMarks p0s r t) (each : OneEach t) (e : Elem) where
  abbrev n : ℕ
  n = length p0s

  abbrev now : Times
  now = record t { stamp = Some n }

  abbrev more : List P0
  more = p0s ++ p0_of e

  abbrev marks : List Stamp
  marks = marks_with now e

  held_own : CarryOwn p0s ((t.pending).held) t.held
  held_own = subst (λ (p : Pending). CarryOwn p0s p.held t.held) (sym is.pending) is.held

  held_alone : CarryOwn (p0s ++ []) ((t.pending).held ++ []) (t.held ++ [])
  held_alone = carry-append (p0s ++ []) ((t.pending).held) [] t.held [] (carry_more p0s [] ((t.pending).held) t.held held_own) tt

  rise_alone : Rise 0 (t.done ++ (t.held ++ [])) (n + 0)
  rise_alone = subst (λ (ms : List Stamp). Rise 0 (t.done ++ ms) (n + 0)) (sym (append-nil t.held)) (subst (Rise 0 (t.done ++ t.held)) (omega arith) is.rise)

  -- the marks of all that was held, and of a new one
  all_own : (x : Elem) → CarryOwn (p0s ++ p0_of x) ((t.pending).held ++ things_made p0s t.pending x) (t.held ++ mark_of (Some n) x)
      × Rise 0 (t.done ++ (t.held ++ mark_of (Some n) x)) (n + made_by x)
  all_own (elem.P0 p0) = (
    carry-append (p0s ++ p0 ∷ []) ((t.pending).held) (Seen (record { pre = (t.pending).pre; p0 = p0 }) ∷ []) t.held (Some n ∷ [])
        (carry_more p0s (p0 ∷ []) ((t.pending).held) t.held held_own) (record { p0 = p0; there = get_last p0s p0; same = may_self p0 }, tt),
    subst (λ (ms : List Stamp). Rise 0 ms (n + 1)) (append_assoc t.done t.held (Some n ∷ [])) (rise_one 0 n (t.done ++ t.held) is.rise),
  )
  all_own (elem.Info spec) = (held_alone, rise_alone)
  all_own elem.On = (held_alone, rise_alone)
  all_own (elem.Ctx ctx) = (held_alone, rise_alone)
  all_own (elem.Addr addr) = (held_alone, rise_alone)
  all_own (elem.Commit m) = (held_alone, rise_alone)
  all_own (elem.Cancel m) = (held_alone, rise_alone)
  all_own elem.Flip = (held_alone, rise_alone)
  all_own elem.Overflow = (held_alone, rise_alone)
  all_own elem.Discard = (held_alone, rise_alone)

  size : length more ≡ n + made_by e
  size = by e
    where
      by : (x : Elem) → length (p0s ++ p0_of x) ≡ n + made_by x
      by (elem.P0 p0) = length-append p0s (p0 ∷ [])
      by (elem.Info spec) = length-append p0s []
      by elem.On = length-append p0s []
      by (elem.Ctx ctx) = length-append p0s []
      by (elem.Addr addr) = length-append p0s []
      by (elem.Commit m) = length-append p0s []
      by (elem.Cancel m) = length-append p0s []
      by elem.Flip = length-append p0s []
      by elem.Overflow = length-append p0s []
      by elem.Discard = length-append p0s []

  module _ (x : Pending × Gone) (own : OwnIn more ((t.pending).held ++ things_made p0s t.pending e) (Ok x)) (kept : Conserves t.pending e (Ok x)) where
    abbrev a : ℕ
    a = entries (x.1).committed

    abbrev b : ℕ
    b = entries (x.0).held

    abbrev behind : List Stamp
    behind = drop a marks

    -- as many marks stay as P0 elements that were seen
    left_is : marks_left x.1 marks ≡ take b behind
    left_is =
        let count : length behind - (entries (x.1).cancelled + entries (x.1).lost) ≡ b =
        omega (arith, kept, marks_size 0 now e each, length-drop a marks) in
        ap (λ (k : ℕ). take k behind) count

    one_more : HasOwnMarks more (record { done = r.done ++ (x.1).committed; pending = x.0 }) (taken_so 0 now e (Ok x))
    one_more =
        let all = all_own e in let goes = own marks all.0 in
        let front : t.done ++ (take a marks ++ take b behind) ≡ t.done ++ take (a + b) marks =
        ap (λ (ms : List Stamp). t.done ++ ms) (sym (take-add a b marks)) in
        let whole : t.done ++ marks ≡ (t.done ++ take (a + b) marks) ++ drop (a + b) marks =
        ap (λ (ms : List Stamp). t.done ++ ms) (sym (take-append-drop (a + b) marks)) ∙ sym (append_assoc t.done (take (a + b) marks) (drop (a + b) marks)) in
        let rise = rise_first 0 (n + made_by e) (t.done ++ take (a + b) marks) (drop (a + b) marks)
        (subst (λ (ms : List Stamp). Rise 0 ms (n + made_by e)) whole all.1) in
        record {
          pending = refl;
          done = carry-append more r.done (x.1).committed t.done (take a marks) (carry_more p0s (p0_of e) r.done t.done is.done) goes.0;
          held = subst (CarryOwn more ((x.0).held)) (sym left_is) goes.1;
          rise = subst (λ (ms : List Stamp). Rise 0 ((t.done ++ take a marks) ++ ms) (length more)) (sym left_is)
              (subst (λ (ms : List Stamp). Rise 0 ms (length more)) (sym (append_assoc t.done (take a marks) (take b behind) ∙ front))
              (subst (Rise 0 (t.done ++ take (a + b) marks)) (sym size) rise));
        }

-- ---- all elements

p0s_first : (p0s : List P0) (e : Elem) (es : List Elem) → p0s ++ p0s_in (e ∷ es) ≡ (p0s ++ p0_of e) ++ p0s_in es
p0s_first p0s (elem.P0 p0) es = sym (append_assoc p0s (p0 ∷ []) (p0s_in es))
p0s_first p0s (elem.Info spec) es = ap (λ (l : List P0). l ++ p0s_in es) (sym (append-nil p0s))
p0s_first p0s elem.On es = ap (λ (l : List P0). l ++ p0s_in es) (sym (append-nil p0s))
p0s_first p0s (elem.Ctx ctx) es = ap (λ (l : List P0). l ++ p0s_in es) (sym (append-nil p0s))
p0s_first p0s (elem.Addr addr) es = ap (λ (l : List P0). l ++ p0s_in es) (sym (append-nil p0s))
p0s_first p0s (elem.Commit m) es = ap (λ (l : List P0). l ++ p0s_in es) (sym (append-nil p0s))
p0s_first p0s (elem.Cancel m) es = ap (λ (l : List P0). l ++ p0s_in es) (sym (append-nil p0s))
p0s_first p0s elem.Flip es = ap (λ (l : List P0). l ++ p0s_in es) (sym (append-nil p0s))
p0s_first p0s elem.Overflow es = ap (λ (l : List P0). l ++ p0s_in es) (sym (append-nil p0s))
p0s_first p0s elem.Discard es = ap (λ (l : List P0). l ++ p0s_in es) (sym (append-nil p0s))

same_ok : (a b : Resolved) → ◌≡◌ {A = Result Resolved QueueFault} (Ok a) (Ok b) → a ≡ b
same_ok a b e = cc

-- what the others come to, from where one led
abbrev Later : ℕ → List P0 → List Elem → Resolved → Type 0
Later depth p0s es after =
    (r : Resolved) (t : Times) → HasOwnMarks p0s r t → OneEach t → resolve_all depth r es ≡ Ok after
    → HasOwnMarks (p0s ++ p0s_in es) after (after_numbered depth (length p0s) t es)

step_own : (depth : ℕ) (p0s : List P0) (r after : Resolved) (t : Times) (is : HasOwnMarks p0s r t) (each : OneEach t) (e : Elem) (es : List Elem)
    (outcome : Taken)
    → OwnIn (p0s ++ p0_of e) ((t.pending).held ++ things_made p0s t.pending e) outcome → Conserves t.pending e outcome
    → Later depth (p0s ++ p0_of e) es after
    → then_resolve (with_done r.done outcome) (λ next. resolve_all depth next es) ≡ Ok after
    → HasOwnMarks ((p0s ++ p0_of e) ++ p0s_in es) after
    (after_numbered depth (length (p0s ++ p0_of e)) (taken_so 0 (record t { stamp = Some (length p0s) }) e outcome) es)
step_own depth p0s r after t is each e es (Ok x) own kept later ok =
    later (record { done = r.done ++ (x.1).committed; pending = x.0 }) (taken_so 0 (record t { stamp = Some (length p0s) }) e (Ok x))
    (one_more p0s r t is each e x own kept) (each_kept 0 (record t { stamp = Some (length p0s) }) e each (Ok x) kept) ok
step_own depth p0s r after t is each e es (Err f) own kept later ok = absurd cc

own_all : (depth : ℕ) (p0s : List P0) (es : List Elem) (after : Resolved) → Later depth p0s es after
own_all depth p0s [] after r t is each ok =
    subst (λ (x : Resolved). HasOwnMarks (p0s ++ []) x t) (same_ok r after ok) (subst (λ (l : List P0). HasOwnMarks l r t) (sym (append-nil p0s)) is)
own_all depth p0s (e ∷ es) after r t is each ok =
    let now : Times = record t { stamp = Some (length p0s) } in let more = p0s ++ p0_of e in
    let so = step_own depth p0s r after t is each e es (taken depth t.pending e) (owns more depth t.pending e) (conserves depth t.pending e)
    (λ next u there one rest. own_all depth more es after next u there one rest)
    (ap (λ (p : Pending). then_resolve (with_done r.done (taken depth p e)) (λ next. resolve_all depth next es)) is.pending ∙ ok) in
    subst (λ (l : List P0). HasOwnMarks l after (after_numbered depth (length p0s + made_by e) (after_element depth 0 now e) es)) (sym (p0s_first p0s e es))
    (subst (λ (k : ℕ). HasOwnMarks (more ++ p0s_in es) after (after_numbered depth k (after_element depth 0 now e) es)) (size p0s r t is each e) so)

pub marks_are_own : MarksAreOwn
marks_are_own depth elements r ok =
    own_all depth [] elements r unresolved no_times (record { pending = refl; done = tt; held = tt; rise = omega arith }) refl ok
