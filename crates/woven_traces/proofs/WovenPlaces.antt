-- The trace of an ID among others, by its place.
use Rattle.std.proofs.Common.{◌≡◌, ℕ, zero, suc, ◌+◌, ◌<◌, ◌≤◌, ◌==◌, if◌then◌else◌, Bool, true, false, cond, List, [], ◌∷◌, ◌++◌, length, take, drop, get_or}
use Rattle.std.proofs.Common.{Some, None, inl, inr, refl, sym, ap, ◌∙◌, arith, length-drop}
use Rattle.std.specs.Prelude.{◌||◌, nat_lt, not, position, slice_get, slice_set}
use Rattle.std.specs.List.{position_or_len}
use Rattle.std.proofs.lemmas.Bool.{eqb-true, ltb-false, ltb-true}
use Rattle.std.proofs.lemmas.List.{drop_all, drop_more, take_all}
use Rattle.std.proofs.lemmas.Option.{get_or_from_slice_get, slice_get_cases, slice_get_within}
use Rattle.run_file.specs.declared.line.Weave.{Weave}
use Rattle.woven_traces.proofs.WovenWhole.{neither, next_none}
use Rattle.woven_traces.specs.Weaving.{all_left, is_of, left_of}
use Rattle.woven_traces.specs.Woven.{has_id, in_a_row, left_behind, next_of, under, woven}
use Rattle.woven_traces.specs.declared.weaving.Trace.{Trace}

-- ---- there is one

-- a weave of this ID takes of this trace, at this place
pub record IsNext (id count : ℕ) (traces : List Trace) (k : ℕ) (t : Trace) : Type 0 where
  pub own : t.id ≡ id
  pub next : next_of id count (all_left traces) ≡ take count (left_of t).1
  pub left : (u : Trace) → left_of u ≡ (t.id, drop count (left_of t).1) → all_left (slice_set traces k u) ≡ left_behind id count (all_left traces)

next_at : (id count : ℕ) (traces : List Trace) (k : ℕ) (t : Trace) → k ≡ position_or_len (is_of id) traces → k < length traces
    → t ≡ get_or traces k t → IsNext id count traces k t
next_at id count [] k t at within is = absurd (omega (arith, within))
next_at id count (x ∷ traces) k t at within is = by (is_of id x) refl k at within is (λ n. next_at id count traces n t)
  where
    some : Bool → List (ℕ × List ℕ)
    some b = if b then (x.id, drop count (left_of x).1) ∷ all_left traces else left_of x ∷ left_behind id count (all_left traces)

    by : (b : Bool) → is_of id x ≡ b → (n : ℕ) → n ≡ cond (not b) (1 + position_or_len (is_of id) traces) 0 → n < length (x ∷ traces)
        → t ≡ get_or (x ∷ traces) n t
        → ((m : ℕ) → m ≡ position_or_len (is_of id) traces → m < length traces → t ≡ get_or traces m t → IsNext id count traces m t)
        → IsNext id count (x ∷ traces) n t
    by true e zero at within is more = record {
      own = ap (λ (u : Trace). u.id) is ∙ eqb-true x.id id e;
      next = ap (λ (b : Bool). if b then take count (left_of x).1 else next_of id count (all_left traces)) e
          ∙ ap (λ (u : Trace). take count (left_of u).1) (sym is);
      left = λ u same.
          ap (λ (p : ℕ × List ℕ). p ∷ all_left traces) (same ∙ ap (λ (v : Trace). (v.id, drop count (left_of v).1)) is) ∙ sym (ap some e);
    }
    by true e (suc n) at within is more = absurd (omega (arith, at))
    by false e zero at within is more = absurd (omega (arith, at))
    by false e (suc n) at within is more =
        let later = more n (omega (arith, at)) (omega (arith, within)) is in
        record {
          own = later.own;
          next = ap (λ (b : Bool). if b then take count (left_of x).1 else next_of id count (all_left traces)) e ∙ later.next;
          left = λ u same. ap (λ (l : List (ℕ × List ℕ)). left_of x ∷ l) (later.left u same) ∙ sym (ap some e);
        }

place_is : {X : Type 0} (p : X → Bool) (xs : List X) (k : ℕ) → position p xs ≡ Some k → (k ≡ position_or_len p xs) × (k < length xs)
place_is p xs k is = by (nat_lt (position_or_len p xs) (length xs)) refl is
  where
    by : (b : Bool) → nat_lt (position_or_len p xs) (length xs) ≡ b → cond b (Some (position_or_len p xs)) None ≡ Some k
        → (k ≡ position_or_len p xs) × (k < length xs)
    by true e same =
        let here : k ≡ position_or_len p xs = cc in
        let lt = ltb-true (position_or_len p xs) (length xs) e in (here, omega (arith, here, lt))
    by false e same = absurd cc

pub next_found : (id count : ℕ) (traces : List Trace) (k : ℕ) (t : Trace) → position (is_of id) traces ≡ Some k → t ≡ get_or traces k t
    → IsNext id count traces k t
next_found id count traces k t found is =
    let at = place_is (is_of id) traces k found in next_at id count traces k t at.0 at.1 is

-- ---- one trace after the other

-- what is left of all from a place on is what is left of the trace there, and then of those behind it
pub next_left : (traces : List Trace) (k count : ℕ) (d : Trace) → k < length traces → length (get_or traces k d).bytes.items ≤ count
    → in_a_row (all_left (drop k traces))
    ≡ under (get_or traces k d).id (take count (left_of (get_or traces k d)).1) ++ in_a_row (all_left (drop (k + 1) traces))
next_left traces k count d within few =
    let t = get_or traces k d in
    ap (λ (l : List Trace). in_a_row (all_left l)) (drop_more traces k d within)
    ∙ ap (λ (l : List ℕ). under t.id l ++ in_a_row (all_left (drop (k + 1) traces)))
    (sym (take_all count (left_of t).1 (omega (arith, few, length-drop t.woven t.bytes.items))))

-- ---- there is none

none_there : (id : ℕ) (traces : List Trace) → length traces ≤ position_or_len (is_of id) traces → has_id id (all_left traces) ≡ false
none_there id [] none = refl
none_there id (x ∷ traces) none = by (is_of id x) refl none (none_there id traces)
  where
    by : (b : Bool) → is_of id x ≡ b → length (x ∷ traces) ≤ cond (not b) (1 + position_or_len (is_of id) traces) 0
        → (length traces ≤ position_or_len (is_of id) traces → has_id id (all_left traces) ≡ false) → has_id id (all_left (x ∷ traces)) ≡ false
    by true e few more = absurd (omega (arith, few))
    by false e few more = ap (λ (b : Bool). b || has_id id (all_left traces)) e ∙ more (omega (arith, few))

no_place : {X : Type 0} (p : X → Bool) (xs : List X) → position p xs ≡ None → length xs ≤ position_or_len p xs
no_place p xs is = by (nat_lt (position_or_len p xs) (length xs)) refl is
  where
    by : (b : Bool) → nat_lt (position_or_len p xs) (length xs) ≡ b → cond b (Some (position_or_len p xs)) None ≡ None
        → length xs ≤ position_or_len p xs
    by true e same = absurd cc
    by false e same = ltb-false (position_or_len p xs) (length xs) e

all_stay : (id count : ℕ) (streams : List (ℕ × List ℕ)) → has_id id streams ≡ false → left_behind id count streams ≡ streams
all_stay id count [] none = refl
all_stay id count (s ∷ streams) none =
    let parts = neither (s.0 == id) (has_id id streams) none in
    ap (λ (b : Bool). if b then (s.0, drop count s.1) ∷ streams else s ∷ left_behind id count streams) parts.0
    ∙ ap (λ (l : List (ℕ × List ℕ)). s ∷ l) (all_stay id count streams parts.1)

-- a weave of this ID takes nothing
pub none_found : (id count : ℕ) (traces : List Trace) → position (is_of id) traces ≡ None
    → (next_of id count (all_left traces) ≡ []) × (all_left traces ≡ left_behind id count (all_left traces))
none_found id count traces none =
    let no_id = none_there id traces (no_place (is_of id) traces none) in
    (next_none id count (all_left traces) no_id, sym (all_stay id count (all_left traces) no_id))

-- ---- one weave after the other

-- weaves from a place on are the one there, and then those behind it
pub next_weave : (weaves : List Weave) (k : ℕ) (w : Weave) (streams after : List (ℕ × List ℕ)) → slice_get weaves k ≡ Some w
    → after ≡ left_behind w.id w.count streams
    → woven (drop k weaves) streams ≡ under w.id (next_of w.id w.count streams) ++ woven (drop (k + 1) weaves) after
next_weave weaves k w streams after is left =
    let lt = slice_get_within weaves k w is in
    ap (λ (l : List Weave). woven l streams)
    (drop_more weaves k w lt ∙ ap (λ (v : Weave). v ∷ drop (k + 1) weaves) (get_or_from_slice_get weaves k w w is))
    ∙ ap (λ (s : List (ℕ × List ℕ)). under w.id (next_of w.id w.count streams) ++ woven (drop (k + 1) weaves) s) (sym left)

-- behind the last of them what is left comes in a row
pub last_weave : (weaves : List Weave) (k : ℕ) (streams : List (ℕ × List ℕ)) → slice_get weaves k ≡ None
    → woven (drop k weaves) streams ≡ in_a_row streams
last_weave weaves k streams none = ap (λ (l : List Weave). woven l streams) (drop_all k weaves (past weaves k none))
  where
    past : (ws : List Weave) (n : ℕ) → slice_get ws n ≡ None → length ws ≤ n
    past ws n e = elim (slice_get_cases ws n).1 [
      | inl w ↦ absurd (let there = w.2 in cc)
      | inr w ↦ w.0
    ]
