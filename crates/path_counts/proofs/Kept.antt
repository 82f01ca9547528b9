-- The pairs that are kept stand in order, and are all that came while there was room.
use Rattle.std.proofs.Common.{◌≡◌, ℕ, zero, suc, ◌+◌, ◌<◌, ◌≤◌, List, [], ◌∷◌, ◌++◌, length, refl, sym, ap, arith, Bool, true, false, not, subst}
use Rattle.std.proofs.Common.{get_or, ◌||◌}
use Rattle.std.specs.Prelude.{All, nat_lt, if◌then◌else◌}
use Rattle.std.specs.List.{insert, list_any}
use Rattle.std.proofs.lemmas.Bool.{lt-ltb, false_from_ne_true}
use Rattle.std.proofs.lemmas.List.Elements.{All-cons, All-get_or, All-head, All-nil, All-tail, All-weaker}
use Rattle.path_counts.specs.Levels.{one_if}
use Rattle.path_counts.specs.Targets.{Rises, how_many, kept_from, outside, pair_lt, same_pair, with_pair}
use Rattle.path_counts.proofs.PairOrder.{lt_lt, lt_not_behind, lt_not_same, lt_otherwise, not_itself, not_same_either, pair_equal, pair_same}

-- ---- a pair comes to some that stand in order

all_step : (P : ℕ × ℕ → Type 0) (p q : ℕ × ℕ) (qs : List (ℕ × ℕ)) (s l : Bool) → P p → All P (q ∷ qs) → All P (with_pair p qs)
    → All P (if s then q ∷ qs else if l then p ∷ (q ∷ qs) else q ∷ with_pair p qs)
all_step P p q qs true l is all rest = all
all_step P p q qs false true is all rest = All-cons P p (q ∷ qs) is all
all_step P p q qs false false is all rest = All-cons P q (with_pair p qs) (All-head P q qs all) rest

with_all : (P : ℕ × ℕ → Type 0) (p : ℕ × ℕ) (qs : List (ℕ × ℕ)) → P p → All P qs → All P (with_pair p qs)
with_all P p [] is all = All-cons P p [] is all
with_all P p (q ∷ qs) is all = all_step P p q qs (same_pair p q) (pair_lt p q) is all (with_all P p qs is (All-tail P q qs all))

rises_step : (p q : ℕ × ℕ) (qs : List (ℕ × ℕ)) (s l : Bool) → same_pair p q ≡ s → pair_lt p q ≡ l → Rises (q ∷ qs) → Rises (with_pair p qs)
    → Rises (if s then q ∷ qs else if l then p ∷ (q ∷ qs) else q ∷ with_pair p qs)
rises_step p q qs true l same lt r rest = r
rises_step p q qs false true same lt r rest = (
  All-cons (λ x. pair_lt p x ≡ true) q qs lt
      (All-weaker (λ x. pair_lt q x ≡ true) (λ x. pair_lt p x ≡ true) (λ x after. lt_lt p q x lt after) qs r.0),
  r,
)
rises_step p q qs false false same lt r rest =
    (with_all (λ x. pair_lt q x ≡ true) p qs (lt_otherwise q p (not_same_either p q same) lt) r.0, rest)

pub with_rises : (p : ℕ × ℕ) (qs : List (ℕ × ℕ)) → Rises qs → Rises (with_pair p qs)
with_rises p [] r = (All-nil (λ x. pair_lt p x ≡ true), tt)
with_rises p (q ∷ qs) r = rises_step p q qs (same_pair p q) (pair_lt p q) refl refl r (with_rises p qs r.1)

or_kept : (b x y : Bool) → (b || x) ≡ true → (x ≡ true → y ≡ true) → (b || y) ≡ true
or_kept true x y e f = refl
or_kept false x y e f = f e

or_more : (b x : Bool) → x ≡ true → (b || x) ≡ true
or_more true x e = refl
or_more false x e = e

among_step : (t : ℕ × ℕ → Bool) (p q : ℕ × ℕ) (qs : List (ℕ × ℕ)) (s l : Bool) → list_any t (q ∷ qs) ≡ true
    → (list_any t qs ≡ true → list_any t (with_pair p qs) ≡ true)
    → list_any t (if s then q ∷ qs else if l then p ∷ (q ∷ qs) else q ∷ with_pair p qs) ≡ true
among_step t p q qs true l has rest = has
among_step t p q qs false true has rest = or_more (t p) (list_any t (q ∷ qs)) has
among_step t p q qs false false has rest = or_kept (t q) (list_any t qs) (list_any t (with_pair p qs)) has rest

pub with_among : (t : ℕ × ℕ → Bool) (p : ℕ × ℕ) (qs : List (ℕ × ℕ)) → list_any t qs ≡ true → list_any t (with_pair p qs) ≡ true
with_among t p [] has = absurd cc
with_among t p (q ∷ qs) has = among_step t p q qs (same_pair p q) (pair_lt p q) has (with_among t p qs)

has_step : (p q : ℕ × ℕ) (qs : List (ℕ × ℕ)) (s l : Bool) → same_pair p q ≡ s → list_any (same_pair p) (with_pair p qs) ≡ true
    → list_any (same_pair p) (if s then q ∷ qs else if l then p ∷ (q ∷ qs) else q ∷ with_pair p qs) ≡ true
has_step p q qs true l same rest = rw same refl
has_step p q qs false true same rest = rw (pair_same p) refl
has_step p q qs false false same rest = or_more (same_pair p q) (list_any (same_pair p) (with_pair p qs)) rest

pub with_has : (p : ℕ × ℕ) (qs : List (ℕ × ℕ)) → list_any (same_pair p) (with_pair p qs) ≡ true
with_has p [] = rw (pair_same p) refl
with_has p (q ∷ qs) = has_step p q qs (same_pair p q) (pair_lt p q) refl (with_has p qs)

long_step : (p q : ℕ × ℕ) (qs : List (ℕ × ℕ)) (s l : Bool) → length qs ≤ length (with_pair p qs)
    → length (q ∷ qs) ≤ length (if s then q ∷ qs else if l then p ∷ (q ∷ qs) else q ∷ with_pair p qs)
long_step p q qs true l rest = omega arith
long_step p q qs false true rest = omega arith
long_step p q qs false false rest = omega (arith, rest)

with_longer : (p : ℕ × ℕ) (qs : List (ℕ × ℕ)) → length qs ≤ length (with_pair p qs)
with_longer p [] = omega arith
with_longer p (q ∷ qs) = long_step p q qs (same_pair p q) (pair_lt p q) (with_longer p qs)

-- ---- the pairs that are kept

-- after one more
abbrev pub kept_then : ℕ → List (ℕ × ℕ) → ℕ × ℕ → List (ℕ × ℕ)
kept_then most kept p = if nat_lt (length kept) most then with_pair p kept else kept

pub kept_more : (most : ℕ) (kept pairs : List (ℕ × ℕ)) (p : ℕ × ℕ)
    → kept_from most kept (pairs ++ p ∷ []) ≡ kept_then most (kept_from most kept pairs) p
kept_more most kept [] p = refl
kept_more most kept (q ∷ pairs) p = kept_more most (kept_then most kept q) pairs p

-- what a pair that comes leaves holds of what is kept
then_holds : (P : List (ℕ × ℕ) → Type 0) (kept : List (ℕ × ℕ)) (p : ℕ × ℕ) (room : Bool) → P kept → P (with_pair p kept)
    → P (if room then with_pair p kept else kept)
then_holds P kept p true was is = is
then_holds P kept p false was is = was

pub kept_rises : (most : ℕ) (kept pairs : List (ℕ × ℕ)) → Rises kept → Rises (kept_from most kept pairs)
kept_rises most kept [] r = r
kept_rises most kept (p ∷ pairs) r =
    kept_rises most (kept_then most kept p) pairs (then_holds Rises kept p (nat_lt (length kept) most) r (with_rises p kept r))

kept_among : (most : ℕ) (t : ℕ × ℕ → Bool) (kept pairs : List (ℕ × ℕ)) → list_any t kept ≡ true → list_any t (kept_from most kept pairs) ≡ true
kept_among most t kept [] has = has
kept_among most t kept (p ∷ pairs) has =
    kept_among most t (kept_then most kept p) pairs
    (then_holds (λ l. list_any t l ≡ true) kept p (nat_lt (length kept) most) has (with_among t p kept has))

kept_longer : (most : ℕ) (kept pairs : List (ℕ × ℕ)) → length kept ≤ length (kept_from most kept pairs)
kept_longer most kept [] = omega arith
kept_longer most kept (p ∷ pairs) =
    let one = then_holds (λ l. length kept ≤ length l) kept p (nat_lt (length kept) most) (omega arith) (with_longer p kept) in
    omega (arith, one, kept_longer most (kept_then most kept p) pairs)

-- where there is room, all pairs are kept
pub all_kept : (most : ℕ) (kept pairs : List (ℕ × ℕ)) → length (kept_from most kept pairs) < most → outside (kept_from most kept pairs) pairs ≡ 0
all_kept most kept [] room = refl
all_kept most kept (p ∷ pairs) room =
    let all = kept_from most (kept_then most kept p) pairs in
    let short = lt-ltb (length kept) most (omega (arith, room, kept_longer most kept (p ∷ pairs))) in
    let here : list_any (same_pair p) (kept_then most kept p) ≡ true = rw short (with_has p kept) in
    let has = kept_among most (same_pair p) (kept_then most kept p) pairs here in
    let none : one_if (not (list_any (same_pair p) all)) ≡ 0 = rw has refl in
    let rest = all_kept most (kept_then most kept p) pairs room in
    omega (arith, none, rest)

-- ---- what one more pair counts

pub outside_more : (kept pairs : List (ℕ × ℕ)) (p : ℕ × ℕ)
    → outside kept (pairs ++ p ∷ []) ≡ outside kept pairs + one_if (not (list_any (same_pair p) kept))
outside_more kept [] p = omega arith
outside_more kept (q ∷ pairs) p = let rest = outside_more kept pairs p in omega (arith, rest)

pub how_many_more : (q : ℕ × ℕ) (pairs : List (ℕ × ℕ)) (p : ℕ × ℕ) → how_many q (pairs ++ p ∷ []) ≡ how_many q pairs + one_if (same_pair q p)
how_many_more q [] p = omega arith
how_many_more q (r ∷ pairs) p = let rest = how_many_more q pairs p in omega (arith, rest)

came_step : (kept : List (ℕ × ℕ)) (p q : ℕ × ℕ) (s : Bool) → same_pair p q ≡ s → one_if (not (list_any (same_pair q) kept)) ≡ 0
    → list_any (same_pair p) kept ≡ false → one_if s ≡ 0
came_step kept p q false same among other = refl
came_step kept p q true same among other =
    let is = pair_equal p q same in
    let not' : list_any (same_pair q) kept ≡ false = subst (λ x. list_any (same_pair x) kept ≡ false) is other in
    let out : one_if (not (list_any (same_pair q) kept)) ≡ 1 = rw not' refl in
    absurd (omega (arith, among, out))

-- a pair that is not kept though all are did not come
pub none_came : (kept pairs : List (ℕ × ℕ)) (p : ℕ × ℕ) → outside kept pairs ≡ 0 → list_any (same_pair p) kept ≡ false → how_many p pairs ≡ 0
none_came kept [] p none other = refl
none_came kept (q ∷ pairs) p none other =
    let rest = none_came kept pairs p (omega (arith, none)) other in
    let first = came_step kept p q (same_pair p q) refl (omega (arith, none)) other in
    omega (arith, first, rest)

among_if : (b : Bool) → one_if (not b) ≡ 0 → b ≡ true
among_if true e = refl
among_if false e = absurd (omega (arith, e))

pub outside_with : (kept pairs : List (ℕ × ℕ)) (p : ℕ × ℕ) → outside kept pairs ≡ 0 → outside (with_pair p kept) (pairs ++ p ∷ []) ≡ 0
outside_with kept [] p none = let has = with_has p kept in rw has refl
outside_with kept (q ∷ pairs) p none =
    let rest = outside_with kept pairs p (omega (arith, none)) in
    let had = among_if (list_any (same_pair q) kept) (omega (arith, none)) in
    let has = with_among (same_pair q) p kept had in
    rw has (omega (arith, rest))

-- ---- the place of a pair

-- those before it stand before the pair, and the others do not
pub record IsPlace (p : ℕ × ℕ) (kept : List (ℕ × ℕ)) (i : ℕ) : Type 0 where
  pub low : (k : ℕ) (d : ℕ × ℕ) → k < i → pair_lt (get_or kept k d) p ≡ true
  pub high : (k : ℕ) (d : ℕ × ℕ) → i ≤ k → k < length kept → pair_lt (get_or kept k d) p ≡ false

pub place_tail : (p q : ℕ × ℕ) (kept : List (ℕ × ℕ)) (i : ℕ) → IsPlace p (q ∷ kept) (suc i) → IsPlace p kept i
place_tail p q kept i at = record {
  low = λ k d lt. at.low (suc k) d (omega (arith, lt));
  high = λ k d from to. at.high (suc k) d (omega (arith, from)) (omega (arith, to));
}

-- no such pair stands at its place
abbrev pub IsNewAt : ℕ × ℕ → List (ℕ × ℕ) → ℕ → Type 0
IsNewAt p kept i = (d : ℕ × ℕ) → i < length kept → same_pair p (get_or kept i d) ≡ false

new_tail : (p q : ℕ × ℕ) (kept : List (ℕ × ℕ)) (i : ℕ) → IsNewAt p (q ∷ kept) (suc i) → IsNewAt p kept i
new_tail p q kept i new d lt = new d (omega (arith, lt))

pub with_new : (kept : List (ℕ × ℕ)) (i : ℕ) (p : ℕ × ℕ) → i ≤ length kept → IsPlace p kept i → IsNewAt p kept i
    → with_pair p kept ≡ insert kept i p
with_new [] zero p le at new = refl
with_new [] (suc i) p le at new = absurd (omega (arith, le))
with_new (q ∷ kept) zero p le at new =
    let other = new q (omega arith) in
    let lt = lt_otherwise p q other (at.high 0 q (omega arith) (omega arith)) in
    rw (other, lt) refl
with_new (q ∷ kept) (suc i) p le at new =
    let low = at.low 0 q (omega arith) in
    let rest = with_new kept i p (omega (arith, le)) (place_tail p q kept i at) (new_tail p q kept i new) in
    rw (lt_not_same q p low, lt_not_behind q p low) (ap (λ l. q ∷ l) rest)

pub with_old : (kept : List (ℕ × ℕ)) (i : ℕ) (p : ℕ × ℕ) → i < length kept → IsPlace p kept i → ((d : ℕ × ℕ) → get_or kept i d ≡ p)
    → with_pair p kept ≡ kept
with_old [] i p lt at is = absurd (omega (arith, lt))
with_old (q ∷ kept) zero p lt at is =
    let same : same_pair p q ≡ true = subst (λ x. same_pair p x ≡ true) (sym (is q)) (pair_same p) in
    rw same refl
with_old (q ∷ kept) (suc i) p lt at is =
    let low = at.low 0 q (omega arith) in
    rw (lt_not_same q p low, lt_not_behind q p low) (ap (λ l. q ∷ l) (with_old kept i p (omega (arith, lt)) (place_tail p q kept i at) is))

pub not_among : (kept : List (ℕ × ℕ)) (i : ℕ) (p : ℕ × ℕ) → Rises kept → IsPlace p kept i → IsNewAt p kept i
    → All (λ q. same_pair p q ≡ false) kept
not_among [] i p r at new = All-nil (λ x. same_pair p x ≡ false)
not_among (q ∷ kept) zero p r at new =
    let behind = at.high 0 q (omega arith) (omega arith) in
    All-cons (λ x. same_pair p x ≡ false) q kept (new q (omega arith))
    (All-weaker (λ x. pair_lt q x ≡ true) (λ x. same_pair p x ≡ false)
    (λ x after. false_from_ne_true (same_pair p x)
    (λ same. let is : pair_lt q p ≡ true = subst (λ y. pair_lt q y ≡ true) (sym (pair_equal p x same)) after in cc)) kept r.0)
not_among (q ∷ kept) (suc i) p r at new =
    All-cons (λ x. same_pair p x ≡ false) q kept (lt_not_same q p (at.low 0 q (omega arith)))
    (not_among kept i p r.1 (place_tail p q kept i at) (new_tail p q kept i new))

-- of pairs in order, one stands at its place
pub place_of_one : (p : ℕ × ℕ) (kept : List (ℕ × ℕ)) (i : ℕ) → Rises kept → i < length kept → ((d : ℕ × ℕ) → get_or kept i d ≡ p)
    → IsPlace p kept i
place_of_one p [] i r within is = absurd (omega (arith, within))
place_of_one p (q ∷ kept) zero r within is = record {
  low = λ k d lt. absurd (omega (arith, lt));
  high = not_before;
}
  where
    not_before : (k : ℕ) (d : ℕ × ℕ) → 0 ≤ k → k < length (q ∷ kept) → pair_lt (get_or (q ∷ kept) k d) p ≡ false
    not_before zero d from to = subst (λ x. pair_lt q x ≡ false) (is q) (not_itself q)
    not_before (suc k) d from to =
        let behind = All-get_or (λ x. pair_lt q x ≡ true) kept k d (omega (arith, to)) r.0 in
        subst (λ x. pair_lt (get_or kept k d) x ≡ false) (is q) (lt_not_behind q (get_or kept k d) behind)
place_of_one p (q ∷ kept) (suc i) r within is =
    let rest = place_of_one p kept i r.1 (omega (arith, within)) is in
    record { low = first rest; high = others rest }
  where
    first : IsPlace p kept i → (k : ℕ) (d : ℕ × ℕ) → k < suc i → pair_lt (get_or (q ∷ kept) k d) p ≡ true
    first rest zero d lt =
        subst (λ x. pair_lt q x ≡ true) (is q) (All-get_or (λ x. pair_lt q x ≡ true) kept i q (omega (arith, within)) r.0)
    first rest (suc k) d lt = rest.low k d (omega (arith, lt))

    others : IsPlace p kept i → (k : ℕ) (d : ℕ × ℕ) → suc i ≤ k → k < length (q ∷ kept) → pair_lt (get_or (q ∷ kept) k d) p ≡ false
    others rest zero d from to = absurd (omega (arith, from))
    others rest (suc k) d from to = rest.high k d (omega (arith, from)) (omega (arith, to))
