-- The counts of pairs, and those of the pairs with one more behind them.
use Rattle.std.proofs.Common.{◌≡◌, ℕ, zero, suc, ◌+◌, ◌%◌, ◌^◌, ◌<◌, ◌≤◌, List, [], ◌∷◌, ◌++◌, length, map, refl, sym, ap, ◌∙◌, arith, Bool, true, false, subst}
use Rattle.std.proofs.Common.{get_or, take, drop, not}
use Rattle.std.specs.Prelude.{All, nat_lt, set, if◌then◌else◌}
use Rattle.std.specs.List.{drop-map, insert, list_any, take-map}
use Rattle.std.specs.List.Sorted.{IsPartitionPoint, IsPartitionedBy}
use Rattle.std.proofs.lemmas.Bool.{lt-ltb, le-ltb}
use Rattle.std.proofs.lemmas.List.{get_or-map, length-map, map-append}
use Rattle.std.proofs.Math.Seq.{map-set_same}
use Rattle.std.proofs.lemmas.List.Elements.{All-head, All-tail, All-weaker}
use Rattle.std.proofs.lemmas.List.Folds.{list_any_at, list_any_none}
use Rattle.path_counts.specs.declared.targets.Target.{Target}
use Rattle.path_counts.specs.Levels.{one_if}
use Rattle.path_counts.specs.Targets.{Rises, Targeting, entry_of, how_many, kept_within, outside, pair_lt, pair_of, same_pair, targets_within, with_pair}
use Rattle.path_counts.proofs.Kept.{IsNewAt, IsPlace, all_kept, how_many_more, kept_more, kept_rises, none_came, not_among, place_of_one}
use Rattle.path_counts.proofs.Kept.{outside_more, outside_with, place_tail, with_new, with_old, with_rises}
use Rattle.path_counts.proofs.PairOrder.{lt_lt, lt_not_same, not_same_either, pair_same}

-- ---- entries

abbrev pub entry : ℕ × ℕ → ℕ → Target
entry p n = record { from = p.0; to = p.1; times = n }

-- the entry of another pair stays
entry_same : (pairs : List (ℕ × ℕ)) (p q : ℕ × ℕ) → same_pair p q ≡ false → entry_of (pairs ++ p ∷ []) q ≡ entry_of pairs q
entry_same pairs p q other =
    let none = ap one_if (not_same_either p q other) in
    let more = how_many_more q pairs p in
    let same : how_many q (pairs ++ p ∷ []) ≡ how_many q pairs = omega (arith, none, more) in
    ap (λ n. entry q (n % 2 ^ 64)) same

-- that of the pair itself counts one more
abbrev pub one_more : Target → Target
one_more e = entry (pair_of e) ((e.times + 1) % 2 ^ 64)

entry_more : (pairs : List (ℕ × ℕ)) (p : ℕ × ℕ) → entry_of (pairs ++ p ∷ []) p ≡ one_more (entry_of pairs p)
entry_more pairs p =
    let here = ap one_if (pair_same p) in
    let more = how_many_more p pairs p in
    let times : how_many p (pairs ++ p ∷ []) % 2 ^ 64 ≡ (how_many p pairs % 2 ^ 64 + 1) % 2 ^ 64 = omega (arith, here, more) in
    ap (entry p) times

entries_same : (pairs : List (ℕ × ℕ)) (p : ℕ × ℕ) (kept : List (ℕ × ℕ)) → All (λ q. same_pair p q ≡ false) kept
    → map (entry_of (pairs ++ p ∷ [])) kept ≡ map (entry_of pairs) kept
entries_same pairs p [] all = refl
entries_same pairs p (q ∷ kept) all =
    let first = entry_same pairs p q (All-head (λ x. same_pair p x ≡ false) q kept all) in
    let rest = entries_same pairs p kept (All-tail (λ x. same_pair p x ≡ false) q kept all) in
    ap (λ (e : Target). e ∷ map (entry_of (pairs ++ p ∷ [])) kept) first ∙ ap (λ (l : List Target). entry_of pairs q ∷ l) rest

entries_more : (pairs : List (ℕ × ℕ)) (p : ℕ × ℕ) (kept : List (ℕ × ℕ)) (i : ℕ) → i < length kept → Rises kept → IsPlace p kept i
    → ((d : ℕ × ℕ) → get_or kept i d ≡ p)
    → map (entry_of (pairs ++ p ∷ [])) kept ≡ set (map (entry_of pairs) kept) i (one_more (entry_of pairs p))
entries_more pairs p [] i lt r at is = absurd (omega (arith, lt))
entries_more pairs p (q ∷ kept) zero lt r at is =
    let here : q ≡ p = is q in
    let after : All (λ x. same_pair p x ≡ false) kept =
    All-weaker (λ x. pair_lt q x ≡ true) (λ x. same_pair p x ≡ false)
    (λ x behind. not_same_either x p (lt_not_same p x (subst (λ y. pair_lt y x ≡ true) here behind))) kept r.0 in
    let first : entry_of (pairs ++ p ∷ []) q ≡ one_more (entry_of pairs p) = ap (entry_of (pairs ++ p ∷ [])) here ∙ entry_more pairs p in
    ap (λ (e : Target). e ∷ map (entry_of (pairs ++ p ∷ [])) kept) first
    ∙ ap (λ (l : List Target). one_more (entry_of pairs p) ∷ l) (entries_same pairs p kept after)
entries_more pairs p (q ∷ kept) (suc i) lt r at is =
    let low = at.low 0 q (omega arith) in
    let first = entry_same pairs p q (lt_not_same q p low) in
    let rest = entries_more pairs p kept i (omega (arith, lt)) r.1 (place_tail p q kept i at) is in
    ap (λ (e : Target). e ∷ map (entry_of (pairs ++ p ∷ [])) kept) first ∙ ap (λ (l : List Target). entry_of pairs q ∷ l) rest

map_insert : {X Y : Type 0} (f : X → Y) (xs : List X) (i : ℕ) (x : X) → map f (insert xs i x) ≡ insert (map f xs) i (f x)
map_insert f xs i x =
    map-append f (take i xs) (x ∷ drop i xs)
    ∙ ap (λ l. l ++ f x ∷ map f (drop i xs)) (sym (take-map f i xs))
    ∙ ap (λ l. take i (map f xs) ++ f x ∷ l) (sym (drop-map f i xs))

-- ---- the table

abbrev pub table : List Target → ℕ → Targeting
table entries more = record { entries = entries; more = more }

same_table : (entries es : List Target) (more m : ℕ) → entries ≡ es → more ≡ m → table entries more ≡ table es m
same_table entries es more m e n = ap (λ l. table l more) e ∙ ap (table es) n

-- a table is that of pairs, of which it keeps these
pub record IsOf (most : ℕ) (pairs : List (ℕ × ℕ)) (entries : List Target) (more : ℕ) : Type 0 where
  pub kept : map pair_of entries ≡ kept_within most pairs
  pub entries_are : entries ≡ map (entry_of pairs) (kept_within most pairs)
  pub more_is : more ≡ outside (kept_within most pairs) pairs % 2 ^ 64

pairs_of : (pairs kept : List (ℕ × ℕ)) → map pair_of (map (entry_of pairs) kept) ≡ kept
pairs_of pairs [] = refl
pairs_of pairs (p ∷ kept) = ap (λ l. p ∷ l) (pairs_of pairs kept)

pub table_is : (most : ℕ) (pairs : List (ℕ × ℕ)) (t : Targeting) → t ≡ targets_within most pairs → IsOf most pairs t.entries t.more
table_is most pairs t is =
    let entries = ap (λ (x : Targeting). x.entries) is in
    record {
      kept = ap (map pair_of) entries ∙ pairs_of pairs (kept_within most pairs);
      entries_are = entries;
      more_is = ap (λ (x : Targeting). x.more) is;
    }

-- the place that was found
pub place_among : (entries : List Target) (i : ℕ) (p : ℕ × ℕ)
    → IsPartitionPoint (λ e. pair_lt (pair_of e) p ≡ true) (λ e. pair_lt (pair_of e) p ≡ false) entries i → i ≤ length entries
    → IsPlace p (map pair_of entries) i
place_among entries i p at le =
    let d = entry p 0 in
    record {
      low = λ k e lt. ap (λ q. pair_lt q p) (get_or-map pair_of entries k d e (omega (arith, lt, le))) ∙ at.0 k d (omega arith) lt;
      high = λ k e from to.
          let short : k < length entries = omega (arith, to, length-map entries pair_of) in
          ap (λ q. pair_lt q p) (get_or-map pair_of entries k d e short) ∙ at.1 k d from short;
    }

-- the place where it stands
pub stands_among : (entries : List Target) (i : ℕ) (p : ℕ × ℕ) → Rises (map pair_of entries) → i < length entries
    → ((d : Target) → pair_of (get_or entries i d) ≡ p) → IsPlace p (map pair_of entries) i
stands_among entries i p rises within there =
    place_of_one p (map pair_of entries) i rises (omega (arith, within, length-map entries pair_of))
    (λ e. get_or-map pair_of entries i (entry p 0) e within ∙ there (entry p 0))

pub new_among : (entries : List Target) (i : ℕ) (p : ℕ × ℕ)
    → (i < length entries → (d : Target) → same_pair p (pair_of (get_or entries i d)) ≡ false) → IsNewAt p (map pair_of entries) i
new_among entries i p new d lt =
    let short : i < length entries = omega (arith, lt, length-map entries pair_of) in
    let e = entry p 0 in
    ap (same_pair p) (get_or-map pair_of entries i e d short) ∙ new short e

then_same : (kept : List (ℕ × ℕ)) (p : ℕ × ℕ) (room : Bool) → with_pair p kept ≡ kept → (if room then with_pair p kept else kept) ≡ kept
then_same kept p true same = same
then_same kept p false same = refl

-- what is known where a pair comes
pub record Comes (most : ℕ) (pairs : List (ℕ × ℕ)) (t : Targeting) (p : ℕ × ℕ) (i : ℕ) : Type 0 where
  pub table : t ≡ targets_within most pairs
  pub within : i ≤ length t.entries
  pub place : IsPlace p (map pair_of t.entries) i

-- it is kept already
pub pair_again : (most : ℕ) (pairs : List (ℕ × ℕ)) (t : Targeting) (p : ℕ × ℕ) (i : ℕ) (e : Target) → Comes most pairs t p i → i < length t.entries
    → pair_of e ≡ p → e ≡ get_or t.entries i e → table (set t.entries i (one_more e)) t.more ≡ targets_within most (pairs ++ p ∷ [])
pair_again most pairs t p i e c lt there is =
    let kept = kept_within most pairs in
    let f = entry_of pairs in
    let k = table_is most pairs t c.table in
    let at : IsPlace p kept i = subst (λ l. IsPlace p l i) k.kept c.place in
    let long = ap (λ (l : List (ℕ × ℕ)). length l) k.kept in
    let short : i < length kept = omega (arith, lt, long, length-map t.entries pair_of) in
    let found : (d : ℕ × ℕ) → get_or kept i d ≡ p =
    λ d. ap (λ (l : List (ℕ × ℕ)). get_or l i d) (sym k.kept) ∙ get_or-map pair_of t.entries i e d lt ∙ ap pair_of (sym is) ∙ there in
    let r : Rises kept = kept_rises most [] pairs tt in
    let kept' : kept_within most (pairs ++ p ∷ []) ≡ kept =
    kept_more most [] pairs p ∙ then_same kept p (nat_lt (length kept) most) (with_old kept i p short at found) in
    let was : e ≡ f p = is ∙ ap (λ (l : List Target). get_or l i e) k.entries_are ∙ get_or-map f kept i p e short ∙ ap f (found p) in
    let entries : set t.entries i (one_more e) ≡ map (entry_of (pairs ++ p ∷ [])) kept =
    ap (λ (l : List Target). set l i (one_more e)) k.entries_are ∙ ap (λ x. set (map f kept) i (one_more x)) was
    ∙ sym (entries_more pairs p kept i short r at found) in
    let has : list_any (same_pair p) kept ≡ true =
    list_any_at (same_pair p) kept i p short (subst (λ x. same_pair p x ≡ true) (sym (found p)) (pair_same p)) in
    let none : one_if (not (list_any (same_pair p) kept)) ≡ 0 = rw has refl in
    let more : t.more ≡ outside kept (pairs ++ p ∷ []) % 2 ^ 64 = omega (arith, k.more_is, none, outside_more kept pairs p) in
    same_table _ _ _ _ entries more
    ∙ ap (λ l. table (map (entry_of (pairs ++ p ∷ [])) l) (outside l (pairs ++ p ∷ []) % 2 ^ 64)) (sym kept')

-- it is not kept
none_kept : (most : ℕ) (pairs : List (ℕ × ℕ)) (p : ℕ × ℕ) (i : ℕ) → IsPlace p (kept_within most pairs) i → IsNewAt p (kept_within most pairs) i
    → All (λ q. same_pair p q ≡ false) (kept_within most pairs)
none_kept most pairs p i at new = not_among (kept_within most pairs) i p (kept_rises most [] pairs tt) at new

-- and there is room
pub pair_new : (most : ℕ) (pairs : List (ℕ × ℕ)) (t : Targeting) (p : ℕ × ℕ) (i : ℕ) → Comes most pairs t p i
    → IsNewAt p (map pair_of t.entries) i → length t.entries < most
    → table (insert t.entries i (entry p 1)) t.more ≡ targets_within most (pairs ++ p ∷ [])
pair_new most pairs t p i c new room =
    let kept = kept_within most pairs in
    let f = entry_of pairs in
    let g = entry_of (pairs ++ p ∷ []) in
    let k = table_is most pairs t c.table in
    let at : IsPlace p kept i = subst (λ l. IsPlace p l i) k.kept c.place in
    let new' : IsNewAt p kept i = subst (λ l. IsNewAt p l i) k.kept new in
    let long = ap (λ (l : List (ℕ × ℕ)). length l) k.kept in
    let count = length-map t.entries pair_of in
    let few : length kept < most = omega (arith, room, long, count) in
    let all = none_kept most pairs p i at new' in
    let kept' : kept_within most (pairs ++ p ∷ []) ≡ with_pair p kept =
    kept_more most [] pairs p ∙ ap (λ b. if b then with_pair p kept else kept) (lt-ltb (length kept) most few) in
    let inserted = with_new kept i p (omega (arith, c.within, long, count)) at new' in
    let none = all_kept most [] pairs few in
    let not_there = list_any_none (same_pair p) kept all in
    let here = ap one_if (pair_same p) in
    let once : how_many p (pairs ++ p ∷ []) % 2 ^ 64 ≡ 1 = omega (arith, here, none_came kept pairs p none not_there, how_many_more p pairs p) in
    let entries : insert t.entries i (entry p 1) ≡ map g (with_pair p kept) =
    ap (λ (l : List Target). insert l i (entry p 1)) (k.entries_are ∙ sym (entries_same pairs p kept all))
    ∙ ap (λ n. insert (map g kept) i (entry p n)) (sym once) ∙ sym (map_insert g kept i p) ∙ ap (map g) (sym inserted) in
    let more : t.more ≡ outside (with_pair p kept) (pairs ++ p ∷ []) % 2 ^ 64 =
    omega (arith, k.more_is, none, outside_with kept pairs p none) in
    same_table _ _ _ _ entries more
    ∙ ap (λ l. table (map g l) (outside l (pairs ++ p ∷ []) % 2 ^ 64)) (sym kept')

-- and there is none
pub pair_over : (most : ℕ) (pairs : List (ℕ × ℕ)) (t : Targeting) (p : ℕ × ℕ) (i : ℕ) → Comes most pairs t p i
    → IsNewAt p (map pair_of t.entries) i → most ≤ length t.entries
    → table t.entries ((t.more + 1) % 2 ^ 64) ≡ targets_within most (pairs ++ p ∷ [])
pair_over most pairs t p i c new full =
    let kept = kept_within most pairs in
    let k = table_is most pairs t c.table in
    let at : IsPlace p kept i = subst (λ l. IsPlace p l i) k.kept c.place in
    let new' : IsNewAt p kept i = subst (λ l. IsNewAt p l i) k.kept new in
    let long = ap (λ (l : List (ℕ × ℕ)). length l) k.kept in
    let many : most ≤ length kept = omega (arith, full, long, length-map t.entries pair_of) in
    let all = none_kept most pairs p i at new' in
    let kept' : kept_within most (pairs ++ p ∷ []) ≡ kept =
    kept_more most [] pairs p ∙ ap (λ b. if b then with_pair p kept else kept) (le-ltb (length kept) most many) in
    let not_there = list_any_none (same_pair p) kept all in
    let one : one_if (not (list_any (same_pair p) kept)) ≡ 1 = rw not_there refl in
    let more : (t.more + 1) % 2 ^ 64 ≡ outside kept (pairs ++ p ∷ []) % 2 ^ 64 = omega (arith, k.more_is, one, outside_more kept pairs p) in
    same_table _ _ _ _ (k.entries_are ∙ sym (entries_same pairs p kept all)) more
    ∙ ap (λ l. table (map (entry_of (pairs ++ p ∷ [])) l) (outside l (pairs ++ p ∷ []) % 2 ^ 64)) (sym kept')

-- ---- the order stays

pub rises_again : (entries : List Target) (i : ℕ) (y d : Target) → pair_of y ≡ pair_of (get_or entries i d) → Rises (map pair_of entries)
    → Rises (map pair_of (set entries i y))
rises_again entries i y d same r = subst Rises (sym (map-set_same pair_of entries i y d same)) r

pub rises_new : (entries : List Target) (i : ℕ) (e : Target) → i ≤ length entries → IsPlace (pair_of e) (map pair_of entries) i
    → IsNewAt (pair_of e) (map pair_of entries) i → Rises (map pair_of entries) → Rises (map pair_of (insert entries i e))
rises_new entries i e le at new r =
    let inserted = with_new (map pair_of entries) i (pair_of e) (omega (arith, le, length-map entries pair_of)) at new in
    subst Rises (inserted ∙ sym (map_insert pair_of entries i e)) (with_rises (pair_of e) (map pair_of entries) r)

-- so the pairs before a pair are a front
pub rising_fronts : (entries : List Target) (p : ℕ × ℕ) → Rises (map pair_of entries) → IsPartitionedBy (λ e. pair_lt (pair_of e) p) entries
rising_fronts [] p r i j d le lt is = absurd (omega (arith, lt))
rising_fronts (e ∷ entries) p r zero zero d le lt is = is
rising_fronts (e ∷ entries) p r (suc i) zero d le lt is = absurd (omega (arith, le))
rising_fronts (e ∷ entries) p r zero (suc j) d le lt is =
    let short : j < length entries = omega (arith, lt) in
    let after : pair_lt (pair_of e) (pair_of (get_or entries j d)) ≡ true =
    subst (λ q. pair_lt (pair_of e) q ≡ true) (get_or-map pair_of entries j d p short) (r.0 j p (omega (arith, short, length-map entries pair_of))) in
    lt_lt (pair_of e) (pair_of (get_or entries j d)) p after is
rising_fronts (e ∷ entries) p r (suc i) (suc j) d le lt is = rising_fronts entries p r.1 i j d (omega (arith, le)) (omega (arith, lt)) is
