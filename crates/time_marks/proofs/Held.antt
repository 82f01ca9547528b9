-- Which of the things that are held were seen.
use Rattle.std.proofs.Common.{◌≡◌, ℕ, zero, suc, ◌+◌, ◌-◌, ◌<◌, ◌≤◌, List, [], ◌∷◌, ◌++◌, length, take, drop, arith, refl, ap, sym, ◌∙◌, inl, inr}
use Rattle.std.proofs.Common.{Some, None, Option, replicate, subst}
use Rattle.std.specs.Prelude.{◌⊎◌, not}
use Rattle.std.proofs.lemmas.List.{take-append-drop}
use Rattle.std.proofs.lemmas.Bool.{cases_lt}
use Rattle.std.specs.Option.{option_map}
use Rattle.element_queue.specs.Counting.{entries}
use Rattle.element_queue.specs.Pending.{flip_entry, flip_newest, flip_thing}
use Rattle.etm_types.specs.declared.element.Entry.{Entry}
use Rattle.etm_types.specs.declared.element.P0.{P0}
use Rattle.etm_types.specs.declared.element.P0.TheVariants.{Atom, Exc}
use Rattle.etm_types.specs.declared.element.Thing.{Thing}
use Rattle.etm_types.specs.declared.element.Thing.TheVariants.{Gap, Seen, Stop, Unseen}
use Rattle.time_marks.specs.Marked.{AllSeen, UnseenFirst}

-- ---- how many

pub entries-append : (xs ys : List Thing) → entries (xs ++ ys) ≡ entries xs + entries ys
entries-append [] ys = omega arith
entries-append (Seen e ∷ xs) ys = omega (arith, entries-append xs ys)
entries-append (Unseen ∷ xs) ys = entries-append xs ys
entries-append (Gap ∷ xs) ys = entries-append xs ys
entries-append (Stop ∷ xs) ys = entries-append xs ys

pub entries_parts : (n : ℕ) (xs : List Thing) → entries (take n xs) + entries (drop n xs) ≡ entries xs
entries_parts n xs = sym (entries-append (take n xs) (drop n xs)) ∙ ap entries (take-append-drop n xs)

pub none_seen : (n : ℕ) → entries (replicate n Unseen) ≡ 0
none_seen zero = refl
none_seen (suc n) = none_seen n

seen_count : (things : List Thing) → AllSeen things → entries things ≡ length things
seen_count [] all = refl
seen_count (Seen e ∷ things) all = ap suc (seen_count things all)
seen_count (Unseen ∷ things) all = absurd all
seen_count (Gap ∷ things) all = absurd all
seen_count (Stop ∷ things) all = absurd all

pub no_more : (things : List Thing) → entries things ≤ length things
no_more [] = omega arith
no_more (Seen e ∷ things) = omega (arith, no_more things)
no_more (Unseen ∷ things) = omega (arith, no_more things)
no_more (Gap ∷ things) = omega (arith, no_more things)
no_more (Stop ∷ things) = omega (arith, no_more things)

-- ---- those that were not seen stay the oldest

seen_at_end : (things : List Thing) (e : Entry) → AllSeen things → AllSeen (things ++ Seen e ∷ [])
seen_at_end [] e all = tt
seen_at_end (Seen f ∷ things) e all = seen_at_end things e all
seen_at_end (Unseen ∷ things) e all = absurd all
seen_at_end (Gap ∷ things) e all = absurd all
seen_at_end (Stop ∷ things) e all = absurd all

pub first_at_end : (things : List Thing) (e : Entry) → UnseenFirst things → UnseenFirst (things ++ Seen e ∷ [])
first_at_end [] e order = tt
first_at_end (Seen f ∷ things) e order = seen_at_end things e order
first_at_end (Unseen ∷ things) e order = first_at_end things e order
first_at_end (Gap ∷ things) e order = absurd order
first_at_end (Stop ∷ things) e order = absurd order

seen_is_first : (things : List Thing) → AllSeen things → UnseenFirst things
seen_is_first [] all = tt
seen_is_first (Seen e ∷ things) all = all
seen_is_first (Unseen ∷ things) all = absurd all
seen_is_first (Gap ∷ things) all = absurd all
seen_is_first (Stop ∷ things) all = absurd all

pub first_dropped : (k : ℕ) (things : List Thing) → UnseenFirst things → UnseenFirst (drop k things)
first_dropped zero things order = order
first_dropped (suc k) [] order = tt
first_dropped (suc k) (Seen e ∷ things) order = first_dropped k things (seen_is_first things order)
first_dropped (suc k) (Unseen ∷ things) order = first_dropped k things order
first_dropped (suc k) (Gap ∷ things) order = absurd order
first_dropped (suc k) (Stop ∷ things) order = absurd order

seen_taken : (k : ℕ) (things : List Thing) → AllSeen things → AllSeen (take k things)
seen_taken zero things all = tt
seen_taken (suc k) [] all = tt
seen_taken (suc k) (Seen e ∷ things) all = seen_taken k things all
seen_taken (suc k) (Unseen ∷ things) all = absurd all
seen_taken (suc k) (Gap ∷ things) all = absurd all
seen_taken (suc k) (Stop ∷ things) all = absurd all

pub first_taken : (k : ℕ) (things : List Thing) → UnseenFirst things → UnseenFirst (take k things)
first_taken zero things order = tt
first_taken (suc k) [] order = tt
first_taken (suc k) (Seen e ∷ things) order = seen_taken k things order
first_taken (suc k) (Unseen ∷ things) order = first_taken k things order
first_taken (suc k) (Gap ∷ things) order = absurd order
first_taken (suc k) (Stop ∷ things) order = absurd order

pub unseen_first : (n : ℕ) → UnseenFirst (replicate n Unseen)
unseen_first zero = tt
unseen_first (suc n) = unseen_first n

-- ---- the newest

all_newest : (k : ℕ) (things : List Thing) → AllSeen things → entries (drop k things) ≡ length things - k
all_newest zero things all = omega (arith, seen_count things all)
all_newest (suc k) [] all = omega arith
all_newest (suc k) (Seen e ∷ things) all = omega (arith, all_newest k things all)
all_newest (suc k) (Unseen ∷ things) all = absurd all
all_newest (suc k) (Gap ∷ things) all = absurd all
all_newest (suc k) (Stop ∷ things) all = absurd all

-- as many were seen as they are, or as all are that were
abbrev pub IsSeenOf : ℕ → List Thing → Type 0
IsSeenOf n things =
    ((entries (drop (length things - n) things) ≡ n) × (n ≤ entries things))
    ⊎ ((entries (drop (length things - n) things) ≡ entries things) × (entries things ≤ n))

newest_of : (n : ℕ) (things : List Thing) → AllSeen things → IsSeenOf n things
newest_of n things all = elim (cases_lt (length things) n) [
  | inl more ↦ inr (omega (arith, all_newest (length things - n) things all, seen_count things all, more), omega (arith, seen_count things all, more))
  | inr within ↦ inl (omega (arith, all_newest (length things - n) things all, within), omega (arith, seen_count things all, within))
]

pub newest_seen : (n : ℕ) (things : List Thing) → UnseenFirst things → IsSeenOf n things
newest_seen n [] order = let at : 0 - n ≡ 0 = omega arith in rw at (inr (refl, omega arith))
newest_seen n (Seen e ∷ things) order = newest_of n (Seen e ∷ things) order
newest_seen n (Unseen ∷ things) order = elim (cases_lt (length things) n) [
  | inl all ↦ let at : suc (length things) - n ≡ 0 = omega (arith, all) in rw at (inr (refl, omega (arith, no_more things, all)))
  | inr within ↦ let at : suc (length things) - n ≡ suc (length things - n) = omega arith in rw at (newest_seen n things order)
]
newest_seen n (Gap ∷ things) order = absurd order
newest_seen n (Stop ∷ things) order = absurd order

-- ---- one more: the oldest leaves where as many are held as may be

pub one_leaves : (held : List Thing) (e : Entry) (depth : ℕ) → UnseenFirst held → length held ≤ depth → entries held ≡ depth
    → entries (take (length held + 1 - depth) (held ++ Seen e ∷ [])) ≡ 1
one_leaves [] e depth order few full = let n : 0 + 1 - depth ≡ 1 = omega (arith, full) in rw n refl
one_leaves (Seen f ∷ held) e depth order few full =
    let n : suc (length held) + 1 - depth ≡ 1 = omega (arith, full, few, seen_count held order) in rw n refl
one_leaves (Unseen ∷ held) e depth order few full = absurd (omega (arith, full, few, no_more held))
one_leaves (Gap ∷ held) e depth order few full = absurd order
one_leaves (Stop ∷ held) e depth order few full = absurd order

pub none_leaves : (held : List Thing) (e : Entry) (depth : ℕ) → UnseenFirst held → length held ≤ depth → entries held < depth
    → entries (take (length held + 1 - depth) (held ++ Seen e ∷ [])) ≡ 0
none_leaves [] e depth order few room = let n : 0 + 1 - depth ≡ 0 = omega (arith, room) in rw n refl
none_leaves (Seen f ∷ held) e depth order few room =
    let n : suc (length held) + 1 - depth ≡ 0 = omega (arith, room, few, seen_count held order) in rw n refl
none_leaves (Unseen ∷ held) e depth order few room = elim (cases_lt (suc (length held)) depth) [
  | inl less ↦ let n : suc (length held) + 1 - depth ≡ 0 = omega (arith, less) in rw n refl
  | inr more ↦ let n : suc (length held) + 1 - depth ≡ 1 = omega (arith, more, few) in rw n refl
]
none_leaves (Gap ∷ held) e depth order few room = absurd order
none_leaves (Stop ∷ held) e depth order few room = absurd order

-- ---- a flip

-- as many were seen, in the same order
pub record SameOrder (held after : List Thing) : Type 0 where
  pub count : entries after ≡ entries held
  pub seen : AllSeen held → AllSeen after
  pub order : UnseenFirst held → UnseenFirst after

abbrev FlipsTo : Option (List Thing) → List Thing → Type 0
FlipsTo flipped held = (after : List Thing) → flipped ≡ Some after → SameOrder held after

one_flips : (thing : Thing) → FlipsTo (option_map (λ (f : Thing). f ∷ []) (flip_thing thing)) (thing ∷ [])
one_flips (Seen entry) after is = seen_flips entry.pre entry.p0 after is
  where
    seen_flips : (pre : _) (p0 : P0) (xs : List Thing) → option_map (λ (f : Thing). f ∷ []) (flip_entry pre p0) ≡ Some xs → SameOrder (Seen entry ∷ []) xs
    seen_flips pre (Atom taken) xs e = so xs (some_is e)
      where
        some_is : Some (Seen (record { pre = pre; p0 = Atom (not taken) }) ∷ []) ≡ Some xs → Seen (record { pre = pre; p0 = Atom (not taken) }) ∷ [] ≡ xs
        some_is e = cc

        so : (ys : List Thing) → Seen (record { pre = pre; p0 = Atom (not taken) }) ∷ [] ≡ ys → SameOrder (Seen entry ∷ []) ys
        so ys e = subst (SameOrder (Seen entry ∷ [])) e (record { count = refl; seen = λ all. tt; order = λ order. tt })
    seen_flips pre (Exc kind ret) xs e = absurd cc
one_flips Unseen after is = so after (some_is is)
  where
    some_is : Some (Unseen ∷ []) ≡ Some after → Unseen ∷ [] ≡ after
    some_is e = cc

    so : (ys : List Thing) → Unseen ∷ [] ≡ ys → SameOrder (Unseen ∷ []) ys
    so ys e = subst (SameOrder (Unseen ∷ [])) e (record { count = refl; seen = λ all. all; order = λ order. tt })
one_flips Gap after is = absurd cc
one_flips Stop after is = absurd cc

-- a thing before those that are flipped
before : (thing : Thing) (held after : List Thing) → SameOrder held after → SameOrder (thing ∷ held) (thing ∷ after)
before (Seen e) held after same = record { count = ap suc same.count; seen = same.seen; order = same.seen }
before Unseen held after same = record { count = same.count; seen = λ all. absurd all; order = same.order }
before Gap held after same = record { count = same.count; seen = λ all. absurd all; order = λ order. absurd order }
before Stop held after same = record { count = same.count; seen = λ all. absurd all; order = λ order. absurd order }

behind_one : (thing : Thing) (held : List Thing) (flipped : Option (List Thing)) → FlipsTo flipped held
    → FlipsTo (option_map (λ (f : List Thing). thing ∷ f) flipped) (thing ∷ held)
behind_one thing held None later after is = absurd cc
behind_one thing held (Some xs) later after is =
    subst (SameOrder (thing ∷ held)) (whole is) (before thing held xs (later xs refl))
  where
    whole : Some (thing ∷ xs) ≡ Some after → thing ∷ xs ≡ after
    whole e = cc

pub flip_keeps : (held : List Thing) → FlipsTo (flip_newest held) held
flip_keeps [] after is = absurd cc
flip_keeps (thing ∷ []) after is = one_flips thing after is
flip_keeps (thing ∷ next ∷ things) after is = behind_one thing (next ∷ things) (flip_newest (next ∷ things)) (flip_keeps (next ∷ things)) after is
