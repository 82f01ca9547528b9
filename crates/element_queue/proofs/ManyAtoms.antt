-- Many atoms together, before which nothing was given.
use Rattle.std.proofs.Common.{◌≡◌, ℕ, zero, suc, ◌≤◌, ◌<◌, Bool, Some, List, [], ◌∷◌, ◌++◌, length, map, take, drop, replicate}
use Rattle.std.proofs.Common.{refl, sym, ap, ◌∙◌, arith, append_assoc, inl, inr, slice_get}
use Rattle.std.specs.Prelude.{◌⊎◌}
use Rattle.std.proofs.lemmas.List.{drop-map, length-map, length-take, length-take-le, map-append, take-map}
use Rattle.etm_types.specs.declared.element.Entry.{Entry}
use Rattle.etm_types.specs.declared.element.Thing.TheVariants.{Seen, Unseen}
use Rattle.element_queue.specs.Counting.{entries}
use Rattle.element_queue.specs.Kept.{AreOldest, NoPlainAt}
use Rattle.element_queue.specs.Queued.{AreOldestPlain, NoPlainAtomAt, plain_atom, plain_entry}
use Rattle.element_queue.proofs.Held.{entries-things, things}

pub plain_things : (atoms : List Bool) → map Seen (map plain_entry atoms) ≡ map plain_atom atoms
plain_things [] = refl
plain_things (taken ∷ atoms) = ap (λ l. plain_atom taken ∷ l) (plain_things atoms)

pub held_behind : (unseen : ℕ) (items : List Entry) (atoms : List Bool)
    → things unseen (items ++ map plain_entry atoms) ≡ things unseen items ++ map plain_atom atoms
held_behind unseen items atoms =
    ap (λ l. replicate unseen Unseen ++ l) (map-append Seen items (map plain_entry atoms))
    ∙ sym (append_assoc (replicate unseen Unseen) (map Seen items) (map Seen (map plain_entry atoms)))
    ∙ ap (λ l. things unseen items ++ l) (plain_things atoms)

-- ---- where so many of the oldest were seen

abbrev pub AreSeen : ℕ → ℕ → Type 0
AreSeen n unseen = (0 < unseen × n ≤ 0) ⊎ (unseen ≤ 0)

pub take_held : (n unseen : ℕ) (items : List Entry) → AreSeen n unseen → take n (things unseen items) ≡ things 0 (take n items)
take_held n zero items seen = take-map Seen n items
take_held zero (suc unseen) items seen = refl
take_held (suc n) (suc unseen) items (inl (some, none)) = absurd (omega (arith, none))
take_held (suc n) (suc unseen) items (inr none) = absurd (omega (arith, none))

pub drop_held : (n unseen : ℕ) (items : List Entry) → AreSeen n unseen → drop n (things unseen items) ≡ things unseen (drop n items)
drop_held n zero items seen = drop-map Seen n items
drop_held zero (suc unseen) items seen = refl
drop_held (suc n) (suc unseen) items (inl (some, none)) = absurd (omega (arith, none))
drop_held (suc n) (suc unseen) items (inr none) = absurd (omega (arith, none))

pub oldest_held : (n unseen : ℕ) (items : List Entry) (oldest : List Bool) → AreSeen n unseen → map plain_entry oldest ≡ take n items
    → map plain_atom oldest ≡ take n (things unseen items)
oldest_held n unseen items oldest seen e = sym (plain_things oldest) ∙ ap (map Seen) e ∙ sym (take_held n unseen items seen)

same_seen : (xs ys : List Entry) → map Seen xs ≡ map Seen ys → xs ≡ ys
same_seen [] [] e = refl
same_seen [] (y ∷ ys) e = absurd cc
same_seen (x ∷ xs) [] e = absurd cc
same_seen (x ∷ xs) (y ∷ ys) e =
    let first : x ≡ y = cc in let rest : map Seen xs ≡ map Seen ys = cc in
    ap (λ (z : Entry). z ∷ xs) first ∙ ap (λ (l : List Entry). y ∷ l) (same_seen xs ys rest)

-- all are plain atoms where all entries are
pub all_held : (unseen : ℕ) (items : List Entry) (atoms : List Bool) → unseen ≤ 0 → map plain_entry atoms ≡ items
    → map plain_atom atoms ≡ things unseen items
all_held (suc unseen) items atoms seen e = absurd (omega (arith, seen))
all_held zero items atoms seen e = sym (plain_things atoms) ∙ ap (map Seen) e

pub all_seen : (unseen : ℕ) (items : List Entry) (atoms : List Bool) → map plain_atom atoms ≡ things unseen items
    → (unseen ≡ 0) × (map plain_entry atoms ≡ items)
all_seen zero items atoms e = (refl, same_seen (map plain_entry atoms) items (plain_things atoms ∙ e))
all_seen (suc unseen) items [] e = absurd cc
all_seen (suc unseen) items (taken ∷ atoms) e = absurd cc

-- so many of the oldest are plain atoms where so many of the oldest entries are
pub plain_held : (n unseen : ℕ) (items : List Entry) → AreSeen n unseen → AreOldest n items → AreOldestPlain n (things unseen items)
plain_held n unseen items seen (oldest, is, count) = (oldest, oldest_held n unseen items oldest seen is, count)

pub plain_seen : (n unseen : ℕ) (items : List Entry) → AreSeen n unseen → AreOldestPlain n (things unseen items) → AreOldest n items
plain_seen n unseen items seen (oldest, is, count) =
    (oldest, same_seen (map plain_entry oldest) (take n items) (plain_things oldest ∙ is ∙ take_held n unseen items seen), count)

pub unseen_first : (n unseen : ℕ) (items : List Entry) → 0 < unseen → 0 < n → AreOldestPlain n (things unseen items) → ⊥
unseen_first n zero items some more is = absurd (omega (arith, some))
unseen_first zero (suc unseen) items some more is = absurd (omega (arith, more))
unseen_first (suc n) (suc unseen) items some more ([], is, count) = absurd (omega (arith, count))
unseen_first (suc n) (suc unseen) items some more (taken ∷ oldest, is, count) = cc

entry_there : (n : ℕ) (items : List Entry) (x : Entry) → slice_get (map Seen items) n ≡ Some (Seen x) → slice_get items n ≡ Some x
entry_there n [] x is = absurd cc
entry_there zero (y ∷ items) x is = cc
entry_there (suc n) (y ∷ items) x is = entry_there n items x is

-- where none is such an entry, none is such an atom
pub no_plain_atom : (n unseen : ℕ) (items : List Entry) → unseen ≤ 0 → NoPlainAt n items → NoPlainAtomAt n (things unseen items)
no_plain_atom n (suc unseen) items seen none taken there = absurd (omega (arith, seen))
no_plain_atom n zero items seen none taken there = none taken (entry_there n items (plain_entry taken) there)

pub enough : (n : ℕ) (items : List Entry) (oldest : List Bool) → map plain_entry oldest ≡ take n items → length oldest ≡ n → n ≤ length items
enough n items oldest e count = omega (arith, length-map oldest plain_entry, length-take n items, ap length e, count)

pub entries_taken : (n unseen : ℕ) (items : List Entry) → AreSeen n unseen → n ≤ length items → entries (take n (things unseen items)) ≡ n
entries_taken n unseen items seen within =
    ap entries (take_held n unseen items seen) ∙ entries-things 0 (take n items) ∙ length-take-le n items within
