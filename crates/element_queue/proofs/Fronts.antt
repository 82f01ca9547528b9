-- The oldest entries, as far as they are atoms before which nothing was given.
use Rattle.std.proofs.Common.{◌≡◌, ℕ, zero, suc, ◌+◌, ◌≤◌, ◌<◌, Bool, List, [], ◌∷◌, ◌++◌, length, map, take, drop, Option, Some, None, refl, sym, ap, subst, ◌∙◌, arith}
use Rattle.std.proofs.Common.{append-nil, append_assoc, length-append, slice_get}
use Rattle.std.specs.Prelude.{◌≢◌, IsSome}
use Rattle.std.proofs.lemmas.List.{length-drop, length-map, map-append, length-take-le, nil_from_length, take-append-drop, take-append-le, take-map, take-take, take_all}
use Rattle.etm_types.specs.Atoms.{most_atoms}
use Rattle.etm_types.specs.declared.element.Entry.{Entry}
use Rattle.element_queue.specs.Kept.{AreOldest, IsFront, NoPlainAt, entries_in}
use Rattle.element_queue.specs.Queued.{plain_entry}
use Rattle.element_queue.specs.declared.entries.AtomsAndEntry.{AtomsAndEntry}
use Rattle.element_queue.proofs.EntryRuns.{only_plain}

-- ---- what a front tells

no_first : (x : Entry) → None ≡ Some x → ⊥
no_first x is = cc

pub not_some : (taken : Option Bool) → taken ≡ None → IsSome taken → ⊥
not_some None none some = cc
not_some (Some taken) none some = cc

pub same_entry : (x y : Entry) → Some x ≡ Some y → x ≡ y
same_entry x y e = cc

at_behind : {X : Type 0} (xs ys : List X) → slice_get (xs ++ ys) (length xs) ≡ slice_get ys 0
at_behind [] ys = refl
at_behind (x ∷ xs) ys = at_behind xs ys

pub front_atoms : (front atoms : List Bool) (items : List Entry) (n : ℕ) → IsFront front items → atoms ≡ take n front → n ≤ length front
    → map plain_entry atoms ≡ take n items
front_atoms front atoms items n (others, is, none) first within =
    ap (map plain_entry) first ∙ sym (take-map plain_entry n front)
    ∙ sym (take-append-le n (map plain_entry front) others (omega (arith, within, length-map front plain_entry)))
    ∙ ap (take n) (sym is)

pub front_held : (front : List Bool) (items : List Entry) (n : ℕ) → IsFront front items → n ≤ length front → n ≤ length items
front_held front items n (others, is, none) within =
    omega (arith, ap length is, length-append (map plain_entry front) others, length-map front plain_entry, within)

pub front_all : (front : List Bool) (items : List Entry) (n : ℕ) → IsFront front items → (n < most_atoms → n ≡ length front) → n < most_atoms
    → NoPlainAt n items
front_all front items n (others, is, none) all less taken there =
    let count : length (map plain_entry front) ≡ n = length-map front plain_entry ∙ sym (all less) in
    none (subst (λ (m : ℕ). m < most_atoms) (all less) less) taken
    (sym (at_behind (map plain_entry front) others) ∙ ap (slice_get (map plain_entry front ++ others)) count
    ∙ ap (λ (l : List Entry). slice_get l n) (sym is) ∙ there)

-- ---- the first run, and where there is none

pub plain_front : (runs : List AtomsAndEntry) (plain : List Bool) → length runs ≡ 0 → IsFront plain (entries_in runs plain)
plain_front runs plain none = ([], only_plain runs plain none ∙ sym (append-nil (map plain_entry plain)), λ less taken there. no_first (plain_entry taken) there)

first_run : (runs : List AtomsAndEntry) (run : AtomsAndEntry) (plain : List Bool) → slice_get runs 0 ≡ Some run
    → (others : List Entry) × (entries_in runs plain ≡ map plain_entry run.plain ++ run.last ∷ others)
first_run [] run plain is = absurd cc
first_run (x ∷ runs) run plain is =
    let same : x ≡ run = cc in (entries_in runs plain, ap (λ (r : AtomsAndEntry). map plain_entry r.plain ++ r.last ∷ entries_in runs plain) same)

pub first_front : (runs : List AtomsAndEntry) (run : AtomsAndEntry) (plain : List Bool) → slice_get runs 0 ≡ Some run
    → ((others : List Entry) → IsFront run.plain (map plain_entry run.plain ++ run.last ∷ others)) → IsFront run.plain (entries_in runs plain)
first_front runs run plain is ends =
    let first = first_run runs run plain is in subst (IsFront run.plain) (sym first.1) (ends first.0)

-- the first of those from one on is that one
pub get_drop : {X : Type 0} (i : ℕ) (xs : List X) → slice_get (drop i xs) 0 ≡ slice_get xs i
get_drop zero xs = refl
get_drop (suc i) [] = refl
get_drop (suc i) (x ∷ xs) = get_drop i xs

-- ---- a run behind a front

all_taken : (n : ℕ) (plain : List Bool) → n ≡ length plain → drop n plain ≡ []
all_taken n plain is = nil_from_length (drop n plain) (omega (arith, length-drop n plain, is))

-- where fewer than 24 atoms stand there, they are all of its bits
pub all_bits : (old plain front : List Bool) (n : ℕ) → front ≡ old ++ take n plain → n ≤ length plain → (n < most_atoms → n ≡ length plain)
    → length front < most_atoms → n ≡ length plain
all_bits old plain front n is within all less =
    all (omega (arith, less, ap length is, length-append old (take n plain), length-take-le n plain within))

-- as many of its bits as belong to the front stand there; where that is not enough no such atom is behind them
pub front_within : (old plain front : List Bool) (last : Entry) (others : List Entry) (n : ℕ) → front ≡ old ++ take n plain
    → (length front < most_atoms → (n ≡ length plain) × ((taken : Bool) → last ≢ plain_entry taken))
    → IsFront front (map plain_entry old ++ map plain_entry plain ++ last ∷ others)
front_within old plain front last others n is ends =
    let left = map plain_entry (drop n plain) in let behind = last ∷ others in (
      left ++ behind,
      ap (λ (l : List Bool). map plain_entry old ++ map plain_entry l ++ behind) (sym (take-append-drop n plain))
          ∙ ap (λ (l : List Entry). map plain_entry old ++ l ++ behind) (map-append plain_entry (take n plain) (drop n plain))
          ∙ ap (λ (l : List Entry). l ++ behind) (sym (append_assoc (map plain_entry old) (map plain_entry (take n plain)) left))
          ∙ append_assoc (map plain_entry old ++ map plain_entry (take n plain)) left behind
          ∙ ap (λ (l : List Entry). l ++ (left ++ behind)) (sym (map-append plain_entry old (take n plain)))
          ∙ ap (λ (l : List Bool). map plain_entry l ++ (left ++ behind)) (sym is),
      λ less taken there.
          let end = ends less in
          let first = ap (λ (l : List Bool). slice_get (map plain_entry l ++ behind) 0) (sym (all_taken n plain end.0)) ∙ there in
          end.1 taken (same_entry last (plain_entry taken) first),
    )

-- all of its bits stand there, and the entry behind them
pub front_whole : (old plain front more : List Bool) (last : Entry) (taken : Bool) (n : ℕ) → more ≡ old ++ take n plain → n ≡ length plain
    → last ≡ plain_entry taken → front ≡ more ++ taken ∷ []
    → map plain_entry front ≡ map plain_entry old ++ map plain_entry plain ++ last ∷ []
front_whole old plain front more last taken n is all atom made =
    let bits : take n plain ≡ plain = take_all n plain (omega (arith, all)) in
    ap (map plain_entry) made ∙ map-append plain_entry more (taken ∷ [])
    ∙ ap (λ (l : List Bool). map plain_entry l ++ plain_entry taken ∷ []) (is ∙ ap (λ (l : List Bool). old ++ l) bits)
    ∙ ap (λ (l : List Entry). l ++ plain_entry taken ∷ []) (map-append plain_entry old plain)
    ∙ ap (λ (x : Entry). map plain_entry old ++ map plain_entry plain ++ x ∷ []) (sym atom)

-- that many are enough
pub front_enough : (old plain front : List Bool) (last : Entry) (others : List Entry)
    → map plain_entry front ≡ map plain_entry old ++ map plain_entry plain ++ last ∷ [] → most_atoms ≤ length front
    → IsFront front (map plain_entry old ++ map plain_entry plain ++ last ∷ others)
front_enough old plain front last others is enough = (
  others,
  sym (append_assoc (map plain_entry old ++ map plain_entry plain) (last ∷ []) others) ∙ ap (λ (l : List Entry). l ++ others) (sym is),
  λ less taken there. absurd (omega (arith, less, enough)),
)

-- ---- one run behind the other

drop_there : (runs : List AtomsAndEntry) (run : AtomsAndEntry) (i : ℕ) → slice_get runs i ≡ Some run → drop i runs ≡ run ∷ drop (i + 1) runs
drop_there [] run i is = absurd cc
drop_there (x ∷ runs) run zero is = let same : x ≡ run = cc in ap (λ (r : AtomsAndEntry). r ∷ runs) same
drop_there (x ∷ runs) run (suc i) is =
    let next : suc (i + 1) ≡ suc i + 1 = omega arith in drop_there runs run i is ∙ ap (λ (k : ℕ). run ∷ drop k (x ∷ runs)) next

next_run : (runs : List AtomsAndEntry) (run : AtomsAndEntry) (plain : List Bool) (i : ℕ) → slice_get runs i ≡ Some run
    → entries_in (drop i runs) plain ≡ map plain_entry run.plain ++ run.last ∷ entries_in (drop (i + 1) runs) plain
next_run runs run plain i is = ap (λ (l : List AtomsAndEntry). entries_in l plain) (drop_there runs run i is)

-- the front so far, and the runs that are left
pub goes_on : (items : List Entry) (runs : List AtomsAndEntry) (run : AtomsAndEntry) (plain old front : List Bool) (i : ℕ) → slice_get runs i ≡ Some run
    → items ≡ map plain_entry old ++ entries_in (drop i runs) plain
    → map plain_entry front ≡ map plain_entry old ++ map plain_entry run.plain ++ run.last ∷ []
    → items ≡ map plain_entry front ++ entries_in (drop (i + 1) runs) plain
goes_on items runs run plain old front i is split more =
    let left = entries_in (drop (i + 1) runs) plain in
    split ∙ ap (λ (l : List Entry). map plain_entry old ++ l) (next_run runs run plain i is)
    ∙ sym (append_assoc (map plain_entry old) (map plain_entry run.plain) (run.last ∷ left))
    ∙ sym (append_assoc (map plain_entry old ++ map plain_entry run.plain) (run.last ∷ []) left)
    ∙ ap (λ (l : List Entry). l ++ left) (sym more)

pub ends_there : (items : List Entry) (runs : List AtomsAndEntry) (run : AtomsAndEntry) (plain old front : List Bool) (i : ℕ) → slice_get runs i ≡ Some run
    → items ≡ map plain_entry old ++ entries_in (drop i runs) plain
    → ((others : List Entry) → IsFront front (map plain_entry old ++ map plain_entry run.plain ++ run.last ∷ others))
    → IsFront front items
ends_there items runs run plain old front i is split ends =
    let left = entries_in (drop (i + 1) runs) plain in
    subst (IsFront front)
    (append_assoc (map plain_entry old) (map plain_entry run.plain) (run.last ∷ left)
    ∙ ap (λ (l : List Entry). map plain_entry old ++ l) (sym (next_run runs run plain i is)) ∙ sym split)
    (ends left)

-- behind the last run the bits alone are left
pub ends_plain : (items : List Entry) (runs : List AtomsAndEntry) (plain old front : List Bool) (i n : ℕ) → length runs ≤ i
    → items ≡ map plain_entry old ++ entries_in (drop i runs) plain → front ≡ old ++ take n plain
    → (length front < most_atoms → n ≡ length plain) → IsFront front items
ends_plain items runs plain old front i n past split is ends =
    let gone : drop i runs ≡ [] = nil_from_length (drop i runs) (omega (arith, length-drop i runs, past)) in
    let left = map plain_entry (drop n plain) in (
      left,
      split ∙ ap (λ (l : List AtomsAndEntry). map plain_entry old ++ entries_in l plain) gone
          ∙ ap (λ (l : List Bool). map plain_entry old ++ map plain_entry l) (sym (take-append-drop n plain))
          ∙ ap (λ (l : List Entry). map plain_entry old ++ l) (map-append plain_entry (take n plain) (drop n plain))
          ∙ sym (append_assoc (map plain_entry old) (map plain_entry (take n plain)) left)
          ∙ ap (λ (l : List Entry). l ++ left) (sym (map-append plain_entry old (take n plain)))
          ∙ ap (λ (l : List Bool). map plain_entry l ++ left) (sym is),
      λ less taken there.
          let first = ap (λ (l : List Bool). slice_get (map plain_entry l) 0) (sym (all_taken n plain (ends less))) ∙ there in no_first (plain_entry taken) first,
    )

-- ---- so many of the oldest

pub are_first : (oldest : List Bool) (items : List Entry) (n k : ℕ) → map plain_entry oldest ≡ take n items → length oldest ≡ n → k < n
    → (taken : Bool) × (slice_get items k ≡ Some (plain_entry taken))
are_first [] items n k is count below = absurd (omega (arith, count, below))
are_first (t ∷ oldest) items zero k is count below = absurd (omega (arith, below))
are_first (t ∷ oldest) [] (suc n) k is count below = absurd cc
are_first (t ∷ oldest) (x ∷ items) (suc n) zero is count below = (t, cc)
are_first (t ∷ oldest) (x ∷ items) (suc n) (suc k) is count below =
    let rest : map plain_entry oldest ≡ take n items = cc in are_first oldest items n k rest (omega (arith, count)) (omega (arith, below))

pub oldest_of : (atoms : List Bool) (items : List Entry) (count n : ℕ) → map plain_entry atoms ≡ take count items → length atoms ≡ count → n ≤ count
    → AreOldest n items
oldest_of atoms items count n is size within = (
  take n atoms,
  sym (take-map plain_entry n atoms) ∙ ap (take n) is ∙ take-take n count items within,
  length-take-le n atoms (omega (arith, within, size)),
)
