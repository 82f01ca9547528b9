-- The entries of runs, and the atoms behind them that are kept as bits.
use Rattle.std.proofs.Common.{◌≡◌, ℕ, ◌+◌, ◌-◌, ◌≤◌, ◌<◌, Bool, not, List, [], ◌∷◌, ◌++◌, length, map, take, drop, Option, Some, None, refl, sym, ap, subst, ◌∙◌, arith}
use Rattle.std.proofs.Common.{append_assoc, length-append, slice_get}
use Rattle.std.specs.Prelude.{IfSome, IsSome, option_to_list, slice_set}
use Rattle.std.proofs.lemmas.List.{drop-map, length-drop, length-map, length-take-le, map-append, take-append-drop, take-append-le, drop-append-le, take-map}
use Rattle.etm_types.specs.Pre.{nothing_told}
use Rattle.etm_types.specs.declared.element.Entry.{Entry}
use Rattle.etm_types.specs.declared.element.P0.{P0}
use Rattle.etm_types.specs.declared.element.P0.TheVariants.{Atom}
use Rattle.etm_types.specs.declared.element.Pre.{Pre}
use Rattle.etm_types.specs.declared.element.Thing.{Thing}
use Rattle.etm_types.specs.declared.element.Thing.TheVariants.{Seen}
use Rattle.element_queue.specs.Kept.{AreNewest, AreOldest, entries_in, kept}
use Rattle.element_queue.specs.Pending.{flip_newest}
use Rattle.element_queue.specs.Queued.{given_since, plain_entry}
use Rattle.element_queue.specs.declared.entries.AtomsAndEntry.{AtomsAndEntry}
use Rattle.element_queue.proofs.Flipped.{flip_newest_at}

-- ---- at the end

-- atoms more
pub more_plain : (runs : List AtomsAndEntry) (plain more : List Bool) → entries_in runs (plain ++ more) ≡ entries_in runs plain ++ map plain_entry more
more_plain [] plain more = map-append plain_entry plain more
more_plain (run ∷ runs) plain more =
    ap (λ (l : List Entry). map plain_entry run.plain ++ run.last ∷ l) (more_plain runs plain more)
    ∙ sym (append_assoc (map plain_entry run.plain) (run.last ∷ entries_in runs plain) (map plain_entry more))

-- a run more
pub more_runs : (runs : List AtomsAndEntry) (run : AtomsAndEntry) (plain : List Bool)
    → entries_in (runs ++ run ∷ []) plain ≡ entries_in runs run.plain ++ run.last ∷ map plain_entry plain
more_runs [] run plain = refl
more_runs (first ∷ runs) run plain =
    ap (λ (l : List Entry). map plain_entry first.plain ++ first.last ∷ l) (more_runs runs run plain)
    ∙ sym (append_assoc (map plain_entry first.plain) (first.last ∷ entries_in runs run.plain) (run.last ∷ map plain_entry plain))

-- no more runs than entries
pub few_runs : (runs : List AtomsAndEntry) (plain : List Bool) → length runs ≤ length (entries_in runs plain)
few_runs [] plain = omega arith
few_runs (run ∷ runs) plain =
    omega (arith, few_runs runs plain, length-append (map plain_entry run.plain) (run.last ∷ entries_in runs plain))

pub some_entries : (runs : List AtomsAndEntry) (plain : List Bool) → 0 < length runs → 0 < length (entries_in runs plain)
some_entries runs plain some = omega (arith, some, few_runs runs plain)

pub no_runs : (runs : List AtomsAndEntry) → length runs ≡ 0 → runs ≡ []
no_runs [] none = refl
no_runs (run ∷ runs) none = absurd (omega (arith, none))

pub only_plain : (runs : List AtomsAndEntry) (plain : List Bool) → length runs ≡ 0 → entries_in runs plain ≡ map plain_entry plain
only_plain runs plain none = ap (λ (l : List AtomsAndEntry). entries_in l plain) (no_runs runs none)

-- ---- at the front

-- the entries behind the atoms of the first run
abbrev pub behind_first : List AtomsAndEntry → List Bool → List Entry
behind_first [] plain = []
behind_first (run ∷ runs) plain = run.last ∷ entries_in runs plain

pub first_of : (runs : List AtomsAndEntry) (run : AtomsAndEntry) (plain : List Bool) → slice_get runs 0 ≡ Some run
    → entries_in runs plain ≡ map plain_entry run.plain ++ behind_first runs plain
first_of [] run plain is = absurd cc
first_of (x ∷ runs) run plain is =
    let same : x ≡ run = cc in ap (λ (r : AtomsAndEntry). map plain_entry r.plain ++ x.last ∷ entries_in runs plain) same

-- with other atoms in the first run
pub first_set : (runs : List AtomsAndEntry) (run : AtomsAndEntry) (atoms plain : List Bool) → slice_get runs 0 ≡ Some run
    → entries_in (slice_set runs 0 (record run { plain = atoms })) plain ≡ map plain_entry atoms ++ behind_first runs plain
first_set [] run atoms plain is = absurd cc
first_set (x ∷ runs) run atoms plain is =
    let same : run ≡ x = cc in ap (λ (r : AtomsAndEntry). map plain_entry atoms ++ r.last ∷ entries_in runs plain) same

-- so many of its atoms are taken out
pub first_dropped : (runs : List AtomsAndEntry) (run : AtomsAndEntry) (n : ℕ) (plain : List Bool) → slice_get runs 0 ≡ Some run → n ≤ length run.plain
    → entries_in (slice_set runs 0 (record run { plain = drop n run.plain })) plain ≡ drop n (entries_in runs plain)
first_dropped runs run n plain is within =
    first_set runs run (drop n run.plain) plain is
    ∙ ap (λ (l : List Entry). l ++ behind_first runs plain) (sym (drop-map plain_entry n run.plain))
    ∙ sym (drop-append-le n (map plain_entry run.plain) (behind_first runs plain) (omega (arith, within, length-map run.plain plain_entry)))
    ∙ ap (drop n) (sym (first_of runs run plain is))

pub first_oldest : (runs : List AtomsAndEntry) (run : AtomsAndEntry) (n : ℕ) (plain : List Bool) → slice_get runs 0 ≡ Some run → n ≤ length run.plain
    → map plain_entry (take n run.plain) ≡ take n (entries_in runs plain)
first_oldest runs run n plain is within =
    sym (take-map plain_entry n run.plain)
    ∙ sym (take-append-le n (map plain_entry run.plain) (behind_first runs plain) (omega (arith, within, length-map run.plain plain_entry)))
    ∙ ap (take n) (sym (first_of runs run plain is))

pub are_oldest : (runs : List AtomsAndEntry) (run : AtomsAndEntry) (n : ℕ) (plain : List Bool) → slice_get runs 0 ≡ Some run → n ≤ length run.plain
    → AreOldest n (entries_in runs plain)
are_oldest runs run n plain is within =
    (take n run.plain, first_oldest runs run n plain is within, length-take-le n run.plain within)

-- ---- where there are no runs

pub plain_dropped : (runs : List AtomsAndEntry) (n : ℕ) (plain : List Bool) → length runs ≡ 0 → entries_in runs (drop n plain) ≡ drop n (entries_in runs plain)
plain_dropped runs n plain none =
    only_plain runs (drop n plain) none ∙ sym (drop-map plain_entry n plain) ∙ ap (drop n) (sym (only_plain runs plain none))

pub plain_oldest : (runs : List AtomsAndEntry) (n : ℕ) (plain : List Bool) → length runs ≡ 0 → map plain_entry (take n plain) ≡ take n (entries_in runs plain)
plain_oldest runs n plain none = sym (take-map plain_entry n plain) ∙ ap (take n) (sym (only_plain runs plain none))

pub there_is : (runs : List AtomsAndEntry) → 0 < length runs → (run : AtomsAndEntry) × (slice_get runs 0 ≡ Some run)
there_is [] some = absurd (omega (arith, some))
there_is (run ∷ runs) some = (run, refl)

pub none_at : {X : Type 0} (xs : List X) → slice_get xs 0 ≡ None → xs ≡ []
none_at [] none = refl
none_at (x ∷ xs) none = absurd cc

-- the oldest of the first run is taken out
pub popped : (r : Option Bool) (runs : List AtomsAndEntry) (run : AtomsAndEntry) (left : List Bool) → slice_get runs 0 ≡ Some run → run.plain ≡ option_to_list r ++ left
    → IfSome r (λ taken. (plain : List Bool)
    → entries_in runs plain ≡ plain_entry taken ∷ entries_in (slice_set runs 0 (record run { plain = left })) plain)
popped None runs run left is order = cc
popped (Some taken) runs run left is order = λ plain.
    first_of runs run plain is ∙ ap (λ (l : List Bool). map plain_entry l ++ behind_first runs plain) order
    ∙ ap (λ (l : List Entry). plain_entry taken ∷ l) (sym (first_set runs run left plain is))

-- ---- the newest entry, where no atoms are behind the runs

last_at : {X : Type 0} (xs : List X) (x : X) → slice_get (xs ++ x ∷ []) (length xs) ≡ Some x
last_at [] x = refl
last_at (y ∷ xs) x = last_at xs x

pub last_of : (runs others : List AtomsAndEntry) (run : AtomsAndEntry) → runs ≡ others ++ run ∷ [] → entries_in runs [] ≡ entries_in others run.plain ++ run.last ∷ []
last_of runs others run is = ap (λ (l : List AtomsAndEntry). entries_in l []) is ∙ more_runs others run []

pub newest_entry : (runs others : List AtomsAndEntry) (run : AtomsAndEntry) → runs ≡ others ++ run ∷ []
    → (n : ℕ) × (slice_get (entries_in runs []) n ≡ Some run.last) × (n + 1 ≡ length (entries_in runs []))
newest_entry runs others run is =
    let xs = entries_in others run.plain in let e = last_of runs others run is in (
      length xs,
      ap (λ (l : List Entry). slice_get l (length xs)) e ∙ last_at xs run.last,
      omega (arith, ap length e, length-append xs (run.last ∷ [])),
    )

entry_flips : (xs : List Entry) (pre : Pre) (p0 : P0) (taken : Bool) → p0 ≡ Atom taken
    → flip_newest (map Seen (xs ++ record { pre = pre; p0 = p0 } ∷ [])) ≡ Some (map Seen (xs ++ record { pre = pre; p0 = Atom (not taken) } ∷ []))
entry_flips xs pre p0 taken is =
    let now : Entry = record { pre = pre; p0 = Atom (not taken) } in
    ap (λ (p : P0). flip_newest (map Seen (xs ++ record { pre = pre; p0 = p } ∷ []))) is
    ∙ ap flip_newest (map-append Seen xs (record { pre = pre; p0 = Atom taken } ∷ []))
    ∙ flip_newest_at (map Seen xs) (Seen (record { pre = pre; p0 = Atom taken }))
    ∙ ap (λ (l : List Thing). Some l) (sym (map-append Seen xs (now ∷ [])))

pub last_flips : (runs others now : List AtomsAndEntry) (run : AtomsAndEntry) (last : Entry) (taken : Bool) → runs ≡ others ++ run ∷ [] → (run.last).p0 ≡ Atom taken
    → last ≡ record (run.last) { p0 = Atom (not taken) } → now ≡ others ++ record run { last = last } ∷ []
    → flip_newest (map Seen (entries_in runs [])) ≡ Some (map Seen (entries_in now []))
last_flips runs others now run last taken is atom flipped made =
    let xs = entries_in others run.plain in
    ap (λ (l : List Entry). flip_newest (map Seen l)) (last_of runs others run is)
    ∙ entry_flips xs (run.last).pre (run.last).p0 taken atom
    ∙ ap (λ (l : List Entry). Some (map Seen l))
    (ap (λ (e : Entry). xs ++ e ∷ []) (sym flipped) ∙ sym (last_of now others (record run { last = last }) made))

pub same_count : (runs others now : List AtomsAndEntry) (run : AtomsAndEntry) (last : Entry) → runs ≡ others ++ run ∷ [] → now ≡ others ++ record run { last = last } ∷ []
    → length (entries_in now []) ≡ length (entries_in runs [])
same_count runs others now run last is made =
    let xs = entries_in others run.plain in
    omega (
      arith,
      ap length (last_of runs others run is),
      ap length (last_of now others (record run { last = last }) made),
      length-append xs (run.last ∷ []),
      length-append xs (last ∷ []),
    )

-- ---- what a call leaves

pub same_kept : (a b : List Entry) (m n : ℕ) → a ≡ b → m ≡ n → kept a m ≡ kept b n
same_kept a b m n items capacity k = record { items = items k; capacity = capacity k }

pub run_ended : (runs now : List AtomsAndEntry) (plain atoms left : List Bool) (last : Entry) → now ≡ runs ++ record { plain = atoms; last = last } ∷ []
    → atoms ≡ plain → left ≡ [] → entries_in now left ≡ entries_in runs plain ++ last ∷ []
run_ended runs now plain atoms left last made same none =
    ap (entries_in now) none ∙ ap (λ (l : List AtomsAndEntry). entries_in l []) made ∙ more_runs runs (record { plain = atoms; last = last }) []
    ∙ ap (λ (a : List Bool). entries_in runs a ++ last ∷ []) same

pub plain_popped : (runs : List AtomsAndEntry) (plain left : List Bool) (taken : Bool) → plain ≡ left ++ taken ∷ []
    → entries_in runs plain ≡ entries_in runs left ++ plain_entry taken ∷ []
plain_popped runs plain left taken order = ap (entries_in runs) order ∙ more_plain runs left (taken ∷ [])

pub run_popped : (runs others : List AtomsAndEntry) (run : AtomsAndEntry) (plain : List Bool) → runs ≡ others ++ run ∷ [] → plain ≡ []
    → entries_in runs plain ≡ entries_in others run.plain ++ run.last ∷ []
run_popped runs others run plain is none = ap (entries_in runs) none ∙ last_of runs others run is

pub longer : (xs ys : List Entry) (x : Entry) → xs ≡ ys ++ x ∷ [] → length xs ≡ length ys + 1
longer xs ys x is = omega (arith, ap length is, length-append ys (x ∷ []))

first_alone : (plain : List Bool) (last : Entry) (others : List Entry)
    → slice_get (map plain_entry plain ++ last ∷ others) 0 ≡ slice_get (map plain_entry plain ++ last ∷ []) 0
first_alone [] last others = refl
first_alone (taken ∷ plain) last others = refl

-- the first entry is that of the first run alone
pub first_at : (runs : List AtomsAndEntry) (run : AtomsAndEntry) (plain : List Bool) → slice_get runs 0 ≡ Some run
    → slice_get (entries_in runs plain) 0 ≡ slice_get (entries_in (run ∷ []) []) 0
first_at [] run plain is = absurd cc
first_at (x ∷ runs) run plain is =
    let same : x ≡ run = cc in first_alone x.plain x.last (entries_in runs plain) ∙ ap (λ (r : AtomsAndEntry). slice_get (entries_in (r ∷ []) []) 0) same

-- the newest is kept as a bit
pub plain_flips : (runs : List AtomsAndEntry) (plain : List Bool) (taken : Bool)
    → flip_newest (map Seen (entries_in runs (plain ++ taken ∷ []))) ≡ Some (map Seen (entries_in runs (plain ++ not taken ∷ [])))
plain_flips runs plain taken =
    let xs = entries_in runs plain in
    ap (λ (l : List Entry). flip_newest (map Seen l)) (more_plain runs plain (taken ∷ []))
    ∙ entry_flips xs (plain_entry taken).pre (Atom taken) taken refl
    ∙ ap (λ (l : List Entry). Some (map Seen l)) (sym (more_plain runs plain (not taken ∷ [])))

split_last : (plain : List Bool) → 0 < length plain → (left : List Bool) × (taken : Bool) × (plain ≡ left ++ taken ∷ [])
split_last [] some = absurd (omega (arith, some))
split_last (x ∷ []) some = ([], x, refl)
split_last (x ∷ y ∷ plain) some =
    let behind = split_last (y ∷ plain) (omega arith) in (x ∷ behind.0, behind.1, ap (λ (l : List Bool). x ∷ l) behind.2)

pub some_plain : (runs : List AtomsAndEntry) (plain : List Bool) → 0 < length plain → IsSome (flip_newest (map Seen (entries_in runs plain)))
some_plain runs plain some =
    let last = split_last plain some in
    subst IsSome (sym (ap (λ (l : List Bool). flip_newest (map Seen (entries_in runs l))) last.2 ∙ plain_flips runs last.0 last.1)) refl

pub none_there : (runs : List AtomsAndEntry) → None ≡ slice_get runs 0 → length runs ≡ 0
none_there [] none = refl
none_there (run ∷ runs) none = absurd cc

pub no_fewer : (runs : List AtomsAndEntry) (plain : List Bool) → length runs ≡ 0 → length plain ≡ length (entries_in runs plain)
no_fewer runs plain none = omega (arith, ap length (only_plain runs plain none), length-map plain plain_entry)

-- so many of the newest are taken out
pub newest_dropped : (runs : List AtomsAndEntry) (plain left : List Bool) (n : ℕ) → left ≡ take (length plain - n) plain → n ≤ length plain
    → AreNewest n (entries_in runs left) (entries_in runs plain)
newest_dropped runs plain left n is within =
    let m = length plain - n in (
      drop m plain,
      ap (entries_in runs) (sym (take-append-drop m plain)) ∙ more_plain runs (take m plain) (drop m plain)
          ∙ ap (λ (l : List Bool). entries_in runs l ++ map plain_entry (drop m plain)) (sym is),
      omega (arith, length-drop m plain, within),
    )

pub as_many : (n : ℕ) (left items : List Entry) → AreNewest n left items → length items ≡ length left + n
as_many n left items (newest, is, count) =
    omega (arith, ap length is, length-append left (map plain_entry newest), length-map newest plain_entry, count)

pub given_plain : (pre : Pre) (newest : List Bool) → 0 < length newest → given_since pre (map plain_entry newest) ≡ nothing_told
given_plain pre [] some = absurd (omega (arith, some))
given_plain pre (taken ∷ newest) some = refl
