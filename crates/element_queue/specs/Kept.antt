-- What contracts see of the entries that a queue keeps.
use Rattle.std.specs.Prelude.{◌≡◌, ◌≢◌, ◌<◌, ℕ, Bool, List, [], ◌∷◌, ◌++◌, length, map, take, slice_get, Some}
use Rattle.etm_types.specs.Atoms.{most_atoms}
use Rattle.etm_types.specs.declared.element.Entry.{Entry}
use Rattle.element_queue.specs.declared.entries.AtomsAndEntry.{AtomsAndEntry}
use Rattle.element_queue.specs.Queued.{plain_entry}

-- the entries, oldest first, and how many there may be
pub record Kept : Type 0 where
  pub items : List Entry
  pub capacity : ℕ

abbrev pub kept : List Entry → ℕ → Kept
kept items capacity = record { items = items; capacity = capacity }

-- the entries of runs, one run after the other, and atoms behind them
abbrev pub entries_in : List AtomsAndEntry → List Bool → List Entry
entries_in [] plain = map plain_entry plain
entries_in (run ∷ runs) plain = map plain_entry run.plain ++ run.last ∷ entries_in runs plain

-- so many of the oldest entries are such atoms
abbrev pub AreOldest : ℕ → List Entry → Type 0
AreOldest n items = (oldest : List Bool) × (map plain_entry oldest ≡ take n items) × (length oldest ≡ n)

-- so many of the newest are, and these are left before them
abbrev pub AreNewest : ℕ → List Entry → List Entry → Type 0
AreNewest n left items = (newest : List Bool) × (items ≡ left ++ map plain_entry newest) × (length newest ≡ n)

-- no such atom stands at this place
abbrev pub NoPlainAt : ℕ → List Entry → Type 0
NoPlainAt n items = (taken : Bool) → slice_get items n ≢ Some (plain_entry taken)

-- the entries begin with these atoms: at least 24, or all of them before the first entry that is no such atom
abbrev pub IsFront : List Bool → List Entry → Type 0
IsFront front items = (others : List Entry) × (items ≡ map plain_entry front ++ others) × (length front < most_atoms → NoPlainAt 0 others)
