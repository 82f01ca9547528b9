-- What contracts see of an outlook.
use Rattle.std.specs.Prelude.{ℕ, ◌+◌, ◌^◌, ◌≤◌, Bool, not, List, [], ◌∷◌, ◌++◌, length, map, drop}
use Rattle.element_queue.specs.Counting.{add}
use Rattle.element_queue.specs.Queued.{Queued, plain_atom}

-- The atoms that elements commit, oldest first, and those that are held then; how many were held before, and how many were made and taken
-- back since; the most that may be held.
pub record Outlook : Type 0 where
  pub gone : List Bool
  pub held : List Bool
  pub before : ℕ
  pub made : ℕ
  pub cancelled : ℕ
  pub depth : ℕ

-- so many atoms more may be held, and an outlook has bits for them
abbrev pub has_room : Outlook → ℕ → Type 0
has_room o n = (length o.held + n ≤ o.depth) × (length o.gone + length o.held + n ≤ 64) × (o.made + n ≤ 2 ^ 8)

-- the newest atom is the other one
abbrev pub flip_newest_atom : List Bool → List Bool
flip_newest_atom [] = []
flip_newest_atom (taken ∷ []) = not taken ∷ []
flip_newest_atom (taken ∷ next ∷ atoms) = taken ∷ flip_newest_atom (next ∷ atoms)

-- what was tried is done, and the n oldest of what was committed are given out
abbrev pub settled : Outlook → ℕ → Queued → Queued
settled o n q =
    record q {
      held = map plain_atom (drop n (o.gone ++ o.held));
      counts = record (q.counts) {
        made = add (q.counts).made o.made;
        committed = add (q.counts).committed n;
        cancelled = add (q.counts).cancelled o.cancelled;
      };
    }
