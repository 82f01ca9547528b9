-- What a unit writes its packets with: bytes with room for them, and a queue of the reader's that has place for the P0 elements.
use Rattle.std.specs.Prelude.{ℕ, ◌+◌, ◌≤◌, List, length, Vec, vec_capacity, vec_len}
use Rattle.trace_unit.specs.Whole.{PutOff}

-- there is room in a vector for these bytes more
abbrev pub RoomForBytes : {A : Type 0} → Vec ℕ A → List ℕ → Type 0
RoomForBytes bytes more = vec_len bytes + length more ≤ vec_capacity bytes

-- What is to be cancelled is held, and of each atom that is written the reader's queue has place for it, or something is to be committed.
pub record Affords (depth : ℕ) (u : PutOff) : Type 0 where
  pub held : u.held ≤ depth
  pub cancels : u.cancels ≤ u.held
  pub atoms : length u.atoms ≤ 24
  pub place : u.held + length u.atoms ≤ depth + u.commits + u.cancels
