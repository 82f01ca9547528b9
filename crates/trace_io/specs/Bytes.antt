-- What a call does to the bytes that a sink took or a source has left, where the object shows them.
use Rattle.std.specs.Prelude.{◌≡◌, ℕ, ◌<◌, ◌≤◌, List, ◌++◌, length, is_some}
use Rattle.std.specs.Io.KnownBytes.{Appends, Consumes, IsAtEnd, Keeps}
use Rattle.trace_io.specs.State.{IoState}

-- an object shows its bytes now exactly where it showed them before
abbrev pub ShowsAsBefore : IoState → IoState → Type 0
ShowsAsBefore old new = is_some new.bytes ≡ is_some old.bytes

-- the bytes were appended
abbrev pub AppendsAll : IoState → IoState → List ℕ → Type 0
AppendsAll old new bytes = Appends old.bytes new.bytes bytes

-- nothing was appended, and nothing taken off
abbrev pub KeepsBytes : IoState → IoState → Type 0
KeepsBytes old new = Keeps old.bytes new.bytes

-- a front of the bytes was appended
pub record AppendsFront (old new : IoState) (bytes : List ℕ) : Type 0 where
  pub front : List ℕ
  pub rest : List ℕ
  pub whole : bytes ≡ front ++ rest
  pub appended : AppendsAll old new front

-- a front of the bytes, and not all of them, was appended
pub record AppendsShorter (old new : IoState) (bytes : List ℕ) : Type 0 where
  pub front : List ℕ
  pub rest : List ℕ
  pub whole : bytes ≡ front ++ rest
  pub appended : AppendsAll old new front
  pub shorter : 0 < length rest

-- the bytes were taken, and nothing is left
abbrev pub TakesAll : IoState → IoState → List ℕ → Type 0
TakesAll old new bytes = Consumes old.bytes new.bytes bytes × IsAtEnd new.bytes

-- `count` bytes were taken
abbrev pub TakesCount : IoState → IoState → ℕ → Type 0
TakesCount old new count = (bytes : List ℕ) × (length bytes ≡ count) × Consumes old.bytes new.bytes bytes

-- `most` bytes were taken, or fewer
abbrev pub TakesAtMost : IoState → IoState → ℕ → Type 0
TakesAtMost old new most = (bytes : List ℕ) × (length bytes ≤ most) × Consumes old.bytes new.bytes bytes
