-- What contracts see of sources and sinks over memory.
use Rattle.std.specs.Prelude.{◌≡◌, ℕ, List, Bool, true, min, length, Some, None, slice_get}
use Rattle.trace_io.specs.State.{IoState}

-- the bytes that are left, and the most that one read gives
pub record Pieces : Type 0 where
  pub left : List ℕ
  pub piece : ℕ

-- the same, with the script of the next reads and how many reads have failed
pub record Reading : Type 0 where
  pub left : List ℕ
  pub piece : ℕ
  pub script : List Bool
  pub faults : ℕ

-- what was taken, the script of the next writes, how many writes have failed, and whether memory ran out
pub record Writing : Type 0 where
  pub taken : List ℕ
  pub script : List Bool
  pub faults : ℕ
  pub out_of_memory : Bool

-- each as a source or a sink
abbrev pub pieces_state : Pieces → IoState
pieces_state s = record { bytes = Some s.left; faults = 0 }

abbrev pub reading_state : Reading → IoState
reading_state s = record { bytes = Some s.left; faults = s.faults }

abbrev pub writing_state : Writing → IoState
writing_state s = record { bytes = Some s.taken; faults = s.faults }

-- an object that shows no bytes
abbrev pub hidden_state : ℕ → IoState
hidden_state faults = record { bytes = None; faults = faults }

-- the script has the next call fail; past its end no call fails
abbrev pub NextFails : List Bool → Type 0
NextFails script = slice_get script 0 ≡ Some true

-- how many bytes one read gives: a piece, or what there is room for, or what is left
abbrev pub count_given : ℕ → ℕ → List ℕ → ℕ
count_given piece room left = min (min piece room) (length left)
