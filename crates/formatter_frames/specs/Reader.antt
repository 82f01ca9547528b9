-- What contracts see of a reader of frames.
use Rattle.std.specs.Prelude.{◌≡◌, ℕ, List, [], Option, Some, None}
use Rattle.formatter_frames.specs.Unframed.{id_after_frames, begun_frame}

-- the bytes of the frame that was begun, and the ID that holds after the frames before it
pub record Reading : Type 0 where
  pub begun : List ℕ
  pub current : Option ℕ

-- these bytes were taken
pub record StandsAt (reader : Reading) (bytes : List ℕ) : Type 0 where
  pub begun : reader.begun ≡ begun_frame bytes
  pub current : reader.current ≡ id_after_frames bytes

-- the pairs that a byte gives: those of the frame that it fills, or none
abbrev pub gained : Option (List (ℕ × ℕ)) → List (ℕ × ℕ)
gained None = []
gained (Some pairs) = pairs
