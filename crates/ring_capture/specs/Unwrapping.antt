-- What contracts see of an `Unwrap`.
use Rattle.std.specs.Prelude.{◌≡◌, ℕ, ◌+◌, nat_le, if◌then◌else◌, List, [], length, take, drop, Option, Some, None}
use Rattle.formatter_frames.specs.Sizes.{frame_bytes}
use Rattle.formatter_frames.specs.Unframed.{begun_frame}
use Rattle.ring_capture.specs.Rotated.{in_bytes}

-- how many frames are kept for the end, the bytes of these that came, and those of the frame that was begun behind them
pub record Unwrapping : Type 0 where
  pub frames : ℕ
  pub kept : List ℕ
  pub begun : List ℕ

-- these bytes were taken
pub record StandsAt (u : Unwrapping) (bytes : List ℕ) : Type 0 where
  pub kept : u.kept ≡ take (in_bytes u.frames) bytes
  pub begun : u.begun ≡ begun_frame (drop (in_bytes u.frames) bytes)

-- how many bytes it has
abbrev pub count_of : Unwrapping → ℕ
count_of u = length u.kept + length u.begun

-- the bytes of a frame that a call gives, or none
abbrev pub given : Option (List ℕ) → List ℕ
given None = []
given (Some frame) = frame

-- frame j of bytes, where all of it is there
abbrev pub frame_at : ℕ → List ℕ → Option (List ℕ)
frame_at j bytes = if nat_le (in_bytes j + frame_bytes) (length bytes) then Some (take frame_bytes (drop (in_bytes j) bytes)) else None
