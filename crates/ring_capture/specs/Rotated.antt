-- The order of the frames in a capture buffer that was written round: its oldest frame is not its first one.
use Rattle.std.specs.Prelude.{ℕ, ◌*◌, ◌/◌, List, ◌++◌, length, take, drop}
use Rattle.formatter_frames.specs.Sizes.{frame_bytes}
use Rattle.formatter_frames.specs.Unframed.{begun_frame}

-- so many frames, in bytes
abbrev pub in_bytes : ℕ → ℕ
in_bytes k = frame_bytes * k

-- the whole frames of bytes
abbrev pub whole_frames : List ℕ → List ℕ
whole_frames bytes = take (length bytes / frame_bytes * frame_bytes) bytes

-- those before frame k, and those from it on
abbrev pub first_frames : ℕ → List ℕ → List ℕ
first_frames k bytes = take (in_bytes k) (whole_frames bytes)

abbrev pub later_frames : ℕ → List ℕ → List ℕ
later_frames k bytes = drop (in_bytes k) (whole_frames bytes)

-- Frame k is the oldest: the frames from it on, then those before it, and then the bytes of a frame that was begun.
abbrev pub rotated : ℕ → List ℕ → List ℕ
rotated k bytes = later_frames k bytes ++ (first_frames k bytes ++ begun_frame bytes)
