-- Which bytes of a trace port are frames, and which are synchronisation packets among them (Arm CoreSight architecture, IHI 0029, the trace
-- formatter: full and half-word frame synchronisation packets).
use Rattle.std.specs.Prelude.{ℕ, ◌+◌, ◌%◌, ◌==◌, ◌&&◌, Bool, false, if◌then◌else◌, List, [], ◌∷◌, drop}
use Rattle.formatter_frames.specs.Sizes.{frame_bytes}

-- a full sync, FF FF FF 7F, which stands between frames
abbrev pub full_sync : List ℕ
full_sync = 255 ∷ 255 ∷ 255 ∷ 127 ∷ []

-- a half sync, FF 7F, which stands at an even place of a frame
abbrev pub half_sync : List ℕ
half_sync = 255 ∷ 127 ∷ []

abbrev pub is_half_sync : ℕ → ℕ → Bool
is_half_sync first second = (first == 255) && (second == 127)

abbrev pub begins_half_sync : List ℕ → Bool
begins_half_sync (first ∷ second ∷ bytes) = is_half_sync first second
begins_half_sync bytes = false

abbrev pub begins_full_sync : List ℕ → Bool
begins_full_sync (first ∷ second ∷ bytes) = (first == 255) && ((second == 255) && begins_half_sync bytes)
begins_full_sync bytes = false

-- The bytes of frames, from an even place of a frame on. A half sync is dropped at each even place, and a full sync at place 0: its first
-- two bytes there, and its last two as a half sync. Of all others two bytes are kept, and a last one that stands alone.
abbrev pub kept_from : ℕ → List ℕ → List ℕ
kept_from place [] = []
kept_from place (last ∷ []) = last ∷ []
kept_from place (first ∷ second ∷ bytes) =
    if is_half_sync first second then kept_from place bytes
    else if (place == 0) && begins_full_sync (first ∷ second ∷ bytes) then kept_from place bytes
    else first ∷ second ∷ kept_from ((place + 2) % frame_bytes) bytes

-- The bytes of frames behind the earliest full sync, which begins a frame. Nothing before it is one of a frame.
abbrev pub unsynced : List ℕ → List ℕ
unsynced [] = []
unsynced (byte ∷ bytes) = if begins_full_sync (byte ∷ bytes) then kept_from 0 (drop 3 bytes) else unsynced bytes
