-- What contracts see of an `Unsync`.
use Rattle.std.specs.Prelude.{◌≡◌, ℕ, suc, ◌+◌, ◌%◌, ◌<◌, ◌≤◌, ◌==◌, if◌then◌else◌, List, [], ◌∷◌, ◌++◌, length, replicate, Option, Some, None, ⊤}
use Rattle.formatter_frames.specs.Sizes.{frame_bytes}
use Rattle.sync_frames.specs.Syncs.{kept_from, unsynced}
use Rattle.sync_frames.specs.declared.unsync.Phase.{Phase}
use Rattle.sync_frames.specs.declared.unsync.Phase.TheVariants as place

-- The place of a frame at which the next byte stands that is not given yet, or none where no full sync was found; and the bytes that are held
-- back, since they may be of a sync.
pub record Unsyncing : Type 0 where
  pub place : Option ℕ
  pub held : List ℕ

-- how many bytes of a begun frame were given
abbrev pub place_of : Option ℕ → ℕ
place_of None = 0
place_of (Some place) = place

-- the bytes of frames among more bytes, from such a place on
abbrev pub kept_at : Option ℕ → List ℕ → List ℕ
kept_at None bytes = unsynced bytes
kept_at (Some place) bytes = kept_from place bytes

-- the bytes of frames that are given once more bytes come, and no others behind them
abbrev pub rest_of : Unsyncing → List ℕ → List ℕ
rest_of u more = kept_at u.place (u.held ++ more)

-- These bytes were taken, and these bytes of frames given. What more bytes give comes behind them, what is held back fills no frame, and no more
-- bytes are given and held than were taken.
pub record StandsAt (u : Unsyncing) (bytes given : List ℕ) : Type 0 where
  pub goes_on : (more : List ℕ) → unsynced (bytes ++ more) ≡ given ++ rest_of u more
  pub place : length given % frame_bytes ≡ place_of u.place
  pub cut : place_of u.place + length u.held < frame_bytes
  pub few : length given + length u.held ≤ length bytes

-- ---- bytes that are no sync

-- How many bytes, from an even place on, are kept whatever comes: whole pairs up to the first that begins with FF.
abbrev pub plain_length : List ℕ → ℕ
plain_length [] = 0
plain_length (last ∷ []) = 0
plain_length (first ∷ second ∷ bytes) = if first == 255 then 0 else suc (suc (plain_length bytes))

-- so many of more bytes are given as they come: none where a byte is held back, or no full sync was found
abbrev pub run_behind : Option ℕ → List ℕ → List ℕ → ℕ
run_behind None held bytes = 0
run_behind (Some place) [] bytes = plain_length bytes
run_behind (Some place) (byte ∷ held) bytes = 0

abbrev pub run_at : Unsyncing → List ℕ → ℕ
run_at u bytes = run_behind u.place u.held bytes

-- ---- as it is kept

abbrev pub state_of : Phase → Unsyncing
state_of (place.Hunting ones) = record { place = None; held = replicate ones 255 }
state_of (place.Between at) = record { place = Some at; held = [] }
state_of (place.Within at first) = record { place = Some at; held = first ∷ [] }
state_of place.TwoOnes = record { place = Some 0; held = 255 ∷ 255 ∷ [] }
state_of place.ThreeOnes = record { place = Some 0; held = 255 ∷ 255 ∷ 255 ∷ [] }

-- a place is even and one of a frame, and no more than three bytes FF are held back
abbrev pub IsPhase : Phase → Type 0
IsPhase (place.Hunting ones) = ones ≤ 3
IsPhase (place.Between at) = (at % 2 ≡ 0) × (at < 16)
IsPhase (place.Within at first) = (at % 2 ≡ 0) × (at < 16)
IsPhase place.TwoOnes = ⊤
IsPhase place.ThreeOnes = ⊤
