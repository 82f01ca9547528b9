-- Frames with synchronisation packets among them (Arm CoreSight architecture, IHI 0029, the trace formatter): where these may stand, and where
-- this project writes them.
use Rattle.std.specs.Prelude.{◌≡◌, ◌≢◌, ℕ, ◌+◌, ◌%◌, ◌<◌, ◌≤◌, ◌==◌, Bool, if◌then◌else◌, List, [], ◌∷◌, ◌++◌, length, ⊤}
use Rattle.formatter_frames.specs.Pieces.{whole_pieces}
use Rattle.formatter_frames.specs.Sizes.{frame_bytes}
use Rattle.sync_frames.specs.Syncs.{full_sync, half_sync}

-- a byte and its ID, which is that of a trace source, 01 to 6f
abbrev pub IsSourcePair : ℕ × ℕ → Type 0
IsSourcePair pair = (0 < pair.0) × (pair.0 ≤ 111) × (pair.1 < 256)

-- No byte FF stands at an even place. Each sync begins with FF, at an even place.
abbrev pub NoFFAtEven : List ℕ → Type 0
NoFFAtEven [] = ⊤
NoFFAtEven (last ∷ []) = last ≢ 255
NoFFAtEven (first ∷ second ∷ bytes) = (first ≢ 255) × NoFFAtEven bytes

-- ---- where syncs may stand

pub data Sync : Type 0 where
  Full : Sync
  Half : Sync

abbrev pub sync_bytes : Sync → List ℕ
sync_bytes Full = full_sync
sync_bytes Half = half_sync

-- syncs, one after the other, and other bytes behind them
abbrev pub with_syncs : List Sync → List ℕ → List ℕ
with_syncs [] bytes = bytes
with_syncs (sync ∷ syncs) bytes = sync_bytes sync ++ with_syncs syncs bytes

-- a half sync may stand at each even place, and a full sync before a frame alone
abbrev pub MayStandAt : ℕ → List Sync → Type 0
MayStandAt place [] = ⊤
MayStandAt place (Half ∷ syncs) = MayStandAt place syncs
MayStandAt place (Full ∷ syncs) = (place ≡ 0) × MayStandAt place syncs

-- these bytes are the frames, from an even place of one on, with any syncs that may stand there before each pair of bytes and behind the last
abbrev pub Interspersed : ℕ → List ℕ → List ℕ → Type 0
Interspersed place [] bytes = (syncs : List Sync) × MayStandAt place syncs × (bytes ≡ with_syncs syncs [])
Interspersed place (last ∷ []) bytes = ⊥
Interspersed place (first ∷ second ∷ frames) bytes =
    (syncs : List Sync) × (more : List ℕ) × MayStandAt place syncs × (bytes ≡ with_syncs syncs (first ∷ second ∷ more))
    × Interspersed ((place + 2) % frame_bytes) frames more

-- Any bytes, a full sync, which is the earliest, and then the frames with syncs among them.
pub record Synced (frames bytes : List ℕ) : Type 0 where
  pub junk : List ℕ
  pub behind : List ℕ
  pub parts : bytes ≡ junk ++ (full_sync ++ behind)
  pub earliest : (before after : List ℕ) → bytes ≡ before ++ (full_sync ++ after) → length junk ≤ length before
  pub interspersed : Interspersed 0 frames behind

-- ---- where they are written

-- a frame, and a full sync before it where one is to stand there
abbrev pub synced_frame : Bool → List ℕ → List ℕ
synced_frame is_synced frame = (if is_synced then full_sync else []) ++ frame

-- frames, behind so many others, with a full sync before each whose number is a multiple of `every`
abbrev pub synced_frames : ℕ → ℕ → List (List ℕ) → List ℕ
synced_frames every number [] = []
synced_frames every number (frame ∷ frames) = synced_frame (number % every == 0) frame ++ synced_frames every (number + 1) frames

-- all frames, with a full sync before the first and before each `every`-th one after it
abbrev pub synced_every : ℕ → List ℕ → List ℕ
synced_every every frames = synced_frames every 0 (whole_pieces frame_bytes frames)
