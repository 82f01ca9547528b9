-- Frames of traces stand again in what is written of them with synchronisation packets.
use Rattle.std.proofs.Common.{◌≡◌, ℕ, ◌-◌, ◌*◌, ◌/◌, ◌%◌, ◌<◌, List, length, drop, Option, Some, None, refl, sym, ap, subst, ◌∙◌, arith}
use Rattle.program_image.specs.Part.{IsImage}
use Rattle.program_image.specs.declared.image.Image.{Image}
use Rattle.run_file.specs.Parts.{BenchParts, IsBench}
use Rattle.sync_frames.proofs.Written.{later_frames_back}
use Rattle.sync_frames.specs.Synced.{synced_every}
use Rattle.sync_frames.specs.Syncs.{unsynced}
use Rattle.traced_runs.proofs.LastFrames.{whole_framed}
use Rattle.traced_runs.proofs.TracedStreams.{sources_are}
use Rattle.traced_runs.specs.Traced.{AreAccepted, kept_frames, trace_frames, trace_pairs, with_syncs}

-- all frames, or the last ones, are those from some frame on
abbrev From : List ℕ → List ℕ → Type 0
From frames kept = (k : ℕ) × (kept ≡ drop (16 * k) frames)

from_one : (last : Option ℕ) (frames : List ℕ) → length frames % 16 ≡ 0 → From frames (kept_frames last frames)
from_one None frames whole = (0, refl)
from_one (Some n) frames whole =
    let k = length frames / 16 - n in
    let same : length frames - 16 * n ≡ 16 * k = omega (arith, whole) in (k, ap (λ (m : ℕ). drop m frames) same)

pub synced_again : (image : Image) (b : BenchParts) → IsImage image → IsBench b → AreAccepted image b → (last : Option ℕ) (every : ℕ) → 0 < every
    → unsynced (with_syncs (Some every) (kept_frames last (trace_frames image b))) ≡ kept_frames last (trace_frames image b)
synced_again image b is bench none last every some =
    let from = from_one last (trace_frames image b) (whole_framed (trace_pairs image b)) in
    subst (λ (kept : List ℕ). unsynced (synced_every every kept) ≡ kept) (sym from.1)
    (later_frames_back every from.0 (trace_pairs image b) some (sources_are image b is bench none))
