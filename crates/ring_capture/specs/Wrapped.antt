-- What contracts see of frames of many sources in a capture buffer that was written round.
use Rattle.std.specs.Prelude.{ℕ, ◌+◌, List, refl}
use Rattle.std.specs.Coded.{Coded, code_by, coded×, coded_list, coded_ℕ}
use Rattle.capture_streams.specs.Demuxed.{Demuxed, demuxed_code}
use Rattle.etm_types.specs.Settings.{Sizes}
use Rattle.etm_types.specs.declared.item.Item.{Item}
use Rattle.capture_streams.specs.Demuxed as demuxed
use Rattle.capture_streams.specs.Texts.{Listing}
use Rattle.ring_capture.specs.Rotated.{later_frames}
use Rattle.ring_capture.specs.Unwrapping.{StandsAt, Unwrapping, count_of}

abbrev unwrapping_code : Coded Unwrapping
unwrapping_code =
    code_by (ℕ × (List ℕ × List ℕ)) (coded× coded_ℕ (coded× (coded_list coded_ℕ) (coded_list coded_ℕ))) (λ u. (u.frames, (u.kept, u.begun)))
    (λ p. record { frames = p.0; kept = p.1.0; begun = p.1.1 }) (λ _. refl)

-- what holds frames back, and the streams of the frames that were given
pub record Wrapped (X Y : Type 0) : Type 0 where
  pub unwrap : Unwrapping
  pub demux : Demuxed X Y

abbrev pub wrapped_code : {X Y : Type 0} → Coded X → Coded Y → Coded (Wrapped X Y)
wrapped_code {X} {Y} stream sum =
    code_by (Unwrapping × Demuxed X Y) (coded× unwrapping_code (demuxed_code stream sum)) (λ w. (w.unwrap, w.demux)) (λ p. record { unwrap = p.0; demux = p.1 })
    (λ _. refl)

-- these bytes were taken, and no write failed: the streams stand at the later frames of them
pub record HaveTaken {X Y : Type 0} (stands : X → List ℕ → Type 0) (sizes : X → Sizes) (sums : Y → List (ℕ × Item) → Type 0) (g : Sizes → Listing)
    (t : ℕ → Sizes) (u : Unwrapping) (d : Demuxed X Y) (bytes : List ℕ) : Type 0 where
  pub unwrap : StandsAt u bytes
  pub demux : demuxed.StandsAt stands sizes sums g t d (later_frames u.frames bytes)

-- how many bytes were taken
abbrev pub offset_of : {X Y : Type 0} → Unwrapping → Demuxed X Y → ℕ
offset_of u d = count_of u + d.offset
