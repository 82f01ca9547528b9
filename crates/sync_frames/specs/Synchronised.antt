-- What contracts see of frames of many sources with synchronisation packets among them.
use Rattle.std.specs.Prelude.{◌≡◌, ℕ, List, length, Option, refl}
use Rattle.std.specs.Coded.{Coded, code_by, coded×, coded_list, coded_option, coded_ℕ}
use Rattle.capture_streams.specs.Demuxed.{Demuxed, demuxed_code}
use Rattle.etm_types.specs.Settings.{Sizes}
use Rattle.etm_types.specs.declared.item.Item.{Item}
use Rattle.capture_streams.specs.Demuxed as demuxed
use Rattle.capture_streams.specs.Texts.{Listing}
use Rattle.sync_frames.specs.Unsyncing.{StandsAt, Unsyncing}

abbrev unsyncing_code : Coded Unsyncing
unsyncing_code =
    code_by (Option ℕ × List ℕ) (coded× (coded_option coded_ℕ) (coded_list coded_ℕ)) (λ u. (u.place, u.held)) (λ p. record { place = p.0; held = p.1 })
    (λ _. refl)

-- what drops the syncs, the streams of the frames among the bytes, and how many bytes were taken, syncs among them
pub record Synchronised (X Y : Type 0) : Type 0 where
  pub unsync : Unsyncing
  pub demux : Demuxed X Y
  pub offset : ℕ

abbrev pub synchronised_code : {X Y : Type 0} → Coded X → Coded Y → Coded (Synchronised X Y)
synchronised_code {X} {Y} stream sum =
    code_by (Unsyncing × (Demuxed X Y × ℕ)) (coded× unsyncing_code (coded× (demuxed_code stream sum) coded_ℕ)) (λ s. (s.unsync, (s.demux, s.offset)))
    (λ p. record { unsync = p.0; demux = p.1.0; offset = p.1.1 }) (λ _. refl)

-- these bytes were taken, and no write failed: the streams stand at the bytes of frames among them that were given
pub record HaveTaken {X Y : Type 0} (stands : X → List ℕ → Type 0) (sizes : X → Sizes) (sums : Y → List (ℕ × Item) → Type 0) (g : Sizes → Listing)
    (t : ℕ → Sizes) (u : Unsyncing) (d : Demuxed X Y) (bytes : List ℕ) : Type 0 where
  pub given : List ℕ
  pub unsync : StandsAt u bytes given
  pub demux : demuxed.StandsAt stands sizes sums g t d given

-- and they are counted
abbrev pub IsAfter : {X Y : Type 0} → (X → List ℕ → Type 0) → (X → Sizes) → (Y → List (ℕ × Item) → Type 0) → (Sizes → Listing) → (ℕ → Sizes)
    → Synchronised X Y → List ℕ → Type 0
IsAfter stands sizes sums g t s bytes = HaveTaken stands sizes sums g t s.unsync s.demux bytes × (s.offset ≡ length bytes)
