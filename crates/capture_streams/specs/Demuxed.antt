-- What contracts see of frames that are parted into streams.
use Rattle.std.specs.Prelude.{◌≡◌, ℕ, ◌^◌, Bool, false, List, ◌++◌, length, Option, Result, refl}
use Rattle.std.specs.Coded.{Coded, code_by, coded×, coded_list, coded_ℕ, coded_bool, coded_option}
use Rattle.capture_streams.specs.Streams.{Adds, AllStand, SumStands, Summed, summed_code}
use Rattle.capture_streams.specs.Texts.{Listing, by_sizes}
use Rattle.etm_types.specs.Settings.{Sizes}
use Rattle.etm_types.specs.declared.item.Item.{Item}
use Rattle.formatter_frames.specs.Reader as frames
use Rattle.formatter_frames.specs.Symbols.{run_of}
use Rattle.formatter_frames.specs.Unframed.{unframed}
use Rattle.trace_io.specs.State.{IoState}

abbrev reading_code : Coded frames.Reading
reading_code =
    code_by (List ℕ × Option ℕ) (coded× (coded_list coded_ℕ) (coded_option coded_ℕ)) (λ r. (r.begun, r.current)) (λ p. record { begun = p.0; current = p.1 })
    (λ _. refl)

-- the frame that was begun, the streams by ID with what is summed over them, how many bytes were taken, and whether a write failed
pub record Demuxed (X Y : Type 0) : Type 0 where
  pub frames : frames.Reading
  pub sources : Summed X Y
  pub offset : ℕ
  pub broken : Bool

abbrev pub demuxed_code : {X Y : Type 0} → Coded X → Coded Y → Coded (Demuxed X Y)
demuxed_code {X} {Y} stream sum =
    code_by (frames.Reading × (Summed X Y × (ℕ × Bool))) (coded× reading_code (coded× (summed_code stream sum) (coded× coded_ℕ coded_bool)))
    (λ d. (d.frames, (d.sources, (d.offset, d.broken)))) (λ p. record { frames = p.0; sources = p.1.0; offset = p.1.1.0; broken = p.1.1.1 })
    (λ _. refl)

-- the most bytes that are taken
abbrev pub most_bytes : ℕ
most_bytes = 2 ^ 30

-- these bytes of frames were taken, and no write failed: each stream stands at its bytes, under the sizes of its ID, and the sum has what
-- all of them add
pub record StandsAt {X Y : Type 0} (stands : X → List ℕ → Type 0) (sizes : X → Sizes) (sums : Y → List (ℕ × Item) → Type 0) (g : Sizes → Listing)
    (t : ℕ → Sizes) (d : Demuxed X Y) (bytes : List ℕ) : Type 0 where
  pub whole : d.broken ≡ false
  pub offset : d.offset ≡ length bytes
  pub frames : frames.StandsAt d.frames bytes
  pub streams : AllStand stands sizes sums g t d.sources (unframed bytes)

-- A piece is taken behind other bytes, and the lines that it adds are written: those of the pairs that it carries in this layout.
pub record Gains {T E : Type 0} (carried : List ℕ → List (ℕ × ℕ)) (g : Listing) (bytes piece : List ℕ) (old new : IoState) (result : Result T E)
    : Type 0 where
  pub pairs : List (ℕ × ℕ)
  pub grows : carried (bytes ++ piece) ≡ carried bytes ++ pairs
  pub adds : Adds g (carried bytes) pairs old new result

-- ---- one stream that is not framed

-- the ID under which it is printed
abbrev pub raw_id : ℕ
raw_id = 1

-- each byte is one of it
abbrev pub raw_pairs : List ℕ → List (ℕ × ℕ)
raw_pairs bytes = run_of raw_id bytes

-- the stream, and what is summed over its items
pub record RawSummed (X Y : Type 0) : Type 0 where
  pub stream : X
  pub sum : Y

abbrev pub raw_code : {X Y : Type 0} → Coded X → Coded Y → Coded (RawSummed X Y)
raw_code {X} {Y} stream sum =
    code_by (X × Y) (coded× stream sum) (λ r. (r.stream, r.sum)) (λ p. record { stream = p.0; sum = p.1 }) (λ _. refl)

-- these bytes of it were taken, under the sizes of its ID, and no write failed; and the sum has what they add
pub record RawStandsAt {X Y : Type 0} (stands : X → List ℕ → Type 0) (sizes : X → Sizes) (broken : X → Bool) (offset : X → ℕ)
    (sums : Y → List (ℕ × Item) → Type 0) (g : Sizes → Listing) (t : ℕ → Sizes) (r : RawSummed X Y) (bytes : List ℕ) : Type 0 where
  pub whole : broken r.stream ≡ false
  pub count : offset r.stream ≡ length bytes
  pub stand : stands r.stream bytes
  pub same : sizes r.stream ≡ t raw_id
  pub sum : SumStands sums (by_sizes g t) r.sum (raw_pairs bytes)
