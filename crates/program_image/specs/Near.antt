-- A part of an image that is kept at hand, for what looks up one address of it after the other.
use Rattle.std.specs.Prelude.{◌≡◌, ◌≢◌, ℕ, ◌+◌, ◌*◌, ◌%◌, ◌^◌, ◌<◌, ◌≤◌, List, length, Some, slice_get}
use Rattle.program_image.specs.Part.{Part}
use Rattle.program_image.specs.Places.{word_addresses}
use Rattle.program_image.specs.Runs.{IsRun, run_of}
use Rattle.program_image.specs.declared.run.PlacedRun.{PlacedRun}
use Rattle.program_image.specs.declared.run.PlainRun.{PlainRun}

-- the address of its first word, the run from each of its words on, the place of the first among all words of the image, and its own
-- place among the parts
pub record Near : Type 0 where
  pub start : ℕ
  pub runs : List PlainRun
  pub first : ℕ
  pub part : ℕ

-- it stands within the addresses of 64 bits, at multiples of 4, and its places are numbers of 64 bits
pub record Fits (near : Near) : Type 0 where
  pub aligned : near.start % 4 ≡ 0
  pub within : near.start + 4 * length near.runs ≤ 2 ^ 64
  pub few : near.first + length near.runs < 2 ^ 64

-- each of its words is one of the image, of this run and at this place
abbrev pub IsNear : List Part → Near → Type 0
IsNear image near =
    (k : ℕ) (run : PlainRun) → slice_get near.runs k ≡ Some run
    → IsRun image (near.start + 4 * k) run × (slice_get (word_addresses image) (near.first + k) ≡ Some (near.start + 4 * k))

-- it has each word of the part at a place
pub record IsOfPart (n : ℕ) (near : Near) (part : Part) : Type 0 where
  pub start : near.start ≡ part.start
  pub whole : 4 * length near.runs ≡ length part.bytes
  pub place : near.part ≡ n

-- the run is that from its word at an address on, and has the places of the word and of the part
pub record HasRunAt (near : Near) (address : ℕ) (placed : PlacedRun) : Type 0 where
  pub word : ℕ
  pub begins : address ≡ near.start + 4 * word
  pub run : slice_get near.runs word ≡ Some (run_of placed.run)
  pub place : placed.place ≡ near.first + word
  pub part : placed.part ≡ near.part

-- none of its words begins at an address
abbrev pub HasNoRunAt : Near → ℕ → Type 0
HasNoRunAt near address = (k : ℕ) → k < length near.runs → address ≢ near.start + 4 * k
