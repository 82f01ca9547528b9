-- How the bytes of an input become pairs of ID and byte. The proofs stand here since an `impl` names them.
use Rattle.std.proofs.Common.{◌≡◌, ℕ, List, [], ◌++◌, length, Result, refl, sym, append-nil}
use Rattle.std.proofs.lemmas.List.{map-append}
use Rattle.capture_streams.specs.Demuxed.{raw_id, raw_pairs}
use Rattle.capture_streams.specs.Streams.{Adds}
use Rattle.capture_streams.specs.Texts.{Listing}
use Rattle.formatter_frames.proofs.Going.{more_pairs}
use Rattle.formatter_frames.specs.Symbols.{pairs_of}
use Rattle.formatter_frames.specs.Unframed.{begun_frame, id_after_frames, symbols_of_frames, unframed}
use Rattle.trace_io.specs.State.{IoState}

-- what more bytes carry comes behind what was carried
abbrev pub Grow : (List ℕ → List (ℕ × ℕ)) → Type 0
Grow carried = (carried [] ≡ []) × ((bytes more : List ℕ) → (pairs : List (ℕ × ℕ)) × (carried (bytes ++ more) ≡ carried bytes ++ pairs))

-- the pairs that come with the bytes, all of them once no more come, and how many bytes of a begun frame are left over then
pub record Laid : Type 0 where
  pub carried : List ℕ → List (ℕ × ℕ)
  pub whole : List ℕ → List (ℕ × ℕ)
  pub left : List ℕ → ℕ

-- what came with the bytes grows with them, and stands first among all pairs
pub record IsLaid (laid : Laid) : Type 0 where
  pub grows : Grow laid.carried
  pub first : (bytes : List ℕ) → (pairs : List (ℕ × ℕ)) × (laid.whole bytes ≡ laid.carried bytes ++ pairs)

-- No more bytes come, and the lines of the pairs were written that did not come with them. Where a write failed, a front of these.
pub record Rests {T E : Type 0} (laid : Laid) (g : Listing) (bytes : List ℕ) (old new : IoState) (result : Result T E) : Type 0 where
  pub pairs : List (ℕ × ℕ)
  pub all : laid.whole bytes ≡ laid.carried bytes ++ pairs
  pub adds : Adds g (laid.carried bytes) pairs old new result

-- ---- one stream that is not framed

abbrev pub raw_laid : Laid
raw_laid = record { carried = raw_pairs; whole = raw_pairs; left = λ bytes. 0 }

raw_grows : Grow raw_pairs
raw_grows = (refl, λ bytes more. (raw_pairs more, map-append (λ (byte : ℕ). (raw_id, byte)) bytes more))

pub raw_laid_is : IsLaid raw_laid
raw_laid_is = record { grows = raw_grows; first = λ bytes. ([], sym (append-nil (raw_pairs bytes))) }

-- ---- frames

abbrev pub frames_laid : Laid
frames_laid = record { carried = unframed; whole = unframed; left = λ bytes. length (begun_frame bytes) }

frames_grow : Grow unframed
frames_grow = (refl, λ bytes more. (pairs_of (id_after_frames bytes) (symbols_of_frames (begun_frame bytes ++ more)), more_pairs bytes more))

pub frames_laid_is : IsLaid frames_laid
frames_laid_is = record { grows = frames_grow; first = λ bytes. ([], sym (append-nil (unframed bytes))) }
