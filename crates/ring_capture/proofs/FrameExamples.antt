-- Capture buffers that were written round, and frames that are missing, worked out by hand, beside what a wrong order would give.
use Rattle.std.proofs.Common.{◌≡◌, ℕ, ◌+◌, ◌*◌, List, [], ◌∷◌, ◌++◌, length, drop, take, Some, None, Result}
use Rattle.std.proofs.Common.{refl, ap, arith, length-append}
use Rattle.std.specs.Prelude.{get_or, replicate}
use Rattle.capture_streams.specs.Laid.{Rests}
use Rattle.capture_streams.specs.Texts.{Listing, of}
use Rattle.formatter_frames.specs.Unframed.{unframed}
use Rattle.trace_io.specs.State.{IoState}
use Rattle.ring_capture.specs.Ends.{EndsWith}
use Rattle.ring_capture.specs.Laid.{wrapped_laid}
use Rattle.ring_capture.specs.Rotated.{rotated}
use Rattle.ring_capture.specs.Unwrapping.{StandsAt, frame_at}

-- the byte at a place, and the ID and the byte of a pair
abbrev byte_at : ℕ → List ℕ → ℕ
byte_at k bytes = get_or bytes k 0

abbrev pair_at : ℕ → List (ℕ × ℕ) → ℕ
pair_at k pairs = (get_or pairs k (0, 0)).0 * 256 + (get_or pairs k (0, 0)).1

-- The oldest frame tells ID 1, and then bytes of it; the newer one has bytes of the ID that holds. Of a third one two bytes came.
abbrev oldest : List ℕ
oldest = 0x03 ∷ 40 ∷ replicate 14 0

abbrev newer : List ℕ
newer = 50 ∷ 52 ∷ replicate 14 0

abbrev begun : List ℕ
begun = 0x07 ∷ 60 ∷ []

-- in memory the oldest frame is frame 1
abbrev buffer : List ℕ
buffer = newer ++ (oldest ++ begun)

-- ---- the order of the frames

pub oldest_first : rotated 1 buffer ≡ oldest ++ (newer ++ begun)
oldest_first = refl

-- frames are turned round, not bytes: the begun one stays last
pub not_bytes : rotated 1 buffer ≡ drop 16 buffer ++ take 16 buffer → ⊥
not_bytes e = absurd (omega (arith, ap (byte_at 16) e))

-- one frame in front is the oldest, none is, and there is no frame 2: the order is that in memory
pub from_the_first : rotated 0 buffer ≡ buffer
from_the_first = refl

pub no_frame_2 : rotated 2 buffer ≡ buffer
no_frame_2 = refl

-- a number beyond the frames does not begin anew
pub not_modulo : rotated 3 buffer ≡ rotated 1 buffer → ⊥
not_modulo e = absurd (omega (arith, ap (byte_at 0) e))

-- ---- what it carries

pub later_ones_come_first : (wrapped_laid 1).carried buffer ≡ (1, 40) ∷ replicate 13 (1, 0)
later_ones_come_first = refl

-- the ID of the last frame in memory holds in the first one
pub then_the_first : (wrapped_laid 1).whole buffer ≡ ((1, 40) ∷ replicate 13 (1, 0)) ++ (1, 50) ∷ (1, 52) ∷ replicate 13 (1, 0)
then_the_first = refl

pub two_left : (wrapped_laid 1).left buffer ≡ 2
two_left = refl

-- the later frames are not kept back
pub all_kept_back : (wrapped_laid 1).carried buffer ≡ [] → ⊥
all_kept_back e = absurd (omega (arith, ap length e))

-- the first ones do not come with their bytes
pub first_ones_at_once : (wrapped_laid 1).carried buffer ≡ (wrapped_laid 1).whole buffer → ⊥
first_ones_at_once e = absurd (omega (arith, ap length e))

-- and the ID does not begin anew with them
pub anew_at_the_seam : (wrapped_laid 1).whole buffer ≡ unframed oldest ++ unframed newer → ⊥
anew_at_the_seam e = absurd (omega (arith, ap length e))

-- one frame more or less that is kept gives another text
pub one_frame_more : (wrapped_laid 2).whole buffer ≡ (wrapped_laid 1).whole buffer → ⊥
one_frame_more e = absurd (omega (arith, ap length e))

-- what comes at the end are the pairs of the first frame
module _ {T E : Type 0} (g : Listing) (old new : IoState) (result : Result T E) where
  pub fifteen_rest : (rests : Rests (wrapped_laid 1) g buffer old new result) → length rests.pairs ≡ 15
  fifteen_rest rests = omega (arith, ap length rests.all, length-append ((wrapped_laid 1).carried buffer) rests.pairs)

-- ---- no frame of that number, and a frame that is cut

-- all comes with its bytes where no frame is in front, and nothing where none stands behind; in the end it is the same
pub all_at_once : (wrapped_laid 0).carried buffer ≡ unframed buffer
all_at_once = refl

pub none_at_first : ((wrapped_laid 65536).carried buffer ≡ []) × ((wrapped_laid 65536).whole buffer ≡ unframed buffer)
none_at_first = (refl, refl)

-- fifteen bytes behind a frame are left over, wherever that frame comes
abbrev nearly_two : List ℕ
nearly_two = oldest ++ take 15 newer

pub one_and_fifteen : ((wrapped_laid 1).whole nearly_two ≡ (1, 40) ∷ replicate 13 (1, 0)) × ((wrapped_laid 1).left nearly_two ≡ 15)
one_and_fifteen = (refl, refl)

-- they are not left over from the frames that come at the end, which are whole
pub all_of_it_left : (wrapped_laid 1).left nearly_two ≡ 31 → ⊥
all_of_it_left e = absurd (omega (arith, e))

pub not_one_frame : ((wrapped_laid 7).whole (take 3 newer) ≡ []) × ((wrapped_laid 7).left (take 3 newer) ≡ 3)
not_one_frame = (refl, refl)

pub no_byte : ((wrapped_laid 7).whole [] ≡ []) × ((wrapped_laid 7).left [] ≡ 0)
no_byte = (refl, refl)

-- ---- two sources in five frames, the oldest of which may stand anywhere

-- at the end of frame 0 the ID of the second source is told, and holds at the first byte of frame 1
abbrev first : List ℕ
first = 0x03 ∷ 0x00 ∷ 0x00 ∷ 0x00 ∷ 0x00 ∷ 0x00 ∷ 0x00 ∷ 0x00 ∷ 0x00 ∷ 0x00 ∷ 0x00 ∷ 0x00 ∷ 0x80 ∷ 0x01 ∷ 0x05 ∷ 0x00 ∷ []

abbrev second : List ℕ
second = 0x03 ∷ 0x00 ∷ 0x00 ∷ 0x00 ∷ 0x04 ∷ 0x85 ∷ 0x00 ∷ 0x08 ∷ 0x00 ∷ 0x00 ∷ 0x00 ∷ 0x00 ∷ 0x00 ∷ 0x00 ∷ 0x10 ∷ 0x03 ∷ []

abbrev third : List ℕ
third = 0xf6 ∷ 0x2d ∷ 0x05 ∷ 0x01 ∷ 0x00 ∷ 0x00 ∷ 0x00 ∷ 0x00 ∷ 0x00 ∷ 0x00 ∷ 0x00 ∷ 0x00 ∷ 0x00 ∷ 0x00 ∷ 0x80 ∷ 0x03 ∷ []

abbrev fourth : List ℕ
fourth = 0x00 ∷ 0x01 ∷ 0x00 ∷ 0x04 ∷ 0x84 ∷ 0x00 ∷ 0x08 ∷ 0x00 ∷ 0x00 ∷ 0x00 ∷ 0x00 ∷ 0x00 ∷ 0x00 ∷ 0x10 ∷ 0xf6 ∷ 0x85 ∷ []

abbrev fifth : List ℕ
fifth = 0x2c ∷ 0x01 ∷ 0x01 ∷ 0x00 ∷ 0x00 ∷ 0x00 ∷ 0x00 ∷ 0x00 ∷ 0x00 ∷ 0x00 ∷ 0x00 ∷ 0x00 ∷ 0x00 ∷ 0x00 ∷ 0x00 ∷ 0x01 ∷ []

abbrev in_order : List ℕ
in_order = first ++ (second ++ (third ++ (fourth ++ fifth)))

-- each has an A-sync, a trace info, trace on, an address with a context, an atom, and a commit
abbrev trace : List ℕ
trace = replicate 11 0 ++ 0x80 ∷ 0x01 ∷ 0x01 ∷ 0x00 ∷ 0x04 ∷ 0x85 ∷ 0x00 ∷ 0x08 ∷ replicate 6 0 ++ 0x10 ∷ 0xf7 ∷ 0x2d ∷ 0x01 ∷ []

-- frame 0 stands in the middle of this buffer, and last in that one
abbrev oldest_fourth : List ℕ
oldest_fourth = third ++ (fourth ++ (fifth ++ (first ++ second)))

abbrev oldest_last : List ℕ
oldest_last = second ++ (third ++ (fourth ++ (fifth ++ first)))

pub both_in_order : (rotated 3 oldest_fourth ≡ in_order) × (rotated 4 oldest_last ≡ in_order)
both_in_order = (refl, refl)

pub both_traces : (of 1 ((wrapped_laid 3).whole oldest_fourth) ≡ trace) × (of 2 ((wrapped_laid 3).whole oldest_fourth) ≡ trace)
both_traces = (refl, refl)

pub over_the_seam : (of 1 ((wrapped_laid 4).whole oldest_last) ≡ trace) × (of 2 ((wrapped_laid 4).whole oldest_last) ≡ trace)
over_the_seam = (refl, refl)

-- one frame less in front, and the newest comes first; one more, and the second does
pub one_less : rotated 2 oldest_fourth ≡ in_order → ⊥
one_less e = absurd (omega (arith, ap (byte_at 0) e))

pub one_more : of 1 ((wrapped_laid 4).whole oldest_fourth) ≡ trace → ⊥
one_more e = absurd (omega (arith, ap (byte_at 0) e))

-- as they stand in memory, the second source lacks the first byte of its A-sync
pub as_it_stands : of 2 (unframed oldest_last) ≡ trace → ⊥
as_it_stands e = absurd (omega (arith, ap length e))

-- and does so where the frames in front are taken apart on their own
pub on_their_own : of 2 (unframed first ++ unframed (second ++ (third ++ (fourth ++ fifth)))) ≡ trace → ⊥
on_their_own e = absurd (omega (arith, ap length e))

-- ---- byte by byte

pub keeps_the_first : StandsAt (record { frames = 1; kept = newer; begun = begun }) buffer
keeps_the_first = record { kept = refl; begun = refl }

pub not_the_oldest : StandsAt (record { frames = 1; kept = oldest; begun = begun }) buffer → ⊥
not_the_oldest at = absurd (omega (arith, ap (byte_at 0) at.kept))

pub not_all_of_it : StandsAt (record { frames = 1; kept = buffer; begun = [] }) buffer → ⊥
not_all_of_it at = absurd (omega (arith, ap length at.kept))

-- of a first frame that is not full yet, all bytes are kept, and none is one of a frame behind it
pub fifteen : StandsAt (record { frames = 1; kept = take 15 newer; begun = [] }) (take 15 newer)
fifteen = record { kept = refl; begun = refl }

pub fifteen_begun : StandsAt (record { frames = 1; kept = []; begun = take 15 newer }) (take 15 newer) → ⊥
fifteen_begun at = absurd (omega (arith, ap length at.kept))

pub kept_frames : (frame_at 0 newer ≡ Some newer) × (frame_at 1 newer ≡ None) × (frame_at 0 (take 15 newer) ≡ None)
kept_frames = (refl, refl, refl)

-- ---- the last frames

-- in the newer frame alone no ID was told, so it carries nothing
pub no_id_told : unframed (drop 16 (oldest ++ newer)) ≡ []
no_id_told = refl

-- and of ID 1 that is an end of what it has
pub an_end_all_the_same : EndsWith (of 1 (unframed (drop 16 (oldest ++ newer)))) (of 1 (unframed (oldest ++ newer)))
an_end_all_the_same = (of 1 (unframed (oldest ++ newer)), refl)

-- the first bytes of a list are no end of it
pub a_front : EndsWith {X = ℕ} (40 ∷ 41 ∷ []) (40 ∷ 41 ∷ 42 ∷ []) → ⊥
a_front ([], e) = absurd (omega (arith, ap length e))
a_front (x ∷ [], e) = absurd (omega (arith, ap (byte_at 2) e))
a_front (x ∷ y ∷ front, e) = absurd (omega (arith, ap length e, length-append front (40 ∷ 41 ∷ [])))
