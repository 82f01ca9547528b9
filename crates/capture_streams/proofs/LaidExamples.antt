-- What bytes carry in each layout, worked out by hand, beside what a wrong layout would carry.
use Rattle.std.proofs.Common.{◌≡◌, ℕ, List, [], ◌∷◌, ◌++◌, length, Result, refl, ap, arith}
use Rattle.std.specs.Prelude.{get_or, replicate}
use Rattle.std.proofs.lemmas.List.{map-append}
use Rattle.capture_streams.specs.Demuxed.{raw_pairs}
use Rattle.capture_streams.specs.Laid.{Grow, IsLaid, Rests, frames_laid, raw_laid}
use Rattle.capture_streams.specs.Texts.{Listing}
use Rattle.trace_io.specs.State.{IoState}

-- the ID and the byte of a place
abbrev id_at : ℕ → List (ℕ × ℕ) → ℕ
id_at k pairs = (get_or pairs k (0, 0)).0

abbrev byte_at : ℕ → List (ℕ × ℕ) → ℕ
byte_at k pairs = (get_or pairs k (0, 0)).1

-- ---- one stream that is not framed: each byte is one of ID 01, at once, and nothing is left over

abbrev few : List ℕ
few = 40 ∷ 41 ∷ 0 ∷ []

pub all_carried : raw_laid.carried few ≡ (1, 40) ∷ (1, 41) ∷ (1, 0) ∷ []
all_carried = refl

pub no_more_at_the_end : raw_laid.whole few ≡ (1, 40) ∷ (1, 41) ∷ (1, 0) ∷ []
no_more_at_the_end = refl

pub nothing_left : raw_laid.left few ≡ 0
nothing_left = refl

-- the last byte does not wait for the end
pub the_last_waits : raw_laid.carried few ≡ (1, 40) ∷ (1, 41) ∷ [] → ⊥
the_last_waits e = absurd (omega (arith, ap length e))

-- a byte 00 is one as well
pub zeros_are_none : raw_laid.carried few ≡ (1, 40) ∷ (1, 41) ∷ (0, 0) ∷ [] → ⊥
zeros_are_none e = absurd (omega (arith, ap (id_at 2) e))

-- the ID is not 00
pub without_an_id : raw_laid.whole few ≡ (0, 40) ∷ (0, 41) ∷ (0, 0) ∷ [] → ⊥
without_an_id e = absurd (omega (arith, ap (id_at 0) e))

-- and no frame is begun by them
pub a_begun_frame : raw_laid.left few ≡ 3 → ⊥
a_begun_frame e = absurd (omega (arith, e))

-- ---- frames: a byte 2K with bit 0 set names an ID

-- the flags, in byte 15: an ID byte whose flag is 0 has the byte behind it
abbrev told_before : List ℕ
told_before = 0x03 ∷ 40 ∷ 0x05 ∷ 41 ∷ 0x01 ∷ 0 ∷ replicate 9 0 ++ 0 ∷ []

pub before_the_byte : frames_laid.carried told_before ≡ (1, 40) ∷ (2, 41) ∷ replicate 10 (0, 0)
before_the_byte = refl

-- and one whose flag is 1 leaves that byte to the ID that held: here the flag of byte 2
abbrev told_behind : List ℕ
told_behind = 0x03 ∷ 40 ∷ 0x05 ∷ 41 ∷ 0x01 ∷ 0 ∷ replicate 9 0 ++ 2 ∷ []

pub behind_the_byte : frames_laid.carried told_behind ≡ (1, 40) ∷ (1, 41) ∷ replicate 10 (0, 0)
behind_the_byte = refl

-- the flag is not passed over
pub no_flag : frames_laid.carried told_behind ≡ (1, 40) ∷ (2, 41) ∷ replicate 10 (0, 0) → ⊥
no_flag e = absurd (omega (arith, ap (id_at 1) e))

-- nor turned round
pub turned_flag : frames_laid.carried told_before ≡ (1, 40) ∷ (1, 41) ∷ replicate 10 (0, 0) → ⊥
turned_flag e = absurd (omega (arith, ap (id_at 1) e))

-- ---- a frame that is cut carries nothing, not even where it ends the input, and its bytes are left over

abbrev behind_a_frame : List ℕ
behind_a_frame = told_before ++ 0x03 ∷ 42 ∷ 43 ∷ []

pub the_frame_alone : frames_laid.carried behind_a_frame ≡ (1, 40) ∷ (2, 41) ∷ replicate 10 (0, 0)
the_frame_alone = refl

pub nor_at_the_end : frames_laid.whole behind_a_frame ≡ (1, 40) ∷ (2, 41) ∷ replicate 10 (0, 0)
nor_at_the_end = refl

pub three_left : frames_laid.left behind_a_frame ≡ 3
three_left = refl

-- its bytes do not come with those of the frame before it
pub the_cut_frame_too : frames_laid.carried behind_a_frame ≡ ((1, 40) ∷ (2, 41) ∷ replicate 10 (0, 0)) ++ (1, 42) ∷ (1, 43) ∷ [] → ⊥
the_cut_frame_too e = absurd (omega (arith, ap length e))

-- nor with the end
pub with_the_end : frames_laid.whole behind_a_frame ≡ ((1, 40) ∷ (2, 41) ∷ replicate 10 (0, 0)) ++ (1, 42) ∷ (1, 43) ∷ [] → ⊥
with_the_end e = absurd (omega (arith, ap length e))

-- it is not passed over
pub none_left : frames_laid.left behind_a_frame ≡ 0 → ⊥
none_left e = absurd (omega (arith, e))

-- the frames before it are not left over, nor are its data bytes alone
pub all_left : frames_laid.left behind_a_frame ≡ 19 → ⊥
all_left e = absurd (omega (arith, e))

pub data_left : frames_laid.left behind_a_frame ≡ 2 → ⊥
data_left e = absurd (omega (arith, e))

-- fifteen bytes are a cut frame, and sixteen are none
pub fifteen_left : (frames_laid.left (0x03 ∷ replicate 14 40) ≡ 15) × (frames_laid.carried (0x03 ∷ replicate 14 40) ≡ [])
fifteen_left = (refl, refl)

pub sixteen_left : frames_laid.left (0x03 ∷ replicate 15 40) ≡ 0
sixteen_left = refl

-- ---- what is a layout

-- bytes that are carried as they come
pub as_they_come : Grow raw_pairs
as_they_come = (refl, λ bytes more. (raw_pairs more, map-append (λ (byte : ℕ). (1, byte)) bytes more))

-- what came last can't come first
abbrev newest_first : List ℕ → List (ℕ × ℕ)
newest_first [] = []
newest_first (b ∷ bytes) = newest_first bytes ++ (1, b) ∷ []

pub newest_first_is_none : Grow newest_first → ⊥
newest_first_is_none grow = let more = (grow.1 (40 ∷ []) (41 ∷ [])).1 in absurd (omega (arith, ap (byte_at 0) more))

-- nothing is carried by no byte
pub carried_by_none : Grow (λ bytes. (1, 0) ∷ raw_pairs bytes) → ⊥
carried_by_none grow = absurd (omega (arith, ap length grow.0))

-- and what was carried is not taken back at the end
pub taken_back : IsLaid (record { carried = raw_pairs; whole = λ bytes. []; left = λ bytes. 0 }) → ⊥
taken_back is = let first = (is.first (40 ∷ [])).1 in absurd (omega (arith, ap length first))

-- ---- at the end no pairs come that came before

module _ {T E : Type 0} (g : Listing) (old new : IoState) (result : Result T E) where
  pub none_rest : (rests : Rests raw_laid g few old new result) → length rests.pairs ≡ 0
  none_rest rests = omega (arith, ap length rests.all)

  pub none_of_frames_rest : (rests : Rests frames_laid g behind_a_frame old new result) → length rests.pairs ≡ 0
  none_of_frames_rest rests = omega (arith, ap length rests.all)
