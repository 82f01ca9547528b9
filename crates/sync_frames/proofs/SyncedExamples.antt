-- Where synchronisation packets stand among frames, worked out by hand, beside places where none may stand.
use Rattle.std.proofs.Common.{◌≡◌, ℕ, ◌≤◌, List, [], ◌∷◌, ◌++◌, length, refl, ap, arith}
use Rattle.std.specs.Prelude.{drop, get_or, replicate}
use Rattle.formatter_frames.specs.Framed.{framed}
use Rattle.sync_frames.specs.Synced.{Full, Half, IsSourcePair, MayStandAt, NoFFAtEven, Synced, synced_every}
use Rattle.sync_frames.proofs.Back.{come_back}

abbrev byte_at : ℕ → List ℕ → ℕ
byte_at k bytes = get_or bytes k 0

abbrev full : List ℕ
full = 0xff ∷ 0xff ∷ 0xff ∷ 0x7f ∷ []

abbrev half : List ℕ
half = 0xff ∷ 0x7f ∷ []

-- ---- sources

pub are_sources : IsSourcePair (1, 0) × IsSourcePair (0x6f, 0xff)
are_sources = ((omega arith, omega arith, omega arith), (omega arith, omega arith, omega arith))

pub the_null_id : IsSourcePair (0, 5) → ⊥
the_null_id is = absurd (omega (arith, is.0))

pub a_reserved_id : IsSourcePair (0x70, 5) → ⊥
a_reserved_id is = absurd (omega (arith, is.1))

pub no_byte : IsSourcePair (1, 256) → ⊥
no_byte is = absurd (omega (arith, is.2))

-- the ID byte of 7f, which is reserved, is FF, and stands at an even place
pub an_id_byte_of_ones : NoFFAtEven (framed ((0x7f, 0) ∷ [])) → ⊥
an_id_byte_of_ones none = none.0 refl

pub at_odd_places : NoFFAtEven (0x01 ∷ 0xff ∷ 0x7f ∷ 0xff ∷ [])
at_odd_places = (λ e. absurd (omega (arith, e)), (λ e. absurd (omega (arith, e)), tt))

pub at_place_2 : NoFFAtEven (0x01 ∷ 0x02 ∷ 0xff ∷ 0x03 ∷ []) → ⊥
at_place_2 none = none.1.0 refl

pub at_the_end : NoFFAtEven (0x01 ∷ 0x02 ∷ 0xff ∷ []) → ⊥
at_the_end none = none.1 refl

-- ---- where they may stand

pub before_a_frame : MayStandAt 0 (Full ∷ Half ∷ Full ∷ [])
before_a_frame = (refl, (refl, tt))

pub within_a_frame : MayStandAt 14 (Half ∷ Half ∷ [])
within_a_frame = tt

pub full_within_a_frame : MayStandAt 14 (Half ∷ Full ∷ []) → ⊥
full_within_a_frame may = absurd (omega (arith, may.0))

-- four bytes of a frame, with bytes before the first sync, all kinds of syncs before the frame, and half syncs within it
abbrev capture : List ℕ
capture = 0x00 ∷ 0x11 ∷ full ++ (full ++ (half ++ 0x01 ∷ 0x02 ∷ half ++ 0x03 ∷ 0x04 ∷ half))

two_before : (before after : List ℕ) → capture ≡ before ++ (full ++ after) → 2 ≤ length before
two_before [] after is = absurd (omega (arith, ap (byte_at 0) is))
two_before (a ∷ []) after is = absurd (omega (arith, ap (byte_at 1) is))
two_before (a ∷ b ∷ before) after is = omega arith

pub is_synced : Synced (0x01 ∷ 0x02 ∷ 0x03 ∷ 0x04 ∷ []) capture
is_synced =
    record {
      junk = 0x00 ∷ 0x11 ∷ [];
      behind = full ++ (half ++ 0x01 ∷ 0x02 ∷ half ++ 0x03 ∷ 0x04 ∷ half);
      parts = refl;
      earliest = two_before;
      interspersed = (
        Full ∷ Half ∷ [],
        half ++ 0x03 ∷ 0x04 ∷ half,
        (refl, tt),
        refl,
        (Half ∷ [], half, tt, refl, (Half ∷ [], tt, refl)),
      );
    }

-- bytes of which others would come back are no such capture
module _ (none : NoFFAtEven (0x01 ∷ 0x02 ∷ 0x03 ∷ 0x04 ∷ [])) where
  pub a_full_sync_within : Synced (0x01 ∷ 0x02 ∷ 0x03 ∷ 0x04 ∷ []) (full ++ 0x01 ∷ 0x02 ∷ full ++ 0x03 ∷ 0x04 ∷ []) → ⊥
  a_full_sync_within s = absurd (omega (arith, ap length (come_back _ _ none s)))

  pub a_half_sync_at_an_odd_place : Synced (0x01 ∷ 0x02 ∷ 0x03 ∷ 0x04 ∷ []) (full ++ 0x01 ∷ half ++ 0x02 ∷ 0x03 ∷ 0x04 ∷ []) → ⊥
  a_half_sync_at_an_odd_place s = absurd (omega (arith, ap length (come_back _ _ none s)))

  pub a_full_sync_at_the_end : Synced (0x01 ∷ 0x02 ∷ 0x03 ∷ 0x04 ∷ []) (full ++ 0x01 ∷ 0x02 ∷ 0x03 ∷ 0x04 ∷ full) → ⊥
  a_full_sync_at_the_end s = absurd (omega (arith, ap length (come_back _ _ none s)))

  pub a_full_sync_before_the_first : Synced (0x01 ∷ 0x02 ∷ 0x03 ∷ 0x04 ∷ []) (full ++ 0x00 ∷ full ++ 0x01 ∷ 0x02 ∷ 0x03 ∷ 0x04 ∷ []) → ⊥
  a_full_sync_before_the_first s = absurd (omega (arith, ap length (come_back _ _ none s)))

  pub no_sync : Synced (0x01 ∷ 0x02 ∷ 0x03 ∷ 0x04 ∷ []) (0x01 ∷ 0x02 ∷ 0x03 ∷ 0x04 ∷ []) → ⊥
  no_sync s = absurd (omega (arith, ap length (come_back _ _ none s)))

-- ---- where they are written

abbrev frame : ℕ → List ℕ
frame n = replicate 16 n

abbrev four : List ℕ
four = frame 20 ++ (frame 21 ++ (frame 22 ++ frame 23))

pub before_each : synced_every 1 (frame 20 ++ frame 21) ≡ full ++ (frame 20 ++ (full ++ frame 21))
before_each = refl

pub before_each_second : synced_every 2 four ≡ full ++ (frame 20 ++ (frame 21 ++ (full ++ (frame 22 ++ frame 23))))
before_each_second = refl

pub before_each_third : synced_every 3 four ≡ full ++ (frame 20 ++ (frame 21 ++ (frame 22 ++ (full ++ frame 23))))
before_each_third = refl

pub before_the_first_alone : (synced_every 4 four ≡ full ++ four) × (synced_every 65535 four ≡ full ++ four)
before_the_first_alone = (refl, refl)

-- of the last two frames, the first has one
pub of_the_last : synced_every 3 (drop 32 four) ≡ full ++ (frame 22 ++ frame 23)
of_the_last = refl

-- none is written alone, and none behind the last frame
pub of_none : synced_every 1 [] ≡ []
of_none = refl

pub behind_the_last : synced_every 2 (frame 20 ++ frame 21) ≡ full ++ (frame 20 ++ (frame 21 ++ full)) → ⊥
behind_the_last e = absurd (omega (arith, ap length e))

-- frames are not counted from 1
pub counted_from_one : synced_every 2 four ≡ frame 20 ++ (full ++ (frame 21 ++ (frame 22 ++ (full ++ frame 23)))) → ⊥
counted_from_one e = absurd (omega (arith, ap (byte_at 0) e))

-- nor is a half sync written in place of a full one
pub half_ones : synced_every 4 four ≡ half ++ four → ⊥
half_ones e = absurd (omega (arith, ap length e))
