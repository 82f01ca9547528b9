-- Which bytes of a trace port are those of frames, worked out by hand, beside what a wrong rule would give.
use Rattle.std.proofs.Common.{◌≡◌, ℕ, List, [], ◌∷◌, ◌++◌, length, refl, ap, arith}
use Rattle.std.specs.Prelude.{get_or, replicate, false, Some, None}
use Rattle.sync_frames.specs.Laid.{synced_laid}
use Rattle.sync_frames.specs.Syncs.{begins_full_sync, unsynced}
use Rattle.sync_frames.specs.Unsyncing.{StandsAt, run_at}
use Rattle.capture_streams.specs.Texts.{of}

abbrev byte_at : ℕ → List ℕ → ℕ
byte_at k bytes = get_or bytes k 0

-- a full sync, and a half sync
abbrev full : List ℕ
full = 0xff ∷ 0xff ∷ 0xff ∷ 0x7f ∷ []

abbrev half : List ℕ
half = 0xff ∷ 0x7f ∷ []

-- ---- the first full sync

-- an FF before it, FF FF 7F before it, three FF that end otherwise
pub behind_ones : unsynced (0xff ∷ full ++ 0x01 ∷ 0x02 ∷ []) ≡ 0x01 ∷ 0x02 ∷ []
behind_ones = refl

pub behind_part_of_one : unsynced (0xff ∷ 0xff ∷ 0x7f ∷ full ++ 0x05 ∷ []) ≡ 0x05 ∷ []
behind_part_of_one = refl

pub behind_three_ones : unsynced (0xff ∷ 0xff ∷ 0xff ∷ 0x00 ∷ full ++ 0x0a ∷ []) ≡ 0x0a ∷ []
behind_three_ones = refl

-- a fourth FF forgets none of the three
pub a_fourth_begins_anew : unsynced (0xff ∷ full ++ 0x01 ∷ 0x02 ∷ []) ≡ [] → ⊥
a_fourth_begins_anew e = absurd (omega (arith, ap length e))

-- two FF are too few
pub two_are_enough : unsynced (0xff ∷ 0xff ∷ 0x7f ∷ full ++ 0x05 ∷ []) ≡ full ++ 0x05 ∷ [] → ⊥
two_are_enough e = absurd (omega (arith, ap length e))

pub two_behind_another_byte : unsynced (0xfe ∷ 0xff ∷ 0xff ∷ 0x7f ∷ 0x01 ∷ 0x02 ∷ []) ≡ []
two_behind_another_byte = refl

-- one byte or none begins no sync
pub one_begins_none : (begins_full_sync (0xff ∷ []) ≡ false) × (begins_full_sync [] ≡ false)
one_begins_none = (refl, refl)

-- half syncs are none, however many
pub half_syncs_alone : unsynced (half ++ (half ++ (half ++ 0x01 ∷ 0x02 ∷ 0x03 ∷ 0x04 ∷ 0x05 ∷ 0x06 ∷ []))) ≡ []
half_syncs_alone = refl

pub a_half_sync_is_enough : unsynced (half ++ 0x01 ∷ 0x02 ∷ []) ≡ 0x01 ∷ 0x02 ∷ [] → ⊥
a_half_sync_is_enough e = absurd (omega (arith, ap length e))

pub no_byte_of_a_frame : (unsynced [] ≡ []) × (unsynced (0x03 ∷ 0x00 ∷ 0x80 ∷ []) ≡ []) × (unsynced full ≡ [])
no_byte_of_a_frame = (refl, refl, refl)

-- ---- within a frame

-- FF 7F at an odd place is no sync
pub at_an_odd_place : unsynced (full ++ 0x00 ∷ 0xff ∷ 0x7f ∷ 0x01 ∷ []) ≡ 0x00 ∷ 0xff ∷ 0x7f ∷ 0x01 ∷ []
at_an_odd_place = refl

-- nor is another byte before 7F
pub other_bytes_before_7f : unsynced (full ++ 0x03 ∷ 0x7f ∷ 0xfe ∷ 0x7f ∷ 0x7f ∷ 0x7f ∷ []) ≡ 0x03 ∷ 0x7f ∷ 0xfe ∷ 0x7f ∷ 0x7f ∷ 0x7f ∷ []
other_bytes_before_7f = refl

pub dropped_at_an_odd_place : unsynced (full ++ 0x00 ∷ 0xff ∷ 0x7f ∷ 0x01 ∷ []) ≡ 0x00 ∷ 0x01 ∷ [] → ⊥
dropped_at_an_odd_place e = absurd (omega (arith, ap length e))

pub ones_at_odd_places : unsynced (full ++ 0xff ∷ 0xff ∷ 0xff ∷ 0xff ∷ 0x7f ∷ 0x01 ∷ []) ≡ 0xff ∷ 0xff ∷ 0xff ∷ 0xff ∷ 0x7f ∷ 0x01 ∷ []
ones_at_odd_places = refl

-- within a frame the first half of a full sync is kept, and its second half is a half sync
pub a_full_sync_within : unsynced (full ++ 0x01 ∷ 0x02 ∷ full ++ 0x03 ∷ 0x04 ∷ []) ≡ 0x01 ∷ 0x02 ∷ 0xff ∷ 0xff ∷ 0x03 ∷ 0x04 ∷ []
a_full_sync_within = refl

pub dropped_within : unsynced (full ++ 0x01 ∷ 0x02 ∷ full ++ 0x03 ∷ 0x04 ∷ []) ≡ 0x01 ∷ 0x02 ∷ 0x03 ∷ 0x04 ∷ [] → ⊥
dropped_within e = absurd (omega (arith, ap length e))

pub begins_a_frame_within : unsynced (full ++ 0x01 ∷ 0x02 ∷ full ++ 0x03 ∷ 0x04 ∷ []) ≡ 0x03 ∷ 0x04 ∷ [] → ⊥
begins_a_frame_within e = absurd (omega (arith, ap length e))

pub kept_whole_within : unsynced (full ++ 0x01 ∷ 0x02 ∷ full ++ 0x03 ∷ 0x04 ∷ []) ≡ 0x01 ∷ 0x02 ∷ full ++ 0x03 ∷ 0x04 ∷ [] → ⊥
kept_whole_within e = absurd (omega (arith, ap length e))

-- ---- before a frame, and at each even place of one

pub many_before_a_frame : unsynced (full ++ (full ++ (half ++ (full ++ 0x01 ∷ [])))) ≡ 0x01 ∷ []
many_before_a_frame = refl

pub one_before_a_frame : unsynced (full ++ (full ++ 0x01 ∷ 0x02 ∷ [])) ≡ full ++ 0x01 ∷ 0x02 ∷ [] → ⊥
one_before_a_frame e = absurd (omega (arith, ap length e))

-- a half sync at place 14, and syncs behind a frame
pub around_the_last_pair
    : unsynced (full ++ 0 ∷ 1 ∷ 2 ∷ 3 ∷ 4 ∷ 5 ∷ 6 ∷ 7 ∷ 8 ∷ 9 ∷ 10 ∷ 11 ∷ 12 ∷ 13 ∷ half ++ 14 ∷ 15 ∷ half ++ (full ++ 0xaa ∷ 0xbb ∷ []))
    ≡ 0 ∷ 1 ∷ 2 ∷ 3 ∷ 4 ∷ 5 ∷ 6 ∷ 7 ∷ 8 ∷ 9 ∷ 10 ∷ 11 ∷ 12 ∷ 13 ∷ 14 ∷ 15 ∷ 0xaa ∷ 0xbb ∷ []
around_the_last_pair = refl

-- behind fourteen bytes a full sync is one within a frame, and behind twelve
pub a_frame_of_fourteen
    : unsynced (full ++ 0 ∷ 1 ∷ 2 ∷ 3 ∷ 4 ∷ 5 ∷ 6 ∷ 7 ∷ 8 ∷ 9 ∷ 10 ∷ 11 ∷ 12 ∷ 13 ∷ full ++ 0xaa ∷ 0xbb ∷ [])
    ≡ 0 ∷ 1 ∷ 2 ∷ 3 ∷ 4 ∷ 5 ∷ 6 ∷ 7 ∷ 8 ∷ 9 ∷ 10 ∷ 11 ∷ 12 ∷ 13 ∷ 0xaa ∷ 0xbb ∷ [] → ⊥
a_frame_of_fourteen e = absurd (omega (arith, ap length e))

pub a_frame_of_twelve
    : unsynced (full ++ 0 ∷ 1 ∷ 2 ∷ 3 ∷ 4 ∷ 5 ∷ 6 ∷ 7 ∷ 8 ∷ 9 ∷ 10 ∷ 11 ∷ full ++ 0xaa ∷ 0xbb ∷ [])
    ≡ 0 ∷ 1 ∷ 2 ∷ 3 ∷ 4 ∷ 5 ∷ 6 ∷ 7 ∷ 8 ∷ 9 ∷ 10 ∷ 11 ∷ 0xaa ∷ 0xbb ∷ [] → ⊥
a_frame_of_twelve e = absurd (omega (arith, ap length e))

-- three FF before a frame that are no sync are four bytes of it with the next one
pub three_ones_are_kept : unsynced (full ++ 0xff ∷ 0xff ∷ 0xff ∷ 0x7e ∷ half) ≡ 0xff ∷ 0xff ∷ 0xff ∷ 0x7e ∷ []
three_ones_are_kept = refl

pub four_of_a_frame
    : unsynced (full ++ 0xff ∷ 0xff ∷ 0xff ∷ 0 ∷ 1 ∷ 2 ∷ 3 ∷ 4 ∷ 5 ∷ 6 ∷ 7 ∷ 8 ∷ 9 ∷ 10 ∷ 11 ∷ 12 ∷ full ++ 0x05 ∷ [])
    ≡ 0xff ∷ 0xff ∷ 0xff ∷ 0 ∷ 1 ∷ 2 ∷ 3 ∷ 4 ∷ 5 ∷ 6 ∷ 7 ∷ 8 ∷ 9 ∷ 10 ∷ 11 ∷ 12 ∷ 0x05 ∷ []
four_of_a_frame = refl

pub counted_as_two
    : unsynced (full ++ 0xff ∷ 0xff ∷ 0xff ∷ 0 ∷ 1 ∷ 2 ∷ 3 ∷ 4 ∷ 5 ∷ 6 ∷ 7 ∷ 8 ∷ 9 ∷ 10 ∷ 11 ∷ 12 ∷ full ++ 0x05 ∷ [])
    ≡ 0xff ∷ 0xff ∷ 0xff ∷ 0 ∷ 1 ∷ 2 ∷ 3 ∷ 4 ∷ 5 ∷ 6 ∷ 7 ∷ 8 ∷ 9 ∷ 10 ∷ 11 ∷ 12 ∷ 0xff ∷ 0xff ∷ 0x05 ∷ [] → ⊥
counted_as_two e = absurd (omega (arith, ap length e))

-- ---- at the end

pub one_of_a_sync : unsynced (full ++ 0xff ∷ []) ≡ 0xff ∷ []
one_of_a_sync = refl

pub two_of_a_sync : unsynced (full ++ 0xff ∷ 0xff ∷ []) ≡ 0xff ∷ 0xff ∷ []
two_of_a_sync = refl

pub three_of_a_sync : unsynced (full ++ 0xff ∷ 0xff ∷ 0xff ∷ []) ≡ 0xff ∷ 0xff ∷ 0xff ∷ []
three_of_a_sync = refl

pub forgotten_at_the_end : unsynced (full ++ 0xff ∷ 0xff ∷ 0xff ∷ []) ≡ [] → ⊥
forgotten_at_the_end e = absurd (omega (arith, ap length e))

-- ---- frames of two sources, 3f and 01

-- In the second frame a data byte FF stands at place 13, and the ID byte 7F of source 3f at place 14.
abbrev frames : List ℕ
frames =
    (0x7f ∷ replicate 11 0 ++ 0x80 ∷ 0x70 ∷ 0x03 ∷ 0x00 ∷ []) ++ (replicate 11 0 ++ 0x80 ∷ 0x2c ∷ 0xff ∷ 0x7f ∷ 0x40 ∷ [])
    ++ (0x03 ∷ 0x71 ∷ 0x01 ∷ 0x0f ∷ replicate 11 0 ++ 0x03 ∷ [])

pub all_kept : unsynced (full ++ frames) ≡ frames
all_kept = refl

pub both_sources : (of 0x3f (synced_laid.carried (full ++ frames)) ≡ replicate 11 0 ++ 0x80 ∷ 0x70 ∷ 0x71 ∷ [])
    × (of 0x01 (synced_laid.carried (full ++ frames)) ≡ replicate 11 0 ++ 0x80 ∷ 0x2d ∷ 0xff ∷ 0x0f ∷ [])
both_sources = (refl, refl)

-- ---- as a layout

-- a frame of ID 01
abbrev frame : List ℕ
frame = 0x03 ∷ 40 ∷ replicate 14 0

-- with a byte before the first sync, and a half sync within the frame
abbrev capture : List ℕ
capture = 0x11 ∷ full ++ 0x03 ∷ 40 ∷ half ++ replicate 14 0

pub carries_a_frame : (synced_laid.carried capture ≡ (1, 40) ∷ replicate 13 (1, 0)) × (synced_laid.whole capture ≡ (1, 40) ∷ replicate 13 (1, 0))
    × (synced_laid.left capture ≡ 0)
carries_a_frame = (refl, refl, refl)

-- what might have been of a sync is left over at the end, as bytes of a begun frame
pub left_over : (synced_laid.left (capture ++ 0xff ∷ []) ≡ 1) × (synced_laid.left (capture ++ 0xff ∷ 0xff ∷ []) ≡ 2)
    × (synced_laid.left (capture ++ 0xff ∷ 0xff ∷ 0xff ∷ []) ≡ 3) × (synced_laid.left (capture ++ full) ≡ 0)
left_over = (refl, refl, refl, refl)

-- A full sync within a frame leaves two bytes over, and the FF at an even place is an ID byte, of 7f.
pub two_left_over : (synced_laid.carried (full ++ 0x03 ∷ 40 ∷ full ++ replicate 14 0) ≡ (1, 40) ∷ (0x7f, 0xff) ∷ replicate 11 (0x7f, 0))
    × (synced_laid.left (full ++ 0x03 ∷ 40 ∷ full ++ replicate 14 0) ≡ 2)
two_left_over = (refl, refl)

-- nothing is carried, and nothing left over, where no full sync stands
pub never_synced : (synced_laid.carried (frame ++ frame) ≡ []) × (synced_laid.left (frame ++ 0x03 ∷ []) ≡ 0)
never_synced = (refl, refl)

-- ---- byte by byte

pub holds_two : StandsAt (record { place = Some 0; held = 0xff ∷ 0xff ∷ [] }) (full ++ 0xff ∷ 0xff ∷ []) []
holds_two = record { goes_on = λ more. refl; place = refl; cut = omega arith; few = omega arith }

pub holds_one_within : StandsAt (record { place = Some 2; held = 0xff ∷ [] }) (full ++ 0x01 ∷ 0x02 ∷ 0xff ∷ []) (0x01 ∷ 0x02 ∷ [])
holds_one_within = record { goes_on = λ more. refl; place = refl; cut = omega arith; few = omega arith }

pub hunts : StandsAt (record { place = None; held = 0xff ∷ [] }) (0x07 ∷ 0xff ∷ []) []
hunts = record { goes_on = λ more. refl; place = refl; cut = omega arith; few = omega arith }

-- before any byte, and with the first one held back
pub begins : StandsAt (record { place = None; held = [] }) [] []
begins = record { goes_on = λ more. refl; place = refl; cut = omega arith; few = omega arith }

pub holds_the_first : StandsAt (record { place = None; held = 0xff ∷ [] }) (0xff ∷ []) []
holds_the_first = record { goes_on = λ more. refl; place = refl; cut = omega arith; few = omega arith }

-- what is held back fills no frame, and was taken
pub holds_the_last_two : (bytes given : List ℕ) → StandsAt (record { place = Some 14; held = 0x01 ∷ 0x02 ∷ [] }) bytes given → ⊥
holds_the_last_two bytes given at = absurd (omega (arith, at.cut))

pub holds_what_was_not_taken : StandsAt (record { place = None; held = 0xff ∷ 0xff ∷ [] }) (0xff ∷ []) [] → ⊥
holds_what_was_not_taken at = absurd (omega (arith, at.few))

-- a byte FF is not given before it is known, nor forgotten
pub given_too_soon : StandsAt (record { place = Some 1; held = [] }) (full ++ 0xff ∷ []) (0xff ∷ []) → ⊥
given_too_soon at = absurd (omega (arith, ap length (at.goes_on (0x7f ∷ []))))

pub forgotten : StandsAt (record { place = None; held = [] }) (0xff ∷ []) [] → ⊥
forgotten at = absurd (omega (arith, ap length (at.goes_on (0xff ∷ 0xff ∷ 0x7f ∷ 0x01 ∷ []))))

pub not_begun : StandsAt (record { place = None; held = [] }) full [] → ⊥
not_begun at = absurd (omega (arith, ap length (at.goes_on (0x01 ∷ []))))

pub of_another_place : StandsAt (record { place = Some 2; held = [] }) full [] → ⊥
of_another_place at = absurd (omega (arith, at.place))

-- a run ends before a pair that begins with FF, and is of whole pairs
pub runs : (run_at (record { place = Some 4; held = [] }) (0x01 ∷ 0xff ∷ 0x7f ∷ 0x04 ∷ 0xff ∷ 0x00 ∷ 0x06 ∷ 0x07 ∷ []) ≡ 4)
    × (run_at (record { place = Some 14; held = [] }) (0x01 ∷ 0x02 ∷ 0x03 ∷ []) ≡ 2)
    × (run_at (record { place = Some 12; held = [] }) (0x01 ∷ 0x02 ∷ []) ≡ 2) × (run_at (record { place = Some 0; held = [] }) [] ≡ 0)
runs = (refl, refl, refl, refl)

-- none begins within a pair, or before the first sync
pub no_run : (run_at (record { place = Some 4; held = 0x01 ∷ [] }) (0x01 ∷ 0x02 ∷ []) ≡ 0)
    × (run_at (record { place = None; held = [] }) (0x01 ∷ 0x02 ∷ []) ≡ 0)
no_run = (refl, refl)
