-- Frames that were worked out by hand, in both directions.
use Rattle.std.proofs.Common.{◌≡◌, ℕ, List, [], ◌∷◌, ◌++◌, refl}
use Rattle.std.specs.Prelude.{Option, Some, None, replicate}
use Rattle.formatter_frames.specs.Symbols.{pairs_of, id_after, run_of}
use Rattle.formatter_frames.specs.Frame.{symbols_in}
use Rattle.formatter_frames.specs.Framed.{framed}
use Rattle.formatter_frames.specs.Unframed.{begun_frame, unframed}

-- what a frame carries where this ID holds before it
abbrev carried : Option ℕ → List ℕ → List (ℕ × ℕ)
carried current frame = pairs_of current (symbols_in frame)

-- the ID that holds after it
abbrev after : Option ℕ → List ℕ → Option ℕ
after current frame = id_after current (symbols_in frame)

-- ---- IDs, the low bits of data bytes, and an ID of which the byte after it is not yet

abbrev mixed : List ℕ
mixed =
    0x03 ∷ 0x11 ∷ 0x22 ∷ 0x33 ∷ 0x44 ∷ 0x55 ∷ 0x66 ∷ 0x77 ∷ 0x88 ∷ 0x99 ∷ 0xaa ∷ 0xbb ∷ 0x05 ∷ 0xcc ∷ 0x07 ∷ 0x42 ∷ []

mixed_carries : carried None mixed
    ≡ run_of 1 (0x11 ∷ 0x23 ∷ 0x33 ∷ 0x44 ∷ 0x55 ∷ 0x66 ∷ 0x77 ∷ 0x88 ∷ 0x99 ∷ 0xaa ∷ 0xbb ∷ 0xcc ∷ [])
mixed_carries = refl

after_mixed : after None mixed ≡ Some 3
after_mixed = refl

-- ---- an ID in the midst of a frame

-- an ID at byte 6, this auxiliary byte, and all other bytes alike
abbrev new_at_6 : ℕ → List ℕ
new_at_6 auxiliary = replicate 6 0x10 ++ 0x0b ∷ (replicate 8 0x10 ++ auxiliary ∷ [])

-- its auxiliary bit is 0: the byte after it is of the new ID
at_once : carried (Some 2) (new_at_6 0) ≡ run_of 2 (replicate 6 0x10) ++ run_of 5 (replicate 8 0x10)
at_once = refl

-- the bit is 1: that byte is of the ID before
one_later : carried (Some 2) (new_at_6 8) ≡ run_of 2 (replicate 7 0x10) ++ run_of 5 (replicate 7 0x10)
one_later = refl

-- no ID holds before it, so that the bytes before it are passed over
none_before : carried None (new_at_6 0) ≡ run_of 5 (replicate 8 0x10)
none_before = refl

none_before_nor_after : carried None (new_at_6 8) ≡ run_of 5 (replicate 7 0x10)
none_before_nor_after = refl

-- ---- byte 14

abbrev last_is : ℕ → ℕ → List ℕ
last_is byte auxiliary = replicate 14 0x10 ++ byte ∷ auxiliary ∷ []

-- an ID there holds from the next frame on, whatever its auxiliary bit
id_at_14 : carried (Some 2) (last_is 0x0b 0) ≡ run_of 2 (replicate 14 0x10)
id_at_14 = refl

id_at_14_with_its_bit : carried (Some 2) (last_is 0x0b 0x80) ≡ run_of 2 (replicate 14 0x10)
id_at_14_with_its_bit = refl

after_id_at_14 : after (Some 2) (last_is 0x0b 0x80) ≡ Some 5
after_id_at_14 = refl

-- a data byte there has its low bit from the auxiliary byte
data_at_14 : carried (Some 2) (last_is 0x20 0x80) ≡ run_of 2 (replicate 14 0x10 ++ 0x21 ∷ [])
data_at_14 = refl

after_data_at_14 : after (Some 2) (last_is 0x20 0x80) ≡ Some 2
after_data_at_14 = refl

-- ---- frames of pairs

framed_of_nothing : framed [] ≡ []
framed_of_nothing = refl

-- thirteen bytes of one source: the null ID that fills the frame stands at byte 14
one_source : framed (replicate 13 (1, 0x01))
    ≡ 0x03 ∷ 0x01 ∷ 0x00 ∷ 0x01 ∷ 0x00 ∷ 0x01 ∷ 0x00 ∷ 0x01 ∷ 0x00 ∷ 0x01 ∷ 0x00 ∷ 0x01 ∷ 0x00 ∷ 0x01 ∷ 0x01 ∷ 0x7e ∷ []
one_source = refl

-- an ID holds over the end of a frame, and a zero of the source before the null ID comes after it
over_the_end : framed (replicate 15 (1, 0)) ≡ 0x03 ∷ (replicate 15 0 ++ 0x01 ∷ (replicate 14 0 ++ 0x01 ∷ []))
over_the_end = refl

-- two sources in turn, each ID at a mixed-use byte
in_turn : framed ((1, 0x10) ∷ (2, 0x20) ∷ (1, 0x11) ∷ []) ≡ 0x03 ∷ 0x10 ∷ 0x05 ∷ 0x20 ∷ 0x03 ∷ 0x11 ∷ 0x01 ∷ replicate 9 0
in_turn = refl

-- two sources, where each ID after the first takes the place of the byte before it
moved : framed ((1, 0x10) ∷ (1, 0x11) ∷ (2, 0x21) ∷ (1, 0x13) ∷ [])
    ≡ 0x03 ∷ 0x10 ∷ 0x05 ∷ 0x11 ∷ 0x03 ∷ 0x21 ∷ 0x01 ∷ 0x13 ∷ (replicate 7 0 ++ 0x0e ∷ [])
moved = refl

moved_back : unframed (0x03 ∷ 0x10 ∷ 0x05 ∷ 0x11 ∷ 0x03 ∷ 0x21 ∷ 0x01 ∷ 0x13 ∷ (replicate 7 0 ++ 0x0e ∷ []))
    ≡ (1, 0x10) ∷ (1, 0x11) ∷ (2, 0x21) ∷ (1, 0x13) ∷ replicate 7 (0, 0)
moved_back = refl

-- fewer than sixteen bytes carry nothing
begun : begun_frame (mixed ++ 0x03 ∷ 0x11 ∷ []) ≡ 0x03 ∷ 0x11 ∷ []
begun = refl

nothing_begun : unframed (0x03 ∷ 0x11 ∷ []) ≡ []
nothing_begun = refl

-- the ID that a frame leaves holds in the next one, which tells none
goes_on : unframed (mixed ++ replicate 16 0x10) ≡ carried None mixed ++ run_of 3 (replicate 8 0x10 ++ 0x11 ∷ replicate 6 0x10)
goes_on = refl

-- and not before the frame that tells it
not_before : unframed (replicate 16 0x10 ++ mixed) ≡ carried None mixed
not_before = refl

-- ---- bytes that all differ

-- fourteen of one source, odd and even ones in either place: their frame is full
abbrev differing : List ℕ
differing = 0x12 ∷ 0x35 ∷ 0x58 ∷ 0x7c ∷ 0x9f ∷ 0xc1 ∷ 0xe4 ∷ 0x06 ∷ 0x2b ∷ 0x4d ∷ 0x70 ∷ 0x92 ∷ 0xb7 ∷ 0xd9 ∷ []

abbrev their_frame : List ℕ
their_frame = 0x03 ∷ 0x12 ∷ 0x34 ∷ 0x58 ∷ 0x7c ∷ 0x9f ∷ 0xc0 ∷ 0xe4 ∷ 0x06 ∷ 0x2b ∷ 0x4c ∷ 0x70 ∷ 0x92 ∷ 0xb7 ∷ 0xd8 ∷ 0xaa ∷ []

differing_framed : framed (run_of 1 differing) ≡ their_frame
differing_framed = refl

differing_back : unframed their_frame ≡ run_of 1 differing
differing_back = refl

-- in the second frame the next ID, and the null ID behind it, each take the place of the byte before them
differing_behind : framed (run_of 1 (0x12 ∷ differing) ++ (0x6f, 0x55) ∷ [])
    ≡ 0x03 ∷ 0x12 ∷ 0x12 ∷ 0x35 ∷ 0x58 ∷ 0x7c ∷ 0x9e ∷ 0xc1 ∷ 0xe4 ∷ 0x06 ∷ 0x2a ∷ 0x4d ∷ 0x70 ∷ 0x92 ∷ 0xb6 ∷ 0xa8
    ∷ 0xdf ∷ 0xd9 ∷ 0x01 ∷ 0x55 ∷ (replicate 11 0x00 ++ 0x03 ∷ [])
differing_behind = refl
