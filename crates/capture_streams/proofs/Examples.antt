-- Texts that were worked out by hand, for streams of which little is printed, and texts near them that no pairs have.
use Rattle.std.proofs.Common.{◌≡◌, ℕ, ◌+◌, Bool, true, false, List, [], ◌∷◌, ◌++◌, length, Some, None, refl, ap, arith}
use Rattle.std.specs.Prelude.{get_or, replicate}
use Rattle.capture_streams.specs.Demuxed.{raw_pairs}
use Rattle.capture_streams.specs.Laws.{lines_with}
use Rattle.capture_streams.specs.Texts.{IsText, Listing, Printed, by_sizes, lines_under, sources, text_of}
use Rattle.etm_types.specs.Settings.{Sizes}
use Rattle.formatter_frames.specs.Unframed.{begun_frame, unframed}
use Rattle.path_text.specs.EndLines.{frame_cut_line}
use Rattle.capture_streams.proofs.Printing.{PrintsBy, fault_of, lines_of, printing, prints_by}

-- ---- what is printed

-- by each byte a line with the ID, how many bytes the stream had, and the byte
abbrev byte_line : ℕ → ℕ → ℕ → List ℕ
byte_line id had byte = id ∷ had ∷ byte ∷ 10 ∷ []

-- at the end a line with the ID and how many bytes it had
abbrev last_line : ℕ → ℕ → List ℕ
last_line id had = id ∷ had ∷ 10 ∷ []

abbrev tiny : Listing
tiny = printing byte_line last_line

abbrev Prints : List (ℕ × ℕ) → ℕ → List Printed → Bool → Type 0
Prints = PrintsBy byte_line last_line

prints : (pairs : List (ℕ × ℕ)) (left : ℕ) → Prints pairs left (lines_of byte_line last_line pairs left) (fault_of byte_line last_line pairs left)
prints = prints_by byte_line last_line

-- ---- lines

abbrev adds : ℕ → ℕ → ℕ → List Printed
adds id had byte = lines_under id (byte_line id had byte ∷ [])

abbrev ends : ℕ → ℕ → List Printed
ends id had = lines_under id (last_line id had ∷ [])

abbrev cut : ℕ → List Printed
cut left = record { id = None; line = frame_cut_line left } ∷ []

-- a byte of what is printed
abbrev byte_at : ℕ → List Printed → ℕ
byte_at k lines = get_or (text_of lines) k 0

-- ---- two streams in turn: lines come as the bytes do, and the ends by ID

abbrev in_turn : List (ℕ × ℕ)
in_turn = (2, 50) ∷ (1, 40) ∷ (2, 51) ∷ []

abbrev in_turn_lines : List Printed
in_turn_lines = adds 2 0 50 ++ adds 1 0 40 ++ adds 2 1 51

pub in_turn_prints : Prints in_turn 0 (in_turn_lines ++ ends 1 1 ++ ends 2 2) false
unfolding sources
in_turn_prints = prints in_turn 0

-- the ends do not stand in the order in which the streams appear
pub ends_by_appearance : IsText tiny in_turn 0 (in_turn_lines ++ ends 2 2 ++ ends 1 1) false → ⊥
ends_by_appearance other =
    absurd (omega (arith, ap (byte_at 12) (in_turn_prints.only (in_turn_lines ++ ends 2 2 ++ ends 1 1) false other).0))

-- the lines do not stand stream by stream
pub lines_by_stream : IsText tiny in_turn 0 ((adds 1 0 40 ++ adds 2 0 50 ++ adds 2 1 51) ++ ends 1 1 ++ ends 2 2) false → ⊥
lines_by_stream other =
    absurd (omega (arith, ap (byte_at 0) (in_turn_prints.only ((adds 1 0 40 ++ adds 2 0 50 ++ adds 2 1 51) ++ ends 1 1 ++ ends 2 2) false other).0))

-- a stream does not count the bytes of another
pub bytes_of_all : IsText tiny in_turn 0 ((adds 2 0 50 ++ adds 1 1 40 ++ adds 2 2 51) ++ ends 1 1 ++ ends 2 2) false → ⊥
bytes_of_all other =
    absurd (omega (arith, ap (byte_at 5) (in_turn_prints.only ((adds 2 0 50 ++ adds 1 1 40 ++ adds 2 2 51) ++ ends 1 1 ++ ends 2 2) false other).0))

-- and an end is not left out
pub an_end_is_missing : IsText tiny in_turn 0 (in_turn_lines ++ ends 1 1) false → ⊥
an_end_is_missing other = absurd (omega (arith, ap length (in_turn_prints.only (in_turn_lines ++ ends 1 1) false other).0))

-- the lines of each of them
pub lines_of_2 : lines_with 2 (in_turn_lines ++ ends 1 1 ++ ends 2 2) ≡ adds 2 0 50 ++ adds 2 1 51 ++ ends 2 2
lines_of_2 = refl

pub lines_of_1 : lines_with 1 (in_turn_lines ++ ends 1 1 ++ ends 2 2) ≡ adds 1 0 40 ++ ends 1 1
lines_of_1 = refl

-- ---- two streams of different sizes, each by its own

-- by each byte a line with the ID, the depth of its stream, and the byte
abbrev depth_line : (ℕ → Sizes) → ℕ → ℕ → ℕ → List ℕ
depth_line t id had byte = id ∷ (t id).depth ∷ byte ∷ 10 ∷ []

-- at the end a line with the ID and the depth
abbrev depth_last : (ℕ → Sizes) → ℕ → ℕ → List ℕ
depth_last t id had = id ∷ (t id).depth ∷ 10 ∷ []

-- of a stream of these sizes
abbrev sized : Sizes → Listing
sized s = printing (depth_line (λ id. s)) (depth_last (λ id. s))

-- 01 has the depth 7, and 02 has 8
abbrev seven_and_eight : ℕ → Sizes
seven_and_eight id = record { depth = 6 + id; vmid_bytes = 0; cid_bytes = 0 }

abbrev sized_adds : ℕ → ℕ → ℕ → List Printed
sized_adds id depth byte = lines_under id ((id ∷ depth ∷ byte ∷ 10 ∷ []) ∷ [])

abbrev sized_ends : ℕ → ℕ → List Printed
sized_ends id depth = lines_under id ((id ∷ depth ∷ 10 ∷ []) ∷ [])

abbrev sized_lines : List Printed
sized_lines = sized_adds 2 8 50 ++ sized_adds 1 7 40 ++ sized_adds 2 8 51 ++ sized_ends 1 7 ++ sized_ends 2 8

sized_prints : PrintsBy (depth_line seven_and_eight) (depth_last seven_and_eight) in_turn 0 sized_lines false
unfolding sources
sized_prints = prints_by (depth_line seven_and_eight) (depth_last seven_and_eight) in_turn 0

pub each_by_its_own : IsText (by_sizes sized seven_and_eight) in_turn 0 sized_lines false
each_by_its_own = sized_prints.is

-- a line is not by the sizes of the other stream
abbrev neighbours_lines : List Printed
neighbours_lines = sized_adds 2 8 50 ++ sized_adds 1 8 40 ++ sized_adds 2 8 51 ++ sized_ends 1 7 ++ sized_ends 2 8

pub line_by_a_neighbour : IsText (by_sizes sized seven_and_eight) in_turn 0 neighbours_lines false → ⊥
line_by_a_neighbour other = absurd (omega (arith, ap (byte_at 5) (sized_prints.only neighbours_lines false other).0))

-- nor is an end
abbrev neighbours_end : List Printed
neighbours_end = sized_adds 2 8 50 ++ sized_adds 1 7 40 ++ sized_adds 2 8 51 ++ sized_ends 1 8 ++ sized_ends 2 8

pub end_by_a_neighbour : IsText (by_sizes sized seven_and_eight) in_turn 0 neighbours_end false → ⊥
end_by_a_neighbour other = absurd (omega (arith, ap (byte_at 13) (sized_prints.only neighbours_end false other).0))

-- ---- IDs 00, 70 and 7f are of no source, and 01 and 6f are

abbrev of_none : List (ℕ × ℕ)
of_none = (0, 9) ∷ (112, 9) ∷ (127, 9) ∷ []

pub of_none_prints : Prints of_none 0 [] false
unfolding sources
of_none_prints = prints of_none 0

abbrev of_first_and_last : List (ℕ × ℕ)
of_first_and_last = (111, 40) ∷ (1, 41) ∷ []

pub of_first_and_last_prints : Prints of_first_and_last 0 (adds 111 0 40 ++ adds 1 0 41 ++ ends 1 1 ++ ends 111 1) false
unfolding sources
of_first_and_last_prints = prints of_first_and_last 0

-- no line of such an ID comes with its byte, nor at the end
module _ (pairs : List (ℕ × ℕ)) (prints_none : Prints pairs 0 [] false) where
  pub no_line : (first : Printed) (lines : List Printed) (faulty : Bool) → IsText tiny pairs 0 (first ∷ lines) faulty → ⊥
  no_line first lines faulty other = absurd (omega (arith, ap length (prints_none.only (first ∷ lines) faulty other).0))

pub no_line_of_70 : IsText tiny of_none 0 (adds 112 0 9) false → ⊥
no_line_of_70 other = no_line of_none of_none_prints (record { id = Some 112; line = byte_line 112 0 9 }) [] false other

pub no_end_of_00 : IsText tiny of_none 0 (ends 0 1) false → ⊥
no_end_of_00 other = no_line of_none of_none_prints (record { id = Some 0; line = last_line 0 1 }) [] false other

-- nor are their bytes a fault
pub no_fault_of_7f : IsText tiny of_none 0 [] true → ⊥
no_fault_of_7f other = absurd (let same = (of_none_prints.only [] true other).1 in cc)

-- ---- a stream that a frame names has no end without a byte: of 02 there is none before 00 is named

abbrev naming : List ℕ
naming = 0x03 ∷ 40 ∷ 0x05 ∷ 41 ∷ 0x01 ∷ 0 ∷ replicate 9 0 ++ 2 ∷ []

abbrev named : List (ℕ × ℕ)
named = (1, 40) ∷ (1, 41) ∷ replicate 10 (0, 0)

pub naming_carries : unframed naming ≡ named
naming_carries = refl

abbrev named_lines : List Printed
named_lines = adds 1 0 40 ++ adds 1 1 41 ++ ends 1 2

pub named_prints : Prints named 0 named_lines false
unfolding sources
named_prints = prints named 0

pub no_end_of_named : IsText tiny (unframed naming) 0 (named_lines ++ ends 2 0) false → ⊥
no_end_of_named other = absurd (omega (arith, ap length (named_prints.only (named_lines ++ ends 2 0) false other).0))

-- ---- a fault of one stream, whatever comes after it

abbrev with_fault : List (ℕ × ℕ)
with_fault = (1, 9) ∷ (2, 50) ∷ []

abbrev with_fault_lines : List Printed
with_fault_lines = adds 1 0 9 ++ adds 2 0 50 ++ ends 1 1 ++ ends 2 1

pub with_fault_prints : Prints with_fault 0 with_fault_lines true
unfolding sources
with_fault_prints = prints with_fault 0

pub the_last_end_alone : IsText tiny with_fault 0 with_fault_lines false → ⊥
the_last_end_alone other = absurd (let same = (with_fault_prints.only with_fault_lines false other).1 in cc)

-- the fault stops no other stream
pub no_line_behind_a_fault : IsText tiny with_fault 0 (adds 1 0 9 ++ ends 1 1) true → ⊥
no_line_behind_a_fault other = absurd (omega (arith, ap length (with_fault_prints.only (adds 1 0 9 ++ ends 1 1) true other).0))

-- ---- a frame that is cut: its line is the last, and it is a fault by itself

abbrev alone : List (ℕ × ℕ)
alone = (1, 40) ∷ []

pub cut_prints : Prints alone 3 (adds 1 0 40 ++ ends 1 1 ++ cut 3) true
unfolding sources
cut_prints = prints alone 3

pub cut_before_the_ends : IsText tiny alone 3 (adds 1 0 40 ++ cut 3 ++ ends 1 1) true → ⊥
cut_before_the_ends other =
    absurd (omega (arith, ap (byte_at 4) (cut_prints.only (adds 1 0 40 ++ cut 3 ++ ends 1 1) true other).0))

pub cut_is_no_fault : IsText tiny alone 3 (adds 1 0 40 ++ ends 1 1 ++ cut 3) false → ⊥
cut_is_no_fault other = absurd (let same = (cut_prints.only (adds 1 0 40 ++ ends 1 1 ++ cut 3) false other).1 in cc)

-- it is all that is printed where no frame is whole
pub nothing_but_cut : Prints (unframed (0x03 ∷ 40 ∷ [])) (length (begun_frame (0x03 ∷ 40 ∷ []))) (cut 2) true
unfolding sources
nothing_but_cut = prints [] 2

-- one byte is enough
pub one_left_prints : Prints alone 1 (adds 1 0 40 ++ ends 1 1 ++ cut 1) true
unfolding sources
one_left_prints = prints alone 1

-- and there is none where nothing is left over
pub uncut_prints : Prints alone 0 (adds 1 0 40 ++ ends 1 1) false
unfolding sources
uncut_prints = prints alone 0

pub cut_of_nothing : IsText tiny alone 0 (adds 1 0 40 ++ ends 1 1 ++ cut 0) true → ⊥
cut_of_nothing other = absurd (let same = (uncut_prints.only (adds 1 0 40 ++ ends 1 1 ++ cut 0) true other).1 in cc)

-- ---- nothing at all

pub nothing_prints : Prints [] 0 [] false
unfolding sources
nothing_prints = prints [] 0

-- ---- bytes that are not framed are of ID 01

pub raw_prints : Prints (raw_pairs (40 ∷ 41 ∷ [])) 0 (adds 1 0 40 ++ adds 1 1 41 ++ ends 1 2) false
unfolding sources
raw_prints = prints (raw_pairs (40 ∷ 41 ∷ [])) 0
