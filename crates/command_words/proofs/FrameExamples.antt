-- Command lines that tell frames: the oldest of a buffer, or how many of the last; and near misses.
use Rattle.std.proofs.Common.{◌≡◌, ℕ, List, [], ◌∷◌, codes, Option, Some, None, replicate, refl, ap, arith}
use Rattle.etm_types.specs.Settings.{Sizes}
use Rattle.command_words.specs.declared.words.Layout.{Layout}
use Rattle.command_words.specs.declared.words.ProgramForm.TheVariants as form
use Rattle.command_words.specs.declared.words.Layout.TheVariants.{Raw, Frames, Wrapped}
use Rattle.command_words.specs.CommandLines.{IsCount, IsLayout}
use Rattle.command_words.specs.Said.{IsCountTo, IsLaidOut}
use Rattle.command_words.specs.Words.{Command, Counts, Intake, Packets, Path, Program, Retired, Selftest, Times, Trace, image_of, meaning, most_last}

abbrev sizes : ℕ → ℕ → ℕ → Sizes
sizes depth vmid cid = record { depth = depth; vmid_bytes = vmid; cid_bytes = cid }

abbrev of_image : List ℕ → Program
of_image name = record { name = name; form = form.Text }

-- all IDs have the same sizes
abbrev taken : Sizes → Layout → Intake
taken all layout = record { units = replicate 111 all; layout = layout }

-- ---- the oldest frame of a buffer

-- path --wrap 0 img
pub oldest_frame_first : meaning (codes "path" ∷ codes "--wrap" ∷ codes "0" ∷ codes "img" ∷ [])
    ≡ Some (Path (of_image (codes "img")) (taken (sizes 16 1 4) (Wrapped 0)))
oldest_frame_first = refl

-- path --wrap=1 img
pub oldest_frame_joined : meaning (codes "path" ∷ codes "--wrap=1" ∷ codes "img" ∷ [])
    ≡ Some (Path (of_image (codes "img")) (taken (sizes 16 1 4) (Wrapped 1)))
oldest_frame_joined = refl

-- path --wrap 65536 img
pub greatest_place : meaning (codes "path" ∷ codes "--wrap" ∷ codes "65536" ∷ codes "img" ∷ [])
    ≡ Some (Path (of_image (codes "img")) (taken (sizes 16 1 4) (Wrapped 65536)))
greatest_place = refl

-- path --wrap 0000000001 img
pub place_of_ten_digits : meaning (codes "path" ∷ codes "--wrap" ∷ codes "0000000001" ∷ codes "img" ∷ [])
    ≡ Some (Path (of_image (codes "img")) (taken (sizes 16 1 4) (Wrapped 1)))
place_of_ten_digits = refl

-- path --vmid 0 img --depth=4 --wrap 9 --cid 0
pub place_behind_the_image :
    meaning (codes "path" ∷ codes "--vmid" ∷ codes "0" ∷ codes "img" ∷ codes "--depth=4" ∷ codes "--wrap" ∷ codes "9" ∷ codes "--cid" ∷ codes "0" ∷ [])
    ≡ Some (Path (of_image (codes "img")) (taken (sizes 4 0 0) (Wrapped 9)))
place_behind_the_image = refl

-- packets --cid 0 --wrap 12 --vmid=2
pub packets_of_a_buffer : meaning (codes "packets" ∷ codes "--cid" ∷ codes "0" ∷ codes "--wrap" ∷ codes "12" ∷ codes "--vmid=2" ∷ [])
    ≡ Some (Packets (taken (sizes 16 2 0) (Wrapped 12)))
packets_of_a_buffer = refl

-- packets --wrap=65536
pub packets_of_the_greatest_place : meaning (codes "packets" ∷ codes "--wrap=65536" ∷ []) ≡ Some (Packets (taken (sizes 16 1 4) (Wrapped 65536)))
packets_of_the_greatest_place = refl

-- path -- --wrap=1
pub image_like_the_option : meaning (codes "path" ∷ codes "--" ∷ codes "--wrap=1" ∷ [])
    ≡ Some (Path (of_image (codes "--wrap=1")) (taken (sizes 16 1 4) Frames))
image_like_the_option = refl

-- path --wrap 65537 img
pub place_too_great : meaning (codes "path" ∷ codes "--wrap" ∷ codes "65537" ∷ codes "img" ∷ []) ≡ None
place_too_great = refl

-- packets --wrap 4294967297
pub place_of_four_gibi : meaning (codes "packets" ∷ codes "--wrap" ∷ codes "4294967297" ∷ []) ≡ None
place_of_four_gibi = refl

-- path --wrap 00000000001 img
pub place_of_eleven_digits : meaning (codes "path" ∷ codes "--wrap" ∷ codes "00000000001" ∷ codes "img" ∷ []) ≡ None
place_of_eleven_digits = refl

-- path --wrap -1 img
pub place_dashed : meaning (codes "path" ∷ codes "--wrap" ∷ codes "-1" ∷ codes "img" ∷ []) ≡ None
place_dashed = refl

-- path --wrap 1
pub place_is_the_image : meaning (codes "path" ∷ codes "--wrap" ∷ codes "1" ∷ []) ≡ None
place_is_the_image = refl

-- path --wrap img
pub image_is_no_place : meaning (codes "path" ∷ codes "--wrap" ∷ codes "img" ∷ []) ≡ None
image_is_no_place = refl

-- packets --wrap
pub place_missing : meaning (codes "packets" ∷ codes "--wrap" ∷ []) ≡ None
place_missing = refl

-- path --wrap= img
pub place_empty : meaning (codes "path" ∷ codes "--wrap=" ∷ codes "img" ∷ []) ≡ None
place_empty = refl

-- path --wrap=1 --wrap=2 img
pub place_twice : meaning (codes "path" ∷ codes "--wrap=1" ∷ codes "--wrap=2" ∷ codes "img" ∷ []) ≡ None
place_twice = refl

-- packets --wrap 0 --wrap 0
pub same_place_twice : meaning (codes "packets" ∷ codes "--wrap" ∷ codes "0" ∷ codes "--wrap" ∷ codes "0" ∷ []) ≡ None
same_place_twice = refl

-- path --wra 1 img
pub place_shortened : meaning (codes "path" ∷ codes "--wra" ∷ codes "1" ∷ codes "img" ∷ []) ≡ None
place_shortened = refl

-- packets --wrap 0 --depth 4
pub packets_of_a_place_and_a_depth : meaning (codes "packets" ∷ codes "--wrap" ∷ codes "0" ∷ codes "--depth" ∷ codes "4" ∷ []) ≡ None
packets_of_a_place_and_a_depth = refl

-- ---- one stream has no frames, whatever the place

-- path --wrap 1 --raw img
pub one_stream_behind_a_place : meaning (codes "path" ∷ codes "--wrap" ∷ codes "1" ∷ codes "--raw" ∷ codes "img" ∷ []) ≡ None
one_stream_behind_a_place = refl

-- path --raw --wrap 0 img
pub place_behind_one_stream : meaning (codes "path" ∷ codes "--raw" ∷ codes "--wrap" ∷ codes "0" ∷ codes "img" ∷ []) ≡ None
place_behind_one_stream = refl

-- packets --raw --wrap 1
pub packets_of_one_stream_and_a_place : meaning (codes "packets" ∷ codes "--raw" ∷ codes "--wrap" ∷ codes "1" ∷ []) ≡ None
packets_of_one_stream_and_a_place = refl

-- packets --wrap=0 --raw
pub packets_of_one_stream_from_the_first : meaning (codes "packets" ∷ codes "--wrap=0" ∷ codes "--raw" ∷ []) ≡ None
packets_of_one_stream_from_the_first = refl

-- ---- the last frames

-- trace --last 1 img
pub last_frame : meaning (codes "trace" ∷ codes "--last" ∷ codes "1" ∷ codes "img" ∷ []) ≡ Some (Trace (of_image (codes "img")) (Some 1) None)
last_frame = refl

-- trace img --last=5
pub last_frames_joined : meaning (codes "trace" ∷ codes "img" ∷ codes "--last=5" ∷ []) ≡ Some (Trace (of_image (codes "img")) (Some 5) None)
last_frames_joined = refl

-- trace --last 65536 img
pub most_last_frames : meaning (codes "trace" ∷ codes "--last" ∷ codes "65536" ∷ codes "img" ∷ [])
    ≡ Some (Trace (of_image (codes "img")) (Some 65536) None)
most_last_frames = refl

-- trace --last=0000065536 -- -x
pub last_frames_of_ten_digits : meaning (codes "trace" ∷ codes "--last=0000065536" ∷ codes "--" ∷ codes "-x" ∷ [])
    ≡ Some (Trace (of_image (codes "-x")) (Some 65536) None)
last_frames_of_ten_digits = refl

-- trace --last 0 img
pub no_last_frame : meaning (codes "trace" ∷ codes "--last" ∷ codes "0" ∷ codes "img" ∷ []) ≡ None
no_last_frame = refl

-- trace --last 65537 img
pub too_many_last_frames : meaning (codes "trace" ∷ codes "--last" ∷ codes "65537" ∷ codes "img" ∷ []) ≡ None
too_many_last_frames = refl

-- trace --last=4294967297 img
pub last_frames_of_four_gibi : meaning (codes "trace" ∷ codes "--last=4294967297" ∷ codes "img" ∷ []) ≡ None
last_frames_of_four_gibi = refl

-- trace --last 00000000001 img
pub last_frames_of_eleven_digits : meaning (codes "trace" ∷ codes "--last" ∷ codes "00000000001" ∷ codes "img" ∷ []) ≡ None
last_frames_of_eleven_digits = refl

-- trace --last -1 img
pub last_frames_dashed : meaning (codes "trace" ∷ codes "--last" ∷ codes "-1" ∷ codes "img" ∷ []) ≡ None
last_frames_dashed = refl

-- trace --last img
pub image_is_no_number : meaning (codes "trace" ∷ codes "--last" ∷ codes "img" ∷ []) ≡ None
image_is_no_number = refl

-- trace --last 1
pub number_is_the_image : meaning (codes "trace" ∷ codes "--last" ∷ codes "1" ∷ []) ≡ None
number_is_the_image = refl

-- trace img --last
pub number_missing : meaning (codes "trace" ∷ codes "img" ∷ codes "--last" ∷ []) ≡ None
number_missing = refl

-- trace --last 1 img --last=1
pub last_frames_twice : meaning (codes "trace" ∷ codes "--last" ∷ codes "1" ∷ codes "img" ∷ codes "--last=1" ∷ []) ≡ None
last_frames_twice = refl

-- ---- commands that lack the option

-- trace --wrap 1 img
pub trace_of_a_place : meaning (codes "trace" ∷ codes "--wrap" ∷ codes "1" ∷ codes "img" ∷ []) ≡ None
trace_of_a_place = refl

-- retired --wrap 1 img
pub retired_of_a_place : meaning (codes "retired" ∷ codes "--wrap" ∷ codes "1" ∷ codes "img" ∷ []) ≡ None
retired_of_a_place = refl

-- selftest --wrap 1 0
pub number_of_a_place : meaning (codes "selftest" ∷ codes "--wrap" ∷ codes "1" ∷ codes "0" ∷ []) ≡ None
number_of_a_place = refl

-- path --last 1 img
pub path_of_last_frames : meaning (codes "path" ∷ codes "--last" ∷ codes "1" ∷ codes "img" ∷ []) ≡ None
path_of_last_frames = refl

-- packets --last 1
pub packets_of_last_frames : meaning (codes "packets" ∷ codes "--last" ∷ codes "1" ∷ []) ≡ None
packets_of_last_frames = refl

-- retired --last 1 img
pub retired_of_last_frames : meaning (codes "retired" ∷ codes "--last" ∷ codes "1" ∷ codes "img" ∷ []) ≡ None
retired_of_last_frames = refl

-- selftest --last 1 0
pub number_of_last_frames : meaning (codes "selftest" ∷ codes "--last" ∷ codes "1" ∷ codes "0" ∷ []) ≡ None
number_of_last_frames = refl

-- ---- the image

pub image_of_a_buffer : image_of (meaning (codes "path" ∷ codes "--wrap" ∷ codes "1" ∷ codes "img" ∷ [])) ≡ Some (codes "img")
image_of_a_buffer = refl

pub image_of_last_frames : image_of (meaning (codes "trace" ∷ codes "--last" ∷ codes "5" ∷ codes "img" ∷ [])) ≡ Some (codes "img")
image_of_last_frames = refl

pub no_image_of_a_buffer : image_of (meaning (codes "packets" ∷ codes "--wrap" ∷ codes "1" ∷ [])) ≡ None
no_image_of_a_buffer = refl

-- ---- what the values of the options stand for

-- a buffer whose oldest frame is its first one is told of as a buffer
pub not_in_order : IsLayout [] (codes "0" ∷ []) [] Frames → ⊥
not_in_order is = let same = is.3 in absurd cc

-- frames are counted from 0
pub not_the_next_place : IsLayout [] (codes "1" ∷ []) [] (Wrapped 2) → ⊥
not_the_next_place is = let place : ◌≡◌ {A = Option ℕ} (Some 1) (Some is.0) = is.1 in let same = is.3 in absurd cc

-- both options tell no layout
pub no_layout_of_both : IsLayout ([] ∷ []) (codes "0" ∷ []) [] Raw → ⊥
no_layout_of_both is = is

pub no_layout_of_two_flags : IsLayout ([] ∷ [] ∷ []) [] [] Raw → ⊥
no_layout_of_two_flags is = is

pub no_layout_of_two_places : IsLayout [] (codes "1" ∷ codes "1" ∷ []) [] (Wrapped 1) → ⊥
no_layout_of_two_places is = is

-- no frame at all is no number of last frames
pub not_the_last_of_none : IsCount 65536 (codes "0" ∷ []) (Some 0) → ⊥
not_the_last_of_none is = let count : ◌≡◌ {A = Option ℕ} (Some 0) (Some is.0) = is.1 in let same : 0 ≡ is.0 = cc in absurd (omega (arith, same, is.2))

pub no_more_than_the_most : IsCountTo most_last (Some 65537) → ⊥
no_more_than_the_most are = absurd (omega (arith, are.1))

pub no_place_past_the_most : IsLaidOut (Wrapped 65537) → ⊥
no_place_past_the_most is = absurd (omega (arith, is))

-- ---- near misses, which are false

-- how a command takes its input; in their order, where it takes none
abbrev layout_in : Option Command → Layout
layout_in (Some (Path program intake)) = intake.layout
layout_in (Some (Counts program intake)) = intake.layout
layout_in (Some (Packets intake)) = intake.layout
layout_in (Some (Times intake)) = intake.layout
layout_in (Some (Retired program)) = Frames
layout_in (Some (Trace program last every)) = Frames
layout_in (Some (Selftest n cut)) = Frames
layout_in None = Frames

pub not_frames : meaning (codes "path" ∷ codes "--wrap" ∷ codes "0" ∷ codes "img" ∷ []) ≡ meaning (codes "path" ∷ codes "img" ∷ []) → ⊥
not_frames e = let same : Wrapped 0 ≡ Frames = ap layout_in e in absurd cc

pub not_another_place : meaning (codes "packets" ∷ codes "--wrap" ∷ codes "1" ∷ []) ≡ meaning (codes "packets" ∷ codes "--wrap" ∷ codes "2" ∷ []) → ⊥
not_another_place e = let same : Wrapped 1 ≡ Wrapped 2 = ap layout_in e in absurd cc

-- the most frames are not all
pub not_all_frames : meaning (codes "trace" ∷ codes "--last" ∷ codes "65536" ∷ codes "img" ∷ []) ≡ meaning (codes "trace" ∷ codes "img" ∷ []) → ⊥
not_all_frames e = absurd cc

pub not_another_frame : meaning (codes "trace" ∷ codes "--last" ∷ codes "1" ∷ codes "img" ∷ [])
    ≡ meaning (codes "trace" ∷ codes "--last" ∷ codes "10" ∷ codes "img" ∷ []) → ⊥
not_another_frame e = absurd cc
