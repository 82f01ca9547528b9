-- Command lines with their meaning, and near misses.
use Rattle.std.proofs.Common.{◌≡◌, ℕ, List, [], ◌∷◌, codes, Option, Some, None, replicate, refl, ap, arith}
use Rattle.etm_types.specs.Settings.{Sizes}
use Rattle.etm_types.specs.SettingsTable.{sizes_at}
use Rattle.command_words.specs.declared.words.Layout.{Layout}
use Rattle.command_words.specs.declared.words.ProgramForm.TheVariants as form
use Rattle.command_words.specs.declared.words.Layout.TheVariants.{Raw, Frames}
use Rattle.command_words.specs.Words.{Command, Counts, Path, Packets, Retired, Selftest, Times, Trace, meaning, image_of}
use Rattle.command_words.specs.Words.{BareKind, Intake, NoCommand, NumberKind, PathKind, Program, RunFileKind, kind_of, program_of}

abbrev sizes : ℕ → ℕ → ℕ → Sizes
sizes depth vmid cid = record { depth = depth; vmid_bytes = vmid; cid_bytes = cid }

abbrev of_image : List ℕ → Program
of_image name = record { name = name; form = form.Text }

-- all IDs have the same sizes
abbrev taken : Sizes → Layout → Intake
taken all layout = record { units = replicate 111 all; layout = layout }

-- ---- the commands with their defaults

-- path img
pub path_of_frames : meaning (codes "path" ∷ codes "img" ∷ []) ≡ Some (Path (of_image (codes "img")) (taken (sizes 16 1 4) Frames))
path_of_frames = refl

-- path --raw img
pub path_of_one_stream : meaning (codes "path" ∷ codes "--raw" ∷ codes "img" ∷ []) ≡ Some (Path (of_image (codes "img")) (taken (sizes 16 1 4) Raw))
path_of_one_stream = refl

-- packets
pub packets_of_frames : meaning (codes "packets" ∷ []) ≡ Some (Packets (taken (sizes 16 1 4) Frames))
packets_of_frames = refl

-- packets --raw
pub packets_of_one_stream : meaning (codes "packets" ∷ codes "--raw" ∷ []) ≡ Some (Packets (taken (sizes 16 1 4) Raw))
packets_of_one_stream = refl

-- times
pub times_of_frames : meaning (codes "times" ∷ []) ≡ Some (Times (taken (sizes 16 1 4) Frames))
times_of_frames = refl

-- times --raw --vmid 2 --depth=0 --cid 0
pub times_of_one_stream : meaning (codes "times" ∷ codes "--raw" ∷ codes "--vmid" ∷ codes "2" ∷ codes "--depth=0" ∷ codes "--cid" ∷ codes "0" ∷ [])
    ≡ Some (Times (taken (sizes 0 2 0) Raw))
times_of_one_stream = refl

-- times --
pub times_to_the_end : meaning (codes "times" ∷ codes "--" ∷ []) ≡ Some (Times (taken (sizes 16 1 4) Frames))
times_to_the_end = refl

-- times img
pub times_of_an_image : meaning (codes "times" ∷ codes "img" ∷ []) ≡ None
times_of_an_image = refl

-- times --wrap 0
pub times_of_a_buffer : meaning (codes "times" ∷ codes "--wrap" ∷ codes "0" ∷ []) ≡ None
times_of_a_buffer = refl

-- times --sync
pub times_of_a_port : meaning (codes "times" ∷ codes "--sync" ∷ []) ≡ None
times_of_a_port = refl

-- times --elf
pub times_of_a_program : meaning (codes "times" ∷ codes "--elf" ∷ []) ≡ None
times_of_a_program = refl

-- times --depth 16385
pub times_too_deep : meaning (codes "times" ∷ codes "--depth" ∷ codes "16385" ∷ []) ≡ None
times_too_deep = refl

-- time
pub times_shortened : meaning (codes "time" ∷ []) ≡ None
times_shortened = refl

-- retired img
pub retired_path : meaning (codes "retired" ∷ codes "img" ∷ []) ≡ Some (Retired (of_image (codes "img")))
retired_path = refl

-- trace img
pub traces_of_a_run : meaning (codes "trace" ∷ codes "img" ∷ []) ≡ Some (Trace (of_image (codes "img")) None None)
traces_of_a_run = refl

-- selftest 0
pub number_tried : meaning (codes "selftest" ∷ codes "0" ∷ []) ≡ Some (Selftest 0 None)
number_tried = refl

-- ---- values, in the next word or behind `=`

-- path --depth 0 img
pub depth_apart : meaning (codes "path" ∷ codes "--depth" ∷ codes "0" ∷ codes "img" ∷ []) ≡ Some (Path (of_image (codes "img")) (taken (sizes 0 1 4) Frames))
depth_apart = refl

-- path --depth=16 img
pub depth_joined : meaning (codes "path" ∷ codes "--depth=16" ∷ codes "img" ∷ []) ≡ Some (Path (of_image (codes "img")) (taken (sizes 16 1 4) Frames))
depth_joined = refl

-- path --raw --depth 4096 --vmid 4 --cid 0 img
pub path_with_all :
    meaning (codes "path" ∷ codes "--raw" ∷ codes "--depth" ∷ codes "4096" ∷ codes "--vmid" ∷ codes "4" ∷ codes "--cid" ∷ codes "0" ∷ codes "img" ∷ [])
    ≡ Some (Path (of_image (codes "img")) (taken (sizes 4096 4 0) Raw))
path_with_all = refl

-- packets --cid=0 --raw --vmid 2
pub packets_with_all : meaning (codes "packets" ∷ codes "--cid=0" ∷ codes "--raw" ∷ codes "--vmid" ∷ codes "2" ∷ []) ≡ Some (Packets (taken (sizes 16 2 0) Raw))
packets_with_all = refl

-- path img --depth
pub value_missing : meaning (codes "path" ∷ codes "img" ∷ codes "--depth" ∷ []) ≡ None
value_missing = refl

-- path --depth 16
pub value_is_the_image : meaning (codes "path" ∷ codes "--depth" ∷ codes "16" ∷ []) ≡ None
value_is_the_image = refl

-- path --depth img
pub image_is_no_number : meaning (codes "path" ∷ codes "--depth" ∷ codes "img" ∷ []) ≡ None
image_is_no_number = refl

-- path --depth -1 img
pub value_dashed : meaning (codes "path" ∷ codes "--depth" ∷ codes "-1" ∷ codes "img" ∷ []) ≡ None
value_dashed = refl

-- path --depth=-1 img
pub value_dashed_joined : meaning (codes "path" ∷ codes "--depth=-1" ∷ codes "img" ∷ []) ≡ None
value_dashed_joined = refl

-- path --depth= img
pub value_empty_joined : meaning (codes "path" ∷ codes "--depth=" ∷ codes "img" ∷ []) ≡ None
value_empty_joined = refl

-- path --depth - img
pub value_of_a_dash : meaning (codes "path" ∷ codes "--depth" ∷ codes "-" ∷ codes "img" ∷ []) ≡ None
value_of_a_dash = refl

-- path --depth --raw img
pub option_as_value : meaning (codes "path" ∷ codes "--depth" ∷ codes "--raw" ∷ codes "img" ∷ []) ≡ None
option_as_value = refl

-- path --depth -- 16 img
pub end_as_value : meaning (codes "path" ∷ codes "--depth" ∷ codes "--" ∷ codes "16" ∷ codes "img" ∷ []) ≡ None
end_as_value = refl

-- path --depth=1=6 img
pub second_equals : meaning (codes "path" ∷ codes "--depth=1=6" ∷ codes "img" ∷ []) ≡ None
second_equals = refl

-- path --=16 img
pub no_name : meaning (codes "path" ∷ codes "--=16" ∷ codes "img" ∷ []) ≡ None
no_name = refl

-- ---- any order, each option once

-- path img --cid 4 --raw
pub image_first : meaning (codes "path" ∷ codes "img" ∷ codes "--cid" ∷ codes "4" ∷ codes "--raw" ∷ [])
    ≡ Some (Path (of_image (codes "img")) (taken (sizes 16 1 4) Raw))
image_first = refl

-- path --vmid 2 img --depth=8
pub image_in_the_middle : meaning (codes "path" ∷ codes "--vmid" ∷ codes "2" ∷ codes "img" ∷ codes "--depth=8" ∷ [])
    ≡ Some (Path (of_image (codes "img")) (taken (sizes 8 2 4) Frames))
image_in_the_middle = refl

-- packets --cid 0 --vmid 0
pub sizes_turned : meaning (codes "packets" ∷ codes "--cid" ∷ codes "0" ∷ codes "--vmid" ∷ codes "0" ∷ []) ≡ Some (Packets (taken (sizes 16 0 0) Frames))
sizes_turned = refl

-- path --raw --raw img
pub flag_twice : meaning (codes "path" ∷ codes "--raw" ∷ codes "--raw" ∷ codes "img" ∷ []) ≡ None
flag_twice = refl

-- path --depth 4 --depth 4 img
pub option_twice : meaning (codes "path" ∷ codes "--depth" ∷ codes "4" ∷ codes "--depth" ∷ codes "4" ∷ codes "img" ∷ []) ≡ None
option_twice = refl

-- path --depth=4 img --depth 4
pub option_twice_in_both_forms : meaning (codes "path" ∷ codes "--depth=4" ∷ codes "img" ∷ codes "--depth" ∷ codes "4" ∷ []) ≡ None
option_twice_in_both_forms = refl

-- packets --raw --raw
pub packets_flag_twice : meaning (codes "packets" ∷ codes "--raw" ∷ codes "--raw" ∷ []) ≡ None
packets_flag_twice = refl

-- ---- the positional

-- path
pub image_missing : meaning (codes "path" ∷ []) ≡ None
image_missing = refl

-- path --depth 4
pub image_missing_behind_an_option : meaning (codes "path" ∷ codes "--depth" ∷ codes "4" ∷ []) ≡ None
image_missing_behind_an_option = refl

-- path img img
pub two_images : meaning (codes "path" ∷ codes "img" ∷ codes "img" ∷ []) ≡ None
two_images = refl

-- path img --raw img
pub two_images_apart : meaning (codes "path" ∷ codes "img" ∷ codes "--raw" ∷ codes "img" ∷ []) ≡ None
two_images_apart = refl

-- path -
pub image_of_a_dash : meaning (codes "path" ∷ codes "-" ∷ []) ≡ Some (Path (of_image (codes "-")) (taken (sizes 16 1 4) Frames))
image_of_a_dash = refl

-- path 4
pub image_of_a_number : meaning (codes "path" ∷ codes "4" ∷ []) ≡ Some (Path (of_image (codes "4")) (taken (sizes 16 1 4) Frames))
image_of_a_number = refl

-- path path
pub image_of_a_command : meaning (codes "path" ∷ codes "path" ∷ []) ≡ Some (Path (of_image (codes "path")) (taken (sizes 16 1 4) Frames))
image_of_a_command = refl

-- path raw=1
pub image_of_equals : meaning (codes "path" ∷ codes "raw=1" ∷ []) ≡ Some (Path (of_image (codes "raw=1")) (taken (sizes 16 1 4) Frames))
image_of_equals = refl

-- path -x
pub image_dashed : meaning (codes "path" ∷ codes "-x" ∷ []) ≡ None
image_dashed = refl

-- packets img
pub packets_of_an_image : meaning (codes "packets" ∷ codes "img" ∷ []) ≡ None
packets_of_an_image = refl

-- packets -
pub packets_of_a_dash : meaning (codes "packets" ∷ codes "-" ∷ []) ≡ None
packets_of_a_dash = refl

-- retired
pub retired_without_an_image : meaning (codes "retired" ∷ []) ≡ None
retired_without_an_image = refl

-- retired img img
pub retired_of_two_images : meaning (codes "retired" ∷ codes "img" ∷ codes "img" ∷ []) ≡ None
retired_of_two_images = refl

-- retired -
pub retired_of_a_dash : meaning (codes "retired" ∷ codes "-" ∷ []) ≡ Some (Retired (of_image (codes "-")))
retired_of_a_dash = refl

-- trace
pub trace_without_an_image : meaning (codes "trace" ∷ []) ≡ None
trace_without_an_image = refl

-- trace img img
pub trace_of_two_images : meaning (codes "trace" ∷ codes "img" ∷ codes "img" ∷ []) ≡ None
trace_of_two_images = refl

-- trace -
pub traced_by_a_dash : meaning (codes "trace" ∷ codes "-" ∷ []) ≡ Some (Trace (of_image (codes "-")) None None)
traced_by_a_dash = refl

-- ---- `--`

-- path -- img
pub image_behind_the_end : meaning (codes "path" ∷ codes "--" ∷ codes "img" ∷ []) ≡ Some (Path (of_image (codes "img")) (taken (sizes 16 1 4) Frames))
image_behind_the_end = refl

-- path -- --raw
pub image_like_a_flag : meaning (codes "path" ∷ codes "--" ∷ codes "--raw" ∷ []) ≡ Some (Path (of_image (codes "--raw")) (taken (sizes 16 1 4) Frames))
image_like_a_flag = refl

-- path -- --
pub image_like_the_end : meaning (codes "path" ∷ codes "--" ∷ codes "--" ∷ []) ≡ Some (Path (of_image (codes "--")) (taken (sizes 16 1 4) Frames))
image_like_the_end = refl

-- trace -- --raw
pub traces_of_an_image_like_a_flag : meaning (codes "trace" ∷ codes "--" ∷ codes "--raw" ∷ []) ≡ Some (Trace (of_image (codes "--raw")) None None)
traces_of_an_image_like_a_flag = refl

-- path --raw --depth 4 -- -x
pub options_before_the_end : meaning (codes "path" ∷ codes "--raw" ∷ codes "--depth" ∷ codes "4" ∷ codes "--" ∷ codes "-x" ∷ [])
    ≡ Some (Path (of_image (codes "-x")) (taken (sizes 4 1 4) Raw))
options_before_the_end = refl

-- path img --
pub image_before_the_end : meaning (codes "path" ∷ codes "img" ∷ codes "--" ∷ []) ≡ Some (Path (of_image (codes "img")) (taken (sizes 16 1 4) Frames))
image_before_the_end = refl

-- path --
pub image_missing_at_the_end : meaning (codes "path" ∷ codes "--" ∷ []) ≡ None
image_missing_at_the_end = refl

-- path -- a b
pub two_images_behind_the_end : meaning (codes "path" ∷ codes "--" ∷ codes "a" ∷ codes "b" ∷ []) ≡ None
two_images_behind_the_end = refl

-- path -- -- img
pub two_ends_and_an_image : meaning (codes "path" ∷ codes "--" ∷ codes "--" ∷ codes "img" ∷ []) ≡ None
two_ends_and_an_image = refl

-- path img -- img
pub image_on_both_sides : meaning (codes "path" ∷ codes "img" ∷ codes "--" ∷ codes "img" ∷ []) ≡ None
image_on_both_sides = refl

-- path img -- --raw
pub option_behind_the_end : meaning (codes "path" ∷ codes "img" ∷ codes "--" ∷ codes "--raw" ∷ []) ≡ None
option_behind_the_end = refl

-- packets --
pub packets_to_the_end : meaning (codes "packets" ∷ codes "--" ∷ []) ≡ Some (Packets (taken (sizes 16 1 4) Frames))
packets_to_the_end = refl

-- packets -- --
pub packets_with_two_ends : meaning (codes "packets" ∷ codes "--" ∷ codes "--" ∷ []) ≡ None
packets_with_two_ends = refl

-- -- path img
pub end_first : meaning (codes "--" ∷ codes "path" ∷ codes "img" ∷ []) ≡ None
end_first = refl

-- --
pub end_alone : meaning (codes "--" ∷ []) ≡ None
end_alone = refl

-- path --- img
pub long_dash : meaning (codes "path" ∷ codes "---" ∷ codes "img" ∷ []) ≡ None
long_dash = refl

-- ---- options that no command has, or another one

-- path --cut 1 img
pub path_of_a_cut : meaning (codes "path" ∷ codes "--cut" ∷ codes "1" ∷ codes "img" ∷ []) ≡ None
path_of_a_cut = refl

-- packets --cut 1
pub packets_of_a_cut : meaning (codes "packets" ∷ codes "--cut" ∷ codes "1" ∷ []) ≡ None
packets_of_a_cut = refl

-- retired --cut=1 img
pub retired_of_a_cut : meaning (codes "retired" ∷ codes "--cut=1" ∷ codes "img" ∷ []) ≡ None
retired_of_a_cut = refl

-- trace --cut 1 img
pub trace_of_a_cut : meaning (codes "trace" ∷ codes "--cut" ∷ codes "1" ∷ codes "img" ∷ []) ≡ None
trace_of_a_cut = refl

-- selftest --raw 0
pub number_of_one_stream : meaning (codes "selftest" ∷ codes "--raw" ∷ codes "0" ∷ []) ≡ None
number_of_one_stream = refl

-- selftest --depth 4 0
pub number_of_a_depth : meaning (codes "selftest" ∷ codes "--depth" ∷ codes "4" ∷ codes "0" ∷ []) ≡ None
number_of_a_depth = refl

-- selftest --vmid=1 0
pub number_of_a_vmid : meaning (codes "selftest" ∷ codes "--vmid=1" ∷ codes "0" ∷ []) ≡ None
number_of_a_vmid = refl

-- selftest 0 --cid 4
pub number_of_a_context_id : meaning (codes "selftest" ∷ codes "0" ∷ codes "--cid" ∷ codes "4" ∷ []) ≡ None
number_of_a_context_id = refl

-- selftest --help
pub number_and_help : meaning (codes "selftest" ∷ codes "--help" ∷ []) ≡ None
number_and_help = refl

-- ---- other options

-- path --raw=1 img
pub flag_with_a_value : meaning (codes "path" ∷ codes "--raw=1" ∷ codes "img" ∷ []) ≡ None
flag_with_a_value = refl

-- path --raw= img
pub flag_with_an_empty_value : meaning (codes "path" ∷ codes "--raw=" ∷ codes "img" ∷ []) ≡ None
flag_with_an_empty_value = refl

-- path --dep 4 img
pub name_shortened : meaning (codes "path" ∷ codes "--dep" ∷ codes "4" ∷ codes "img" ∷ []) ≡ None
name_shortened = refl

-- path --depths 4 img
pub name_longer : meaning (codes "path" ∷ codes "--depths" ∷ codes "4" ∷ codes "img" ∷ []) ≡ None
name_longer = refl

-- path --RAW img
pub name_in_capitals : meaning (codes "path" ∷ codes "--RAW" ∷ codes "img" ∷ []) ≡ None
name_in_capitals = refl

-- path -raw img
pub short_name : meaning (codes "path" ∷ codes "-raw" ∷ codes "img" ∷ []) ≡ None
short_name = refl

-- packets --depth 4
pub packets_of_a_depth : meaning (codes "packets" ∷ codes "--depth" ∷ codes "4" ∷ []) ≡ None
packets_of_a_depth = refl

-- retired --raw img
pub retired_of_one_stream : meaning (codes "retired" ∷ codes "--raw" ∷ codes "img" ∷ []) ≡ None
retired_of_one_stream = refl

-- retired --depth 4 img
pub retired_of_a_depth : meaning (codes "retired" ∷ codes "--depth" ∷ codes "4" ∷ codes "img" ∷ []) ≡ None
retired_of_a_depth = refl

-- trace --raw img
pub trace_of_one_stream : meaning (codes "trace" ∷ codes "--raw" ∷ codes "img" ∷ []) ≡ None
trace_of_one_stream = refl

-- path --help
pub help_flag : meaning (codes "path" ∷ codes "--help" ∷ []) ≡ None
help_flag = refl

-- path --help img
pub help_flag_with_an_image : meaning (codes "path" ∷ codes "--help" ∷ codes "img" ∷ []) ≡ None
help_flag_with_an_image = refl

-- path -h
pub short_help_flag : meaning (codes "path" ∷ codes "-h" ∷ []) ≡ None
short_help_flag = refl

-- packets --version
pub version_flag : meaning (codes "packets" ∷ codes "--version" ∷ []) ≡ None
version_flag = refl

-- packets -V
pub short_version_flag : meaning (codes "packets" ∷ codes "-V" ∷ []) ≡ None
short_version_flag = refl

-- ---- the command

pub no_words : meaning [] ≡ None
no_words = refl

-- help
pub help_word : meaning (codes "help" ∷ []) ≡ None
help_word = refl

-- help path
pub help_of_a_command : meaning (codes "help" ∷ codes "path" ∷ []) ≡ None
help_of_a_command = refl

-- --help
pub help_before_the_command : meaning (codes "--help" ∷ []) ≡ None
help_before_the_command = refl

-- -h
pub short_help_before_the_command : meaning (codes "-h" ∷ []) ≡ None
short_help_before_the_command = refl

-- --version
pub version_before_the_command : meaning (codes "--version" ∷ []) ≡ None
version_before_the_command = refl

-- -V
pub short_version_before_the_command : meaning (codes "-V" ∷ []) ≡ None
short_version_before_the_command = refl

-- --raw path img
pub option_before_the_command : meaning (codes "--raw" ∷ codes "path" ∷ codes "img" ∷ []) ≡ None
option_before_the_command = refl

-- pat img
pub command_shortened : meaning (codes "pat" ∷ codes "img" ∷ []) ≡ None
command_shortened = refl

-- walk img
pub another_command : meaning (codes "walk" ∷ codes "img" ∷ []) ≡ None
another_command = refl

-- img path
pub image_before_the_command : meaning (codes "img" ∷ codes "path" ∷ []) ≡ None
image_before_the_command = refl

-- ---- numbers

-- path --depth 0000000016 img
pub ten_digits : meaning (codes "path" ∷ codes "--depth" ∷ codes "0000000016" ∷ codes "img" ∷ [])
    ≡ Some (Path (of_image (codes "img")) (taken (sizes 16 1 4) Frames))
ten_digits = refl

-- path --depth 00000000016 img
pub eleven_digits : meaning (codes "path" ∷ codes "--depth" ∷ codes "00000000016" ∷ codes "img" ∷ []) ≡ None
eleven_digits = refl

-- path --depth 4294967296 img
pub four_gibi : meaning (codes "path" ∷ codes "--depth" ∷ codes "4294967296" ∷ codes "img" ∷ []) ≡ None
four_gibi = refl

-- path --depth 16384 img
pub deepest : meaning (codes "path" ∷ codes "--depth" ∷ codes "16384" ∷ codes "img" ∷ []) ≡ Some (Path (of_image (codes "img")) (taken (sizes 16384 1 4) Frames))
deepest = refl

-- path --depth 16385 img
pub too_deep : meaning (codes "path" ∷ codes "--depth" ∷ codes "16385" ∷ codes "img" ∷ []) ≡ None
too_deep = refl

-- path --depth +4 img
pub plus_sign : meaning (codes "path" ∷ codes "--depth" ∷ codes "+4" ∷ codes "img" ∷ []) ≡ None
plus_sign = refl

-- path --depth 1f img
pub hex_digit : meaning (codes "path" ∷ codes "--depth" ∷ codes "1f" ∷ codes "img" ∷ []) ≡ None
hex_digit = refl

-- path --vmid=0 img
pub no_vmid : meaning (codes "path" ∷ codes "--vmid=0" ∷ codes "img" ∷ []) ≡ Some (Path (of_image (codes "img")) (taken (sizes 16 0 4) Frames))
no_vmid = refl

-- path img --vmid 3
pub vmid_of_three_bytes : meaning (codes "path" ∷ codes "img" ∷ codes "--vmid" ∷ codes "3" ∷ []) ≡ None
vmid_of_three_bytes = refl

-- packets --vmid 257
pub vmid_of_257_bytes : meaning (codes "packets" ∷ codes "--vmid" ∷ codes "257" ∷ []) ≡ None
vmid_of_257_bytes = refl

-- path --cid 1 img
pub context_id_of_a_byte : meaning (codes "path" ∷ codes "--cid" ∷ codes "1" ∷ codes "img" ∷ []) ≡ None
context_id_of_a_byte = refl

-- packets --cid 2
pub context_id_of_two_bytes : meaning (codes "packets" ∷ codes "--cid" ∷ codes "2" ∷ []) ≡ None
context_id_of_two_bytes = refl

-- path --depth 20000 img
pub too_deep_by_far : meaning (codes "path" ∷ codes "--depth" ∷ codes "20000" ∷ codes "img" ∷ []) ≡ None
too_deep_by_far = refl

-- path --depth 5000 img
pub deeper_than_run_files :
    meaning (codes "path" ∷ codes "--depth" ∷ codes "5000" ∷ codes "img" ∷ []) ≡ Some (Path (of_image (codes "img")) (taken (sizes 5000 1 4) Frames))
deeper_than_run_files = refl

-- ---- the number of selftest, and how many bytes are read

-- selftest 99999
pub greatest_number : meaning (codes "selftest" ∷ codes "99999" ∷ []) ≡ Some (Selftest 99999 None)
greatest_number = refl

-- selftest 100000
pub number_too_great : meaning (codes "selftest" ∷ codes "100000" ∷ []) ≡ None
number_too_great = refl

-- selftest
pub number_missing : meaning (codes "selftest" ∷ []) ≡ None
number_missing = refl

-- selftest -1
pub number_dashed : meaning (codes "selftest" ∷ codes "-1" ∷ []) ≡ None
number_dashed = refl

-- selftest -
pub number_of_a_dash : meaning (codes "selftest" ∷ codes "-" ∷ []) ≡ None
number_of_a_dash = refl

-- selftest img
pub number_of_an_image : meaning (codes "selftest" ∷ codes "img" ∷ []) ≡ None
number_of_an_image = refl

-- selftest path
pub number_of_a_command : meaning (codes "selftest" ∷ codes "path" ∷ []) ≡ None
number_of_a_command = refl

-- selftest 0 1
pub two_numbers : meaning (codes "selftest" ∷ codes "0" ∷ codes "1" ∷ []) ≡ None
two_numbers = refl

-- selftest -- 7
pub number_behind_the_end : meaning (codes "selftest" ∷ codes "--" ∷ codes "7" ∷ []) ≡ Some (Selftest 7 None)
number_behind_the_end = refl

-- selftest -- -1
pub number_dashed_behind_the_end : meaning (codes "selftest" ∷ codes "--" ∷ codes "-1" ∷ []) ≡ None
number_dashed_behind_the_end = refl

-- selftest 7 --
pub number_before_the_end : meaning (codes "selftest" ∷ codes "7" ∷ codes "--" ∷ []) ≡ Some (Selftest 7 None)
number_before_the_end = refl

-- selftest 7 -- 7
pub numbers_on_both_sides : meaning (codes "selftest" ∷ codes "7" ∷ codes "--" ∷ codes "7" ∷ []) ≡ None
numbers_on_both_sides = refl

-- selftest --
pub number_missing_at_the_end : meaning (codes "selftest" ∷ codes "--" ∷ []) ≡ None
number_missing_at_the_end = refl

-- selftest 0000000007
pub number_of_ten_digits : meaning (codes "selftest" ∷ codes "0000000007" ∷ []) ≡ Some (Selftest 7 None)
number_of_ten_digits = refl

-- selftest 00000000007
pub number_of_eleven_digits : meaning (codes "selftest" ∷ codes "00000000007" ∷ []) ≡ None
number_of_eleven_digits = refl

-- selftest 9999999999
pub number_of_many_digits : meaning (codes "selftest" ∷ codes "9999999999" ∷ []) ≡ None
number_of_many_digits = refl

-- selftest 4294967296
pub number_of_four_gibi : meaning (codes "selftest" ∷ codes "4294967296" ∷ []) ≡ None
number_of_four_gibi = refl

-- selftest +7
pub number_with_a_sign : meaning (codes "selftest" ∷ codes "+7" ∷ []) ≡ None
number_with_a_sign = refl

-- selftest 0x7
pub number_in_hex : meaning (codes "selftest" ∷ codes "0x7" ∷ []) ≡ None
number_in_hex = refl

-- selftest 0 --cut 31
pub number_before_a_cut : meaning (codes "selftest" ∷ codes "0" ∷ codes "--cut" ∷ codes "31" ∷ []) ≡ Some (Selftest 0 (Some 31))
number_before_a_cut = refl

-- selftest --cut 32 0
pub cut_before_a_number : meaning (codes "selftest" ∷ codes "--cut" ∷ codes "32" ∷ codes "0" ∷ []) ≡ Some (Selftest 0 (Some 32))
cut_before_a_number = refl

-- selftest --cut=0 5
pub cut_joined : meaning (codes "selftest" ∷ codes "--cut=0" ∷ codes "5" ∷ []) ≡ Some (Selftest 5 (Some 0))
cut_joined = refl

-- selftest --cut=0 1
pub cut_at_once : meaning (codes "selftest" ∷ codes "--cut=0" ∷ codes "1" ∷ []) ≡ Some (Selftest 1 (Some 0))
cut_at_once = refl

-- selftest 5 --cut 1073741824
pub greatest_cut : meaning (codes "selftest" ∷ codes "5" ∷ codes "--cut" ∷ codes "1073741824" ∷ []) ≡ Some (Selftest 5 (Some 1073741824))
greatest_cut = refl

-- selftest 1 --cut 1073741824
pub greatest_cut_of_another : meaning (codes "selftest" ∷ codes "1" ∷ codes "--cut" ∷ codes "1073741824" ∷ []) ≡ Some (Selftest 1 (Some 1073741824))
greatest_cut_of_another = refl

-- selftest 1 --cut 1073741825
pub cut_too_great : meaning (codes "selftest" ∷ codes "1" ∷ codes "--cut" ∷ codes "1073741825" ∷ []) ≡ None
cut_too_great = refl

-- selftest --cut=1073741825 5
pub cut_too_great_joined : meaning (codes "selftest" ∷ codes "--cut=1073741825" ∷ codes "5" ∷ []) ≡ None
cut_too_great_joined = refl

-- selftest 1 --cut 4294967297
pub cut_of_four_gibi : meaning (codes "selftest" ∷ codes "1" ∷ codes "--cut" ∷ codes "4294967297" ∷ []) ≡ None
cut_of_four_gibi = refl

-- selftest --cut 1 -- 7
pub cut_and_number_behind_the_end : meaning (codes "selftest" ∷ codes "--cut" ∷ codes "1" ∷ codes "--" ∷ codes "7" ∷ []) ≡ Some (Selftest 7 (Some 1))
cut_and_number_behind_the_end = refl

-- selftest --cut 1 --cut 1 0
pub two_cuts : meaning (codes "selftest" ∷ codes "--cut" ∷ codes "1" ∷ codes "--cut" ∷ codes "1" ∷ codes "0" ∷ []) ≡ None
two_cuts = refl

-- selftest --cut=1 0 --cut 2
pub two_cuts_in_both_forms : meaning (codes "selftest" ∷ codes "--cut=1" ∷ codes "0" ∷ codes "--cut" ∷ codes "2" ∷ []) ≡ None
two_cuts_in_both_forms = refl

-- selftest 0 --cut
pub cut_without_a_value : meaning (codes "selftest" ∷ codes "0" ∷ codes "--cut" ∷ []) ≡ None
cut_without_a_value = refl

-- selftest --cut 0
pub cut_is_the_number : meaning (codes "selftest" ∷ codes "--cut" ∷ codes "0" ∷ []) ≡ None
cut_is_the_number = refl

-- selftest --cut -1 0
pub cut_dashed : meaning (codes "selftest" ∷ codes "--cut" ∷ codes "-1" ∷ codes "0" ∷ []) ≡ None
cut_dashed = refl

-- selftest --cut=-1 0
pub cut_dashed_joined : meaning (codes "selftest" ∷ codes "--cut=-1" ∷ codes "0" ∷ []) ≡ None
cut_dashed_joined = refl

-- selftest --cut= 0
pub cut_empty_joined : meaning (codes "selftest" ∷ codes "--cut=" ∷ codes "0" ∷ []) ≡ None
cut_empty_joined = refl

-- selftest --cut -- 0
pub cut_of_the_end : meaning (codes "selftest" ∷ codes "--cut" ∷ codes "--" ∷ codes "0" ∷ []) ≡ None
cut_of_the_end = refl

-- selftest --cut img 0
pub cut_of_no_number : meaning (codes "selftest" ∷ codes "--cut" ∷ codes "img" ∷ codes "0" ∷ []) ≡ None
cut_of_no_number = refl

-- selftest 1 --cut 0000000001
pub cut_of_ten_digits : meaning (codes "selftest" ∷ codes "1" ∷ codes "--cut" ∷ codes "0000000001" ∷ []) ≡ Some (Selftest 1 (Some 1))
cut_of_ten_digits = refl

-- selftest 1 --cut 00000000001
pub cut_of_eleven_digits : meaning (codes "selftest" ∷ codes "1" ∷ codes "--cut" ∷ codes "00000000001" ∷ []) ≡ None
cut_of_eleven_digits = refl

-- selftest --cu 1 0
pub cut_shortened : meaning (codes "selftest" ∷ codes "--cu" ∷ codes "1" ∷ codes "0" ∷ []) ≡ None
cut_shortened = refl

-- selftest --CUT 1 0
pub cut_in_capitals : meaning (codes "selftest" ∷ codes "--CUT" ∷ codes "1" ∷ codes "0" ∷ []) ≡ None
cut_in_capitals = refl

-- selftest -c 1 0
pub cut_by_a_letter : meaning (codes "selftest" ∷ codes "-c" ∷ codes "1" ∷ codes "0" ∷ []) ≡ None
cut_by_a_letter = refl

-- selftest --cut 1073741825
pub cut_too_great_without_a_number : meaning (codes "selftest" ∷ codes "--cut" ∷ codes "1073741825" ∷ []) ≡ None
cut_too_great_without_a_number = refl

-- selftest 0 -- --cut=1
pub cut_behind_the_end : meaning (codes "selftest" ∷ codes "0" ∷ codes "--" ∷ codes "--cut=1" ∷ []) ≡ None
cut_behind_the_end = refl

-- selftes 0
pub selftest_shortened : meaning (codes "selftes" ∷ codes "0" ∷ []) ≡ None
selftest_shortened = refl

-- SELFTEST 0
pub selftest_in_capitals : meaning (codes "SELFTEST" ∷ codes "0" ∷ []) ≡ None
selftest_in_capitals = refl

-- --cut=1 selftest 0
pub cut_before_the_command : meaning (codes "--cut=1" ∷ codes "selftest" ∷ codes "0" ∷ []) ≡ None
cut_before_the_command = refl

-- ---- words that are empty or have a blank

-- an empty word is a positional, and no number
pub an_empty_image : meaning (codes "path" ∷ [] ∷ []) ≡ Some (Path (of_image []) (taken (sizes 16 1 4) Frames))
an_empty_image = refl

pub an_empty_value : meaning (codes "path" ∷ codes "--depth" ∷ [] ∷ codes "img" ∷ []) ≡ None
an_empty_value = refl

pub an_empty_command : meaning ([] ∷ codes "img" ∷ []) ≡ None
an_empty_command = refl

pub a_blank_behind_a_number : meaning (codes "path" ∷ codes "--depth" ∷ codes "4 " ∷ codes "img" ∷ []) ≡ None
a_blank_behind_a_number = refl

pub an_empty_number : meaning (codes "selftest" ∷ [] ∷ []) ≡ None
an_empty_number = refl

pub an_empty_cut : meaning (codes "selftest" ∷ codes "--cut" ∷ [] ∷ codes "0" ∷ []) ≡ None
an_empty_cut = refl

pub a_blank_before_a_number : meaning (codes "selftest" ∷ codes " 7" ∷ []) ≡ None
a_blank_before_a_number = refl

pub one_word_is_not_two : meaning (codes "path img" ∷ []) ≡ None
one_word_is_not_two = refl

-- ---- the image

pub no_image_of_no_command : image_of None ≡ None
no_image_of_no_command = refl

pub no_image_of_packets : image_of (meaning (codes "packets" ∷ codes "--" ∷ [])) ≡ None
no_image_of_packets = refl

pub image_of_a_path : image_of (meaning (codes "path" ∷ codes "--" ∷ codes "--raw" ∷ [])) ≡ Some (codes "--raw")
image_of_a_path = refl

pub image_of_a_retired_path : image_of (meaning (codes "retired" ∷ codes "img" ∷ [])) ≡ Some (codes "img")
image_of_a_retired_path = refl

pub image_of_traces : image_of (meaning (codes "trace" ∷ codes "img" ∷ [])) ≡ Some (codes "img")
image_of_traces = refl

pub no_image_of_a_number : image_of (meaning (codes "selftest" ∷ codes "--cut" ∷ codes "32" ∷ codes "0" ∷ [])) ≡ None
no_image_of_a_number = refl

-- ---- the program and the kind of a command

pub program_of_a_path : program_of (Path (of_image (codes "img")) (taken (sizes 16 1 4) Frames)) ≡ Some (of_image (codes "img"))
program_of_a_path = refl

pub no_program_of_packets : program_of (Packets (taken (sizes 16 1 4) Raw)) ≡ None
no_program_of_packets = refl

pub program_of_a_retired_path : program_of (Retired (of_image (codes "img"))) ≡ Some (of_image (codes "img"))
program_of_a_retired_path = refl

pub program_of_times : program_of (Times (taken (sizes 16 1 4) Frames)) ≡ None
program_of_times = refl

pub kind_of_times : kind_of (Some (Times (taken (sizes 16 1 4) Frames))) ≡ BareKind
kind_of_times = refl

pub program_of_traces : program_of (Trace (of_image (codes "img")) (Some 5) None) ≡ Some (of_image (codes "img"))
program_of_traces = refl

pub no_program_of_a_number : program_of (Selftest 5 (Some 32)) ≡ None
no_program_of_a_number = refl

pub kind_of_no_command : kind_of None ≡ NoCommand
kind_of_no_command = refl

pub kind_of_a_path : kind_of (Some (Path (of_image (codes "img")) (taken (sizes 16 1 4) Raw))) ≡ PathKind
kind_of_a_path = refl

pub kind_of_packets : kind_of (Some (Packets (taken (sizes 16 1 4) Frames))) ≡ BareKind
kind_of_packets = refl

pub kind_of_a_retired_path : kind_of (Some (Retired (of_image (codes "img")))) ≡ RunFileKind
kind_of_a_retired_path = refl

pub kind_of_traces : kind_of (Some (Trace (of_image (codes "img")) None None)) ≡ RunFileKind
kind_of_traces = refl

pub kind_of_a_number : kind_of (Some (Selftest 5 None)) ≡ NumberKind
kind_of_a_number = refl

-- ---- near misses, which are false

-- how a command takes its input; sizes of 0, and frames, where it takes none
abbrev intake_in : Option Command → Intake
intake_in (Some (Path program intake)) = intake
intake_in (Some (Counts program intake)) = intake
intake_in (Some (Packets intake)) = intake
intake_in (Some (Times intake)) = intake
intake_in (Some (Retired program)) = taken (sizes 0 0 0) Frames
intake_in (Some (Trace program last every)) = taken (sizes 0 0 0) Frames
intake_in (Some (Selftest n cut)) = taken (sizes 0 0 0) Frames
intake_in None = taken (sizes 0 0 0) Frames

abbrev depth_in : Option Command → ℕ
depth_in command = (sizes_at (intake_in command).units 1).depth

abbrev cid_in : Option Command → ℕ
cid_in command = (sizes_at (intake_in command).units 1).cid_bytes

abbrev layout_in : Option Command → Layout
layout_in command = (intake_in command).layout

-- the number that is told, 0 where none is
abbrev number_in : Option Command → ℕ
number_in (Some (Path program intake)) = 0
number_in (Some (Counts program intake)) = 0
number_in (Some (Packets intake)) = 0
number_in (Some (Times intake)) = 0
number_in (Some (Retired program)) = 0
number_in (Some (Trace program last every)) = 0
number_in (Some (Selftest n cut)) = n
number_in None = 0

-- the default of the depth is not 0
pub not_depth_0 : meaning (codes "path" ∷ codes "img" ∷ []) ≡ Some (Path (of_image (codes "img")) (taken (sizes 0 1 4) Frames)) → ⊥
not_depth_0 e = let same : ◌≡◌ {A = ℕ} 16 0 = ap depth_in e in absurd (omega (arith, same))

-- zeros in front of a number and behind it are not the same
pub not_a_number_with_zeros_behind :
    meaning (codes "path" ∷ codes "--depth=0000000016" ∷ codes "img" ∷ []) ≡ meaning (codes "path" ∷ codes "--depth=160" ∷ codes "img" ∷ []) → ⊥
not_a_number_with_zeros_behind e = let same : ◌≡◌ {A = ℕ} 16 160 = ap depth_in e in absurd (omega (arith, same))

-- an option and its number are no image
pub not_an_image : meaning (codes "path" ∷ codes "--vmid" ∷ codes "2" ∷ codes "img" ∷ []) ≡ Some (Path (of_image (codes "2")) (taken (sizes 16 1 4) Frames)) → ⊥
not_an_image e = let same : Some (codes "img") ≡ Some (codes "2") = ap image_of e in absurd cc

-- the sizes do not change places
pub not_the_context_id : meaning (codes "packets" ∷ codes "--vmid" ∷ codes "0" ∷ []) ≡ Some (Packets (taken (sizes 16 1 0) Frames)) → ⊥
not_the_context_id e = let same : ◌≡◌ {A = ℕ} 4 0 = ap cid_in e in absurd (omega (arith, same))

-- --raw tells the layout
pub not_frames : meaning (codes "path" ∷ codes "--raw" ∷ codes "img" ∷ []) ≡ meaning (codes "path" ∷ codes "img" ∷ []) → ⊥
not_frames e = let same : Raw ≡ Frames = ap layout_in e in absurd cc

-- a run file has no sizes in the words
pub not_a_path : meaning (codes "retired" ∷ codes "img" ∷ []) ≡ Some (Path (of_image (codes "img")) (taken (sizes 16 1 4) Frames)) → ⊥
not_a_path e = absurd cc

-- traces are not retired paths
pub not_retired : meaning (codes "trace" ∷ codes "img" ∷ []) ≡ Some (Retired (of_image (codes "img"))) → ⊥
not_retired e = absurd cc

pub not_raw : meaning (codes "packets" ∷ []) ≡ Some (Packets (taken (sizes 16 1 4) Raw)) → ⊥
not_raw e = let same : Frames ≡ Raw = ap layout_in e in absurd cc

-- what is cut is not the number
pub not_the_cut : meaning (codes "selftest" ∷ codes "--cut" ∷ codes "32" ∷ codes "0" ∷ []) ≡ Some (Selftest 32 (Some 0)) → ⊥
not_the_cut e = let same : ◌≡◌ {A = ℕ} 0 32 = ap number_in e in absurd (omega (arith, same))

-- all bytes are not none of them
pub not_cut_at_once : meaning (codes "selftest" ∷ codes "5" ∷ []) ≡ meaning (codes "selftest" ∷ codes "--cut=0" ∷ codes "5" ∷ []) → ⊥
not_cut_at_once e = absurd cc

-- a number is no image
pub not_traced : meaning (codes "selftest" ∷ codes "5" ∷ []) ≡ Some (Trace (of_image (codes "5")) None None) → ⊥
not_traced e = absurd cc

-- times are asked for, and not packets, whose depth does not count
pub not_packets : meaning (codes "times" ∷ []) ≡ meaning (codes "packets" ∷ []) → ⊥
not_packets e = let same : name_in (meaning (codes "times" ∷ [])) ≡ name_in (meaning (codes "packets" ∷ [])) = ap name_in e in absurd cc
  where
    name_in : Option Command → ℕ
    name_in (Some (Times intake)) = 1
    name_in other = 0
