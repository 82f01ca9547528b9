-- Command lines that tell synchronisation packets among frames, and a program that is an ELF file; and near misses.
use Rattle.std.proofs.Common.{◌≡◌, ℕ, List, [], ◌∷◌, codes, Option, Some, None, replicate, refl, ap, arith}
use Rattle.etm_types.specs.Settings.{Sizes}
use Rattle.command_words.specs.declared.words.CommandOption.TheVariants as option
use Rattle.command_words.specs.declared.words.Layout.{Layout}
use Rattle.command_words.specs.declared.words.Layout.TheVariants.{Frames, Synced, Wrapped}
use Rattle.command_words.specs.declared.words.ProgramForm.{ProgramForm}
use Rattle.command_words.specs.declared.words.ProgramForm.TheVariants as form
use Rattle.command_words.specs.CommandLines.{Apart, Flag, IsCount, IsForm, IsLayout, Joined, values_of}
use Rattle.command_words.specs.Said.{IsCountTo}
use Rattle.command_words.specs.Words.{Command, Counts, Intake, Packets, Path, Program, Retired, Selftest, Times, Trace, image_of, meaning, most_every}

abbrev sizes : ℕ → ℕ → ℕ → Sizes
sizes depth vmid cid = record { depth = depth; vmid_bytes = vmid; cid_bytes = cid }

abbrev of_file : ProgramForm → List ℕ → Program
of_file file name = record { name = name; form = file }

-- all IDs have the same sizes
abbrev taken : Sizes → Layout → Intake
taken all layout = record { units = replicate 111 all; layout = layout }

-- ---- an input with synchronisation packets: a flag

-- path --sync img
pub path_of_a_port : meaning (codes "path" ∷ codes "--sync" ∷ codes "img" ∷ [])
    ≡ Some (Path (of_file form.Text (codes "img")) (taken (sizes 16 1 4) Synced))
path_of_a_port = refl

-- path img --cid 0 --sync --depth=4 --vmid 0
pub path_of_a_port_with_sizes :
    meaning (codes "path" ∷ codes "img" ∷ codes "--cid" ∷ codes "0" ∷ codes "--sync" ∷ codes "--depth=4" ∷ codes "--vmid" ∷ codes "0" ∷ [])
    ≡ Some (Path (of_file form.Text (codes "img")) (taken (sizes 4 0 0) Synced))
path_of_a_port_with_sizes = refl

-- packets --sync
pub packets_of_a_port : meaning (codes "packets" ∷ codes "--sync" ∷ []) ≡ Some (Packets (taken (sizes 16 1 4) Synced))
packets_of_a_port = refl

-- path -- --sync
pub image_like_the_flag : meaning (codes "path" ∷ codes "--" ∷ codes "--sync" ∷ [])
    ≡ Some (Path (of_file form.Text (codes "--sync")) (taken (sizes 16 1 4) Frames))
image_like_the_flag = refl

-- path --sync=1 img
pub flag_with_a_value : meaning (codes "path" ∷ codes "--sync=1" ∷ codes "img" ∷ []) ≡ None
flag_with_a_value = refl

-- path --sync 1 img
pub flag_before_two_images : meaning (codes "path" ∷ codes "--sync" ∷ codes "1" ∷ codes "img" ∷ []) ≡ None
flag_before_two_images = refl

-- packets --sync=
pub flag_with_an_empty_value : meaning (codes "packets" ∷ codes "--sync=" ∷ []) ≡ None
flag_with_an_empty_value = refl

-- packets --sync --sync
pub flag_twice : meaning (codes "packets" ∷ codes "--sync" ∷ codes "--sync" ∷ []) ≡ None
flag_twice = refl

-- path --syn img
pub flag_shortened : meaning (codes "path" ∷ codes "--syn" ∷ codes "img" ∷ []) ≡ None
flag_shortened = refl

-- path --sync-every 1 img
pub no_such_name : meaning (codes "path" ∷ codes "--sync-every" ∷ codes "1" ∷ codes "img" ∷ []) ≡ None
no_such_name = refl

-- path --sync --raw img
pub port_of_one_stream : meaning (codes "path" ∷ codes "--sync" ∷ codes "--raw" ∷ codes "img" ∷ []) ≡ None
port_of_one_stream = refl

-- packets --raw --sync
pub packets_of_one_stream_at_a_port : meaning (codes "packets" ∷ codes "--raw" ∷ codes "--sync" ∷ []) ≡ None
packets_of_one_stream_at_a_port = refl

-- path --sync --wrap 0 img
pub port_of_a_buffer : meaning (codes "path" ∷ codes "--sync" ∷ codes "--wrap" ∷ codes "0" ∷ codes "img" ∷ []) ≡ None
port_of_a_buffer = refl

-- packets --wrap=1 --sync
pub packets_of_a_buffer_at_a_port : meaning (codes "packets" ∷ codes "--wrap=1" ∷ codes "--sync" ∷ []) ≡ None
packets_of_a_buffer_at_a_port = refl

-- ---- frames that are written with synchronisation packets: a number

-- trace --sync 1 img
pub before_each_frame : meaning (codes "trace" ∷ codes "--sync" ∷ codes "1" ∷ codes "img" ∷ [])
    ≡ Some (Trace (of_file form.Text (codes "img")) None (Some 1))
before_each_frame = refl

-- trace img --sync=65535
pub most_frames_between : meaning (codes "trace" ∷ codes "img" ∷ codes "--sync=65535" ∷ [])
    ≡ Some (Trace (of_file form.Text (codes "img")) None (Some 65535))
most_frames_between = refl

-- trace --sync 3 --last 2 img
pub among_the_last_frames : meaning (codes "trace" ∷ codes "--sync" ∷ codes "3" ∷ codes "--last" ∷ codes "2" ∷ codes "img" ∷ [])
    ≡ Some (Trace (of_file form.Text (codes "img")) (Some 2) (Some 3))
among_the_last_frames = refl

-- trace --sync 0 img
pub no_frame_between : meaning (codes "trace" ∷ codes "--sync" ∷ codes "0" ∷ codes "img" ∷ []) ≡ None
no_frame_between = refl

-- trace --sync 65536 img
pub too_many_frames_between : meaning (codes "trace" ∷ codes "--sync" ∷ codes "65536" ∷ codes "img" ∷ []) ≡ None
too_many_frames_between = refl

-- trace --sync=4294967297 img
pub frames_of_four_gibi_between : meaning (codes "trace" ∷ codes "--sync=4294967297" ∷ codes "img" ∷ []) ≡ None
frames_of_four_gibi_between = refl

-- trace --sync img
pub image_is_no_count : meaning (codes "trace" ∷ codes "--sync" ∷ codes "img" ∷ []) ≡ None
image_is_no_count = refl

-- trace img --sync
pub count_missing : meaning (codes "trace" ∷ codes "img" ∷ codes "--sync" ∷ []) ≡ None
count_missing = refl

-- trace --sync 1 --sync=2 img
pub count_twice : meaning (codes "trace" ∷ codes "--sync" ∷ codes "1" ∷ codes "--sync=2" ∷ codes "img" ∷ []) ≡ None
count_twice = refl

-- retired --sync 1 img
pub retired_at_a_port : meaning (codes "retired" ∷ codes "--sync" ∷ codes "1" ∷ codes "img" ∷ []) ≡ None
retired_at_a_port = refl

-- selftest --sync 1 0
pub number_at_a_port : meaning (codes "selftest" ∷ codes "--sync" ∷ codes "1" ∷ codes "0" ∷ []) ≡ None
number_at_a_port = refl

-- ---- a program that is an ELF file

-- path --elf prog
pub path_over_an_elf_file : meaning (codes "path" ∷ codes "--elf" ∷ codes "prog" ∷ [])
    ≡ Some (Path (of_file form.Elf (codes "prog")) (taken (sizes 16 1 4) Frames))
path_over_an_elf_file = refl

-- path prog --wrap 3 --elf
pub path_of_a_buffer_over_an_elf_file : meaning (codes "path" ∷ codes "prog" ∷ codes "--wrap" ∷ codes "3" ∷ codes "--elf" ∷ [])
    ≡ Some (Path (of_file form.Elf (codes "prog")) (taken (sizes 16 1 4) (Wrapped 3)))
path_of_a_buffer_over_an_elf_file = refl

-- retired --elf prog
pub retired_over_an_elf_file : meaning (codes "retired" ∷ codes "--elf" ∷ codes "prog" ∷ []) ≡ Some (Retired (of_file form.Elf (codes "prog")))
retired_over_an_elf_file = refl

-- trace --elf --sync 2 --last=9 prog
pub trace_over_an_elf_file : meaning (codes "trace" ∷ codes "--elf" ∷ codes "--sync" ∷ codes "2" ∷ codes "--last=9" ∷ codes "prog" ∷ [])
    ≡ Some (Trace (of_file form.Elf (codes "prog")) (Some 9) (Some 2))
trace_over_an_elf_file = refl

-- trace -- --elf
pub image_like_the_elf_flag : meaning (codes "trace" ∷ codes "--" ∷ codes "--elf" ∷ []) ≡ Some (Trace (of_file form.Text (codes "--elf")) None None)
image_like_the_elf_flag = refl

pub name_of_an_elf_file : image_of (meaning (codes "retired" ∷ codes "--elf" ∷ codes "prog" ∷ [])) ≡ Some (codes "prog")
name_of_an_elf_file = refl

-- path --elf
pub elf_file_missing : meaning (codes "path" ∷ codes "--elf" ∷ []) ≡ None
elf_file_missing = refl

-- path --elf=prog
pub elf_with_a_value : meaning (codes "path" ∷ codes "--elf=prog" ∷ []) ≡ None
elf_with_a_value = refl

-- retired --elf --elf prog
pub elf_twice : meaning (codes "retired" ∷ codes "--elf" ∷ codes "--elf" ∷ codes "prog" ∷ []) ≡ None
elf_twice = refl

-- packets --elf
pub packets_of_an_elf_file : meaning (codes "packets" ∷ codes "--elf" ∷ []) ≡ None
packets_of_an_elf_file = refl

-- selftest --elf 0
pub number_of_an_elf_file : meaning (codes "selftest" ∷ codes "--elf" ∷ codes "0" ∷ []) ≡ None
number_of_an_elf_file = refl

-- ---- what the values of the options stand for

-- the flag and the option of one name are two
pub value_is_not_of_the_flag : values_of option.Sync (Apart option.SyncEvery (codes "1") ∷ Joined option.SyncEvery (codes "2") ∷ []) ≡ []
value_is_not_of_the_flag = refl

pub flag_is_not_of_the_option : values_of option.SyncEvery (Flag option.Sync ∷ []) ≡ []
flag_is_not_of_the_option = refl

pub flag_stands_twice : values_of option.Sync (Flag option.Sync ∷ Flag option.Elf ∷ Flag option.Sync ∷ []) ≡ [] ∷ [] ∷ []
flag_stands_twice = refl

pub no_layout_of_two_syncs : IsLayout [] [] ([] ∷ [] ∷ []) Synced → ⊥
no_layout_of_two_syncs is = is

pub no_layout_of_a_port_and_one_stream : IsLayout ([] ∷ []) [] ([] ∷ []) Synced → ⊥
no_layout_of_a_port_and_one_stream is = is

pub no_layout_of_a_port_and_a_place : IsLayout [] (codes "1" ∷ []) ([] ∷ []) Synced → ⊥
no_layout_of_a_port_and_a_place is = is

pub not_without_synchronisation : IsLayout [] [] ([] ∷ []) Frames → ⊥
not_without_synchronisation is = absurd cc

pub not_a_text : IsForm ([] ∷ []) form.Text → ⊥
not_a_text is = absurd cc

pub not_an_elf_file : IsForm [] form.Elf → ⊥
not_an_elf_file is = absurd cc

pub no_form_of_two_flags : IsForm ([] ∷ [] ∷ []) form.Elf → ⊥
no_form_of_two_flags is = is

pub no_count_of_two : IsCount most_every (codes "1" ∷ codes "1" ∷ []) (Some 1) → ⊥
no_count_of_two is = is

pub not_past_the_most : IsCountTo most_every (Some 65536) → ⊥
not_past_the_most are = absurd (omega (arith, are.1))

-- ---- near misses, which are false

-- which frames a trace writes
abbrev counts_in : Option Command → List (Option ℕ)
counts_in (Some (Trace program last every)) = last ∷ every ∷ []
counts_in (Some (Path program intake)) = []
counts_in (Some (Counts program intake)) = []
counts_in (Some (Packets intake)) = []
counts_in (Some (Times intake)) = []
counts_in (Some (Retired program)) = []
counts_in (Some (Selftest n cut)) = []
counts_in None = []

-- how many frames stand between is not how many are written
pub not_the_other_count : meaning (codes "trace" ∷ codes "--sync" ∷ codes "1" ∷ codes "img" ∷ [])
    ≡ meaning (codes "trace" ∷ codes "--last" ∷ codes "1" ∷ codes "img" ∷ []) → ⊥
not_the_other_count e = let same : ◌≡◌ {A = List (Option ℕ)} (None ∷ Some 1 ∷ []) (Some 1 ∷ None ∷ []) = ap counts_in e in absurd cc

-- what the file of a program is, and how an input is laid out
abbrev form_in : Option Command → ProgramForm
form_in (Some (Path program intake)) = program.form
form_in (Some (Counts program intake)) = program.form
form_in (Some (Retired program)) = program.form
form_in (Some (Trace program last every)) = program.form
form_in (Some (Packets intake)) = form.Text
form_in (Some (Times intake)) = form.Text
form_in (Some (Selftest n cut)) = form.Text
form_in None = form.Text

abbrev layout_in : Option Command → Layout
layout_in (Some (Path program intake)) = intake.layout
layout_in (Some (Counts program intake)) = intake.layout
layout_in (Some (Packets intake)) = intake.layout
layout_in (Some (Times intake)) = intake.layout
layout_in (Some (Retired program)) = Frames
layout_in (Some (Trace program last every)) = Frames
layout_in (Some (Selftest n cut)) = Frames
layout_in None = Frames

pub not_the_text_of_an_image : meaning (codes "path" ∷ codes "--elf" ∷ codes "prog" ∷ []) ≡ meaning (codes "path" ∷ codes "prog" ∷ []) → ⊥
not_the_text_of_an_image e = let same : form.Elf ≡ form.Text = ap form_in e in absurd cc

pub not_frames_in_order : meaning (codes "packets" ∷ codes "--sync" ∷ []) ≡ meaning (codes "packets" ∷ []) → ⊥
not_frames_in_order e = let same : Synced ≡ Frames = ap layout_in e in absurd cc
