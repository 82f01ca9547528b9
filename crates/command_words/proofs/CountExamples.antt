-- Command lines that ask for the counts of paths; and near misses.
use Rattle.std.proofs.Common.{◌≡◌, ℕ, true, false, List, [], ◌∷◌, codes, Some, None, replicate, refl}
use Rattle.hex.specs.Hex.{decode_pairs}
use Rattle.etm_types.specs.Settings.{Sizes}
use Rattle.command_words.specs.declared.words.CommandOption.TheVariants as option
use Rattle.command_words.specs.declared.words.Layout.{Layout}
use Rattle.command_words.specs.declared.words.Layout.TheVariants.{Frames, Raw, Synced, Wrapped}
use Rattle.command_words.specs.declared.words.ProgramForm.{ProgramForm}
use Rattle.command_words.specs.declared.words.ProgramForm.TheVariants as form
use Rattle.command_words.specs.CommandLines.{Flag, IsCounted, values_of}
use Rattle.command_words.specs.Words.{Counts, Intake, Path, PathKind, Program, image_of, kind_of, meaning, program_of}

abbrev sizes : ℕ → ℕ → ℕ → Sizes
sizes depth vmid cid = record { depth = depth; vmid_bytes = vmid; cid_bytes = cid }

abbrev of_file : ProgramForm → List ℕ → Program
of_file file name = record { name = name; form = file }

-- all IDs have the same sizes
abbrev taken : Sizes → Layout → Intake
taken all layout = record { units = replicate 111 all; layout = layout }

-- ---- a flag in any place

-- path --count img
pub counts_of_frames : meaning (codes "path" ∷ codes "--count" ∷ codes "img" ∷ [])
    ≡ Some (Counts (of_file form.Text (codes "img")) (taken (sizes 16 1 4) Frames))
counts_of_frames = refl

-- path img --count
pub counts_behind_the_image : meaning (codes "path" ∷ codes "img" ∷ codes "--count" ∷ [])
    ≡ Some (Counts (of_file form.Text (codes "img")) (taken (sizes 16 1 4) Frames))
counts_behind_the_image = refl

-- path --count --raw --depth 4 img
pub counts_of_one_stream : meaning (codes "path" ∷ codes "--count" ∷ codes "--raw" ∷ codes "--depth" ∷ codes "4" ∷ codes "img" ∷ [])
    ≡ Some (Counts (of_file form.Text (codes "img")) (taken (sizes 4 1 4) Raw))
counts_of_one_stream = refl

-- path --vmid=2 --sync --count --cid 0 --elf prog
pub counts_of_a_port :
    meaning (codes "path" ∷ codes "--vmid=2" ∷ codes "--sync" ∷ codes "--count" ∷ codes "--cid" ∷ codes "0" ∷ codes "--elf" ∷ codes "prog" ∷ [])
    ≡ Some (Counts (of_file form.Elf (codes "prog")) (taken (sizes 16 2 0) Synced))
counts_of_a_port = refl

-- path --wrap 3 img --count
pub counts_of_a_buffer : meaning (codes "path" ∷ codes "--wrap" ∷ codes "3" ∷ codes "img" ∷ codes "--count" ∷ [])
    ≡ Some (Counts (of_file form.Text (codes "img")) (taken (sizes 16 1 4) (Wrapped 3)))
counts_of_a_buffer = refl

-- path --settings 01:0:2:0 --count --vmid 0 img
pub counts_by_a_list :
    meaning (codes "path" ∷ codes "--settings" ∷ codes "01:0:2:0" ∷ codes "--count" ∷ codes "--vmid" ∷ codes "0" ∷ codes "img" ∷ [])
    ≡ Some (Counts (of_file form.Text (codes "img")) (record { units = sizes 0 2 0 ∷ replicate 110 (sizes 16 0 4); layout = Frames }))
unfolding decode_pairs
counts_by_a_list = refl

-- path --count -- img
pub counts_before_the_end : meaning (codes "path" ∷ codes "--count" ∷ codes "--" ∷ codes "img" ∷ [])
    ≡ Some (Counts (of_file form.Text (codes "img")) (taken (sizes 16 1 4) Frames))
counts_before_the_end = refl

-- path -- --count
pub image_like_the_flag : meaning (codes "path" ∷ codes "--" ∷ codes "--count" ∷ [])
    ≡ Some (Path (of_file form.Text (codes "--count")) (taken (sizes 16 1 4) Frames))
image_like_the_flag = refl

-- path --count -- --count
pub counts_over_an_image_like_the_flag : meaning (codes "path" ∷ codes "--count" ∷ codes "--" ∷ codes "--count" ∷ [])
    ≡ Some (Counts (of_file form.Text (codes "--count")) (taken (sizes 16 1 4) Frames))
counts_over_an_image_like_the_flag = refl

-- ---- words that mean nothing

-- path --count
pub image_missing : meaning (codes "path" ∷ codes "--count" ∷ []) ≡ None
image_missing = refl

-- path --count --count img
pub flag_twice : meaning (codes "path" ∷ codes "--count" ∷ codes "--count" ∷ codes "img" ∷ []) ≡ None
flag_twice = refl

-- path --count img --count
pub flag_on_both_sides : meaning (codes "path" ∷ codes "--count" ∷ codes "img" ∷ codes "--count" ∷ []) ≡ None
flag_on_both_sides = refl

-- path --count=1 img
pub flag_with_a_value : meaning (codes "path" ∷ codes "--count=1" ∷ codes "img" ∷ []) ≡ None
flag_with_a_value = refl

-- path --count= img
pub flag_with_an_empty_value : meaning (codes "path" ∷ codes "--count=" ∷ codes "img" ∷ []) ≡ None
flag_with_an_empty_value = refl

-- path --count 1 img
pub flag_before_two_images : meaning (codes "path" ∷ codes "--count" ∷ codes "1" ∷ codes "img" ∷ []) ≡ None
flag_before_two_images = refl

-- path img -- --count
pub flag_behind_the_end : meaning (codes "path" ∷ codes "img" ∷ codes "--" ∷ codes "--count" ∷ []) ≡ None
flag_behind_the_end = refl

-- path --depth --count img
pub flag_is_no_depth : meaning (codes "path" ∷ codes "--depth" ∷ codes "--count" ∷ codes "img" ∷ []) ≡ None
flag_is_no_depth = refl

-- path --count --depth 16385 img
pub counts_too_deep : meaning (codes "path" ∷ codes "--count" ∷ codes "--depth" ∷ codes "16385" ∷ codes "img" ∷ []) ≡ None
counts_too_deep = refl

-- path --count --raw --wrap 0 img
pub counts_of_two_layouts : meaning (codes "path" ∷ codes "--count" ∷ codes "--raw" ∷ codes "--wrap" ∷ codes "0" ∷ codes "img" ∷ []) ≡ None
counts_of_two_layouts = refl

-- path --coun img
pub flag_shortened : meaning (codes "path" ∷ codes "--coun" ∷ codes "img" ∷ []) ≡ None
flag_shortened = refl

-- path --counts img
pub flag_lengthened : meaning (codes "path" ∷ codes "--counts" ∷ codes "img" ∷ []) ≡ None
flag_lengthened = refl

-- path -c img
pub flag_by_a_letter : meaning (codes "path" ∷ codes "-c" ∷ codes "img" ∷ []) ≡ None
flag_by_a_letter = refl

-- count img
pub flag_is_no_command : meaning (codes "count" ∷ codes "img" ∷ []) ≡ None
flag_is_no_command = refl

-- --count path img
pub flag_before_the_command : meaning (codes "--count" ∷ codes "path" ∷ codes "img" ∷ []) ≡ None
flag_before_the_command = refl

-- packets --count
pub counts_of_packets : meaning (codes "packets" ∷ codes "--count" ∷ []) ≡ None
counts_of_packets = refl

-- times --count
pub counts_of_times : meaning (codes "times" ∷ codes "--count" ∷ []) ≡ None
counts_of_times = refl

-- retired --count img
pub counts_of_a_retired_path : meaning (codes "retired" ∷ codes "--count" ∷ codes "img" ∷ []) ≡ None
counts_of_a_retired_path = refl

-- trace --count img
pub counts_of_a_trace : meaning (codes "trace" ∷ codes "--count" ∷ codes "img" ∷ []) ≡ None
counts_of_a_trace = refl

-- selftest --count 0
pub counts_of_a_number : meaning (codes "selftest" ∷ codes "--count" ∷ codes "0" ∷ []) ≡ None
counts_of_a_number = refl

-- ---- the program and the kind

pub image_of_counts : image_of (meaning (codes "path" ∷ codes "--count" ∷ codes "img" ∷ [])) ≡ Some (codes "img")
image_of_counts = refl

pub program_of_counts : program_of (Counts (of_file form.Elf (codes "prog")) (taken (sizes 16 1 4) Raw)) ≡ Some (of_file form.Elf (codes "prog"))
program_of_counts = refl

pub kind_of_counts : kind_of (Some (Counts (of_file form.Text (codes "img")) (taken (sizes 16 1 4) Frames))) ≡ PathKind
kind_of_counts = refl

-- ---- what the flag stands for

pub flag_stands_twice : values_of option.Count (Flag option.Count ∷ Flag option.Elf ∷ Flag option.Count ∷ []) ≡ [] ∷ [] ∷ []
flag_stands_twice = refl

pub other_flags_are_not_this : values_of option.Count (Flag option.Raw ∷ Flag option.Sync ∷ Flag option.Elf ∷ []) ≡ []
other_flags_are_not_this = refl

pub counts_are_no_lines : IsCounted ([] ∷ []) false → ⊥
counts_are_no_lines is = absurd cc

pub lines_are_no_counts : IsCounted [] true → ⊥
lines_are_no_counts is = absurd cc

pub no_counts_of_two_flags : IsCounted ([] ∷ [] ∷ []) true → ⊥
no_counts_of_two_flags is = is

-- ---- near misses, which are false

-- without the flag, the paths are asked for
pub not_counts : meaning (codes "path" ∷ codes "img" ∷ []) ≡ Some (Counts (of_file form.Text (codes "img")) (taken (sizes 16 1 4) Frames)) → ⊥
not_counts e = absurd cc

-- and with it, they are not
pub not_a_path : meaning (codes "path" ∷ codes "--count" ∷ codes "img" ∷ []) ≡ Some (Path (of_file form.Text (codes "img")) (taken (sizes 16 1 4) Frames)) → ⊥
not_a_path e = absurd cc

pub not_the_same : meaning (codes "path" ∷ codes "--count" ∷ codes "img" ∷ []) ≡ meaning (codes "path" ∷ codes "img" ∷ []) → ⊥
not_the_same e = absurd cc
