-- Calls with their programs, layouts, sizes and answers, and near misses.
use Rattle.std.proofs.Common.{◌≡◌, ℕ, List, [], ◌∷◌, ◌++◌, codes, length, Some, None, replicate, refl, ap, arith}
use Rattle.std.specs.Prelude.{get_or, slice_set}
use Rattle.etm_types.specs.Settings.{Sizes}
use Rattle.answer_lines.specs.UsageLine.{usage_line}
use Rattle.answer_lines.specs.declared.status.Status.TheVariants as status
use Rattle.command_words.specs.Words.{Intake, Program, meaning}
use Rattle.command_words.specs.declared.words.Layout.{Layout}
use Rattle.command_words.specs.declared.words.Layout.TheVariants.{Raw, Frames, Wrapped, Synced}
use Rattle.command_words.specs.declared.words.ProgramForm.TheVariants as form
use Rattle.elf_image.specs.declared.fault.ElfWhy.TheVariants.{Header}
use Rattle.path_text.specs.Lines.{in_base}
use Rattle.program_image.specs.declared.fault.ImageWhy.TheVariants.{Unaligned}
use Rattle.trace_cmd.specs.Answers.{Answers, IsTraceOf, call}
use Rattle.trace_cmd.specs.Printing.{PacketsOf, laid_of, sizes_by}
use Rattle.trace_cmd.specs.Programs.{BadFile, BadText, IsRefused, line_of, most_taken, program_named}
use Rattle.trace_io.specs.State.{IoState}

-- ---- command lines

abbrev path_words : List (List ℕ)
path_words = codes "path" ∷ codes "--raw" ∷ codes "img" ∷ []

abbrev packets_words : List (List ℕ)
packets_words = codes "packets" ∷ []

abbrev retired_words : List (List ℕ)
retired_words = codes "retired" ∷ codes "img" ∷ []

abbrev trace_words : List (List ℕ)
trace_words = codes "trace" ∷ codes "img" ∷ []

abbrev last_words : List (List ℕ)
last_words = codes "trace" ∷ codes "--last" ∷ codes "2" ∷ codes "img" ∷ []

abbrev number_words : List (List ℕ)
number_words = codes "selftest" ∷ codes "7" ∷ []

abbrev unknown_words : List (List ℕ)
unknown_words = codes "pat" ∷ codes "img" ∷ []

abbrev synced_words : List (List ℕ)
synced_words = codes "trace" ∷ codes "--sync" ∷ codes "3" ∷ codes "--elf" ∷ codes "img" ∷ []

abbrev elf_words : List (List ℕ)
elf_words = codes "path" ∷ codes "--elf" ∷ codes "--sync" ∷ codes "img" ∷ []

abbrev img : Program
img = record { name = codes "img"; form = form.Text }

abbrev elf : Program
elf = record { name = codes "img"; form = form.Elf }

-- ---- programs

-- of each command that names one, and of none that does not
pub of_path : program_named path_words ≡ Some img
of_path = refl

pub of_retired : program_named retired_words ≡ Some img
of_retired = refl

pub of_trace : program_named trace_words ≡ Some img
of_trace = refl

pub of_last : program_named last_words ≡ Some img
of_last = refl

pub of_synced : program_named synced_words ≡ Some elf
of_synced = refl

pub of_packets : program_named packets_words ≡ None
of_packets = refl

pub of_number : program_named number_words ≡ None
of_number = refl

-- all frames of a trace are asked for, or the last two, or with a synchronisation packet behind each third
pub all_frames : IsTraceOf None None trace_words
all_frames = (img, refl)

pub last_two_frames : IsTraceOf (Some 2) None last_words
last_two_frames = (img, refl)

pub synced_by_threes : IsTraceOf None (Some 3) synced_words
synced_by_threes = (elf, refl)

pub no_last_word : IsTraceOf (Some 2) None trace_words → ⊥
no_last_word (p, is) = absurd cc

pub not_all_frames : IsTraceOf None None last_words → ⊥
not_all_frames (p, is) = absurd cc

pub not_the_last_three : IsTraceOf (Some 3) None synced_words → ⊥
not_the_last_three (p, is) = absurd cc

-- a byte more than 64 MiB of a text, or than 256 MiB of an ELF file, and nothing of no program
pub most_of_path : most_taken path_words ≡ 67108865
most_of_path = refl

pub most_of_elf : most_taken elf_words ≡ 268435457
most_of_elf = refl

pub most_of_packets : most_taken packets_words ≡ 0
most_of_packets = refl

-- the line of a text that spells no image
pub line_of_unaligned : line_of (BadText 3 Unaligned) ≡ codes "image line 3: unaligned" ++ 10 ∷ []
unfolding in_base
line_of_unaligned = refl

-- and of an ELF file that spells none
pub line_of_header : line_of (BadFile Header) ≡ codes "elf: header" ++ 10 ∷ []
line_of_header = refl

-- a file is one of the two: a text is refused by its line, an ELF file by its reason
pub no_line_of_a_file : IsRefused elf [] (BadText 0 Unaligned) → ⊥
no_line_of_a_file is = is

pub no_reason_of_a_text : IsRefused img [] (BadFile Header) → ⊥
no_reason_of_a_text is = is

-- ---- inputs

abbrev all : Sizes
all = record { depth = 8; vmid_bytes = 2; cid_bytes = 0 }

abbrev sizes_of_last : Sizes
sizes_of_last = record { depth = 3; vmid_bytes = 4; cid_bytes = 4 }

-- the last ID has sizes of its own
abbrev taken : Layout → Intake
taken layout = record { units = slice_set (replicate 111 all) 110 sizes_of_last; layout = layout }

-- with `--raw` each byte is of stream 01, at once
pub raw_bytes : (laid_of (PacketsOf (taken Raw))).carried (8 ∷ 9 ∷ []) ≡ (1, 8) ∷ (1, 9) ∷ []
raw_bytes = refl

-- and of a frame nothing, before it is whole
pub framed_bytes : (laid_of (PacketsOf (taken Frames))).carried (8 ∷ 9 ∷ []) ≡ []
framed_bytes = refl

pub framed_left : (laid_of (PacketsOf (taken Frames))).left (8 ∷ 9 ∷ []) ≡ 2
framed_left = refl

-- A buffer that was written round: a frame of ID 02, and behind it an older one, of ID 01.
abbrev newer : List ℕ
newer = 0x05 ∷ 41 ∷ replicate 14 0

abbrev older : List ℕ
older = 0x03 ∷ 40 ∷ replicate 14 0

abbrev buffer : List ℕ
buffer = newer ++ older

abbrev of_older : List (ℕ × ℕ)
of_older = (1, 40) ∷ replicate 13 (1, 0)

abbrev of_newer : List (ℕ × ℕ)
of_newer = (2, 41) ∷ replicate 13 (2, 0)

-- what is carried from its oldest frame on comes with the bytes, and the rest at the end
pub wrapped_bytes : (laid_of (PacketsOf (taken (Wrapped 1)))).carried buffer ≡ of_older
wrapped_bytes = refl

pub wrapped_whole : (laid_of (PacketsOf (taken (Wrapped 1)))).whole buffer ≡ of_older ++ of_newer
wrapped_whole = refl

pub wrapped_left : (laid_of (PacketsOf (taken (Wrapped 1)))).left (buffer ++ 8 ∷ 9 ∷ []) ≡ 2
wrapped_left = refl

-- it does not come in the order of frames that were not written round, nor with another oldest frame
abbrev first_id : List (ℕ × ℕ) → ℕ
first_id pairs = (get_or pairs 0 (0, 0)).0

pub not_in_order : (laid_of (PacketsOf (taken Frames))).whole buffer ≡ of_older ++ of_newer → ⊥
not_in_order e = absurd (omega (arith, ap first_id e))

pub another_oldest : (laid_of (PacketsOf (taken (Wrapped 0)))).whole buffer ≡ of_older ++ of_newer → ⊥
another_oldest e = absurd (omega (arith, ap first_id e))

-- and before the end no more is carried
pub not_before_the_end : (laid_of (PacketsOf (taken (Wrapped 1)))).carried buffer ≡ of_older ++ of_newer → ⊥
not_before_the_end e = absurd (omega (arith, ap length e))

-- of a trace port nothing comes before a full synchronisation packet, and packets are no bytes of frames
abbrev port : List ℕ
port = 0x05 ∷ 0xff ∷ 0xff ∷ 0xff ∷ 0x7f ∷ (newer ++ 0xff ∷ 0xff ∷ 0xff ∷ 0x7f ∷ older)

pub port_bytes : (laid_of (PacketsOf (taken Synced))).carried port ≡ of_newer ++ of_older
port_bytes = refl

pub port_whole : (laid_of (PacketsOf (taken Synced))).whole port ≡ of_newer ++ of_older
port_whole = refl

pub port_unsynced : (laid_of (PacketsOf (taken Synced))).carried buffer ≡ []
port_unsynced = refl

-- bytes that might have been of a packet are left over
pub port_left : (laid_of (PacketsOf (taken Synced))).left (port ++ 0xff ∷ 0xff ∷ 0xff ∷ []) ≡ 3
port_left = refl

pub port_not_as_frames : (laid_of (PacketsOf (taken Frames))).carried port ≡ of_newer ++ of_older → ⊥
port_not_as_frames e = absurd (omega (arith, ap length e))

-- each stream has the sizes of its ID
pub sizes_of_110 : sizes_by (taken Frames) 110 ≡ all
sizes_of_110 = refl

pub sizes_of_111 : sizes_by (taken Frames) 111 ≡ sizes_of_last
sizes_of_111 = refl

-- ---- answers

abbrev showing : List ℕ → IoState
showing bytes = record { bytes = Some bytes; faults = 0 }

-- words that mean nothing have the line of usage, behind what was written before
pub usage_answered :
    Answers (call unknown_words (showing []) (showing []) (showing []) (showing [])) (showing (65 ∷ [])) (showing (65 ∷ usage_line)) status.Usage
usage_answered = (usage_line, record { meaningless = refl; printed = refl }, refl)

-- and no other words have it
pub no_usage_of_packets : (c c' i i' out out' : IoState) → Answers (call packets_words c c' i i') out out' status.Usage → ⊥
no_usage_of_packets c c' i i' out out' (text, is, printed) = by is.meaningless
  where
    by : meaning packets_words ≡ None → ⊥
    by same = absurd cc
