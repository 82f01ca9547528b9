-- For each answer of a call a small world in which it is the answer, and near it worlds, texts and answers that do not fit together. What is
-- printed is written out by hand from docs/FORMATS.md.
use Rattle.std.proofs.Common.{◌≡◌, ◌⊎◌, ℕ, ◌<◌, Bool, true, false, List, [], ◌∷◌, ◌++◌, length, Option, Some, None, Result, Ok, Err, refl, sym, ap, subst, ◌∙◌}
use Rattle.std.proofs.Common.{append-nil, arith, codes, inl, inr, length-append, map, replicate}
use Rattle.std.specs.Prelude.{All, ◌||◌, drop, get_or, nat_lt, take}
use Rattle.std.proofs.lemmas.List.Elements.{All-map}
use Rattle.std.specs.Str.{chars, is_utf8}
use Rattle.answer_lines.specs.declared.status.Status.TheVariants as status
use Rattle.run_file.specs.declared.fault.BenchWhy.{BenchWhy}
use Rattle.command_words.specs.Words.{Command, Counts, Intake, Packets, Program, Retired}
use Rattle.command_words.specs.declared.words.Layout.{Layout}
use Rattle.run_file.specs.declared.fault.BenchWhy.TheVariants.{Run}
use Rattle.command_words.specs.declared.words.Layout.TheVariants.{Frames, Raw}
use Rattle.command_words.specs.declared.words.ProgramForm.TheVariants as form
use Rattle.elf_image.specs.ElfText.{elf_text}
use Rattle.elf_image.specs.declared.fault.ElfWhy.{ElfWhy}
use Rattle.elf_image.specs.declared.fault.ElfWhy.TheVariants.{Header, Table}
use Rattle.etm_types.proofs.Tables.{all_alike, are_settings}
use Rattle.etm_types.specs.Settings.{AreSettings, Sizes}
use Rattle.etm_types.specs.SettingsTable.{sizes_at}
use Rattle.etm_types.specs.declared.item.Item.{Item}
use Rattle.formatter_frames.specs.Unframed.{begun_frame, unframed}
use Rattle.hex.specs.Hex.{decode_pairs}
use Rattle.input_pieces.specs.Listed.{Completes}
use Rattle.packet_list.proofs.PacketTexts.{some_text_of_packets}
use Rattle.path_text.specs.Lines.{in_base}
use Rattle.program_image.specs.ImageText.{image_of}
use Rattle.program_image.specs.declared.fault.ImageWhy.{ImageWhy}
use Rattle.capture_streams.specs.Demuxed.{raw_pairs}
use Rattle.capture_streams.specs.Laws.{HasByte}
use Rattle.capture_streams.specs.Texts.{EndsOf, IsText, Listing, Printed, cut_lines, sources, sum_lines, text_of}
use Rattle.program_image.specs.declared.fault.ImageWhy.TheVariants.{Unaligned}
use Rattle.program_image.specs.declared.image.Image.{Image}
use Rattle.retired_paths.proofs.RetiredExamples as retired
use Rattle.retired_paths.specs.Retired.{IsBadBench, IsRetiredText}
use Rattle.spec_run.specs.declared.run_fault.RunFault.TheVariants as fault
use Rattle.trace_cmd.proofs.Programs.{apart}
use Rattle.trace_cmd.specs.Answers.{Answers, Asks, Call, HasRead, IsRunFileCall, IsSelftestOf, IsTextOf, IsTraceOf, Text, call}
use Rattle.trace_cmd.specs.Answers.{BenchText, ImageText, OwnBenchText, OwnImageText, RetiredText, TestText, TraceText, UsageText}
use Rattle.trace_cmd.specs.Printing.{CountsOf, PacketsOf, PathsOf, TimesOf, What, laid_of, listing_of}
use Rattle.trace_cmd.specs.Programs.{BadFile, BadText, HasProgram, TakesNoProgram, TakesProgram}
use Rattle.trace_io.specs.State.{IoState}

-- these bytes are shown, and so many calls failed
abbrev shows : List ℕ → ℕ → IoState
shows bytes faults = record { bytes = Some bytes; faults = faults }

-- an output that showed a byte 65 before the call
abbrev pub out : IoState
out = shows (65 ∷ []) 0

-- and so much more behind it
abbrev pub printed : List ℕ → IoState
printed text = shows (65 ∷ text) 0

abbrev unknown_words : List (List ℕ)
unknown_words = codes "retire" ∷ codes "img" ∷ []

abbrev pub packets_words : List (List ℕ)
packets_words = codes "packets" ∷ []

abbrev raw_words : List (List ℕ)
raw_words = codes "packets" ∷ codes "--raw" ∷ []

abbrev retired_words : List (List ℕ)
retired_words = codes "retired" ∷ codes "img" ∷ []

abbrev elf_words : List (List ℕ)
elf_words = codes "retired" ∷ codes "--elf" ∷ codes "img" ∷ []

abbrev text_program : Program
text_program = record { name = codes "img"; form = form.Text }

abbrev elf_program : Program
elf_program = record { name = codes "img"; form = form.Elf }

-- the words say no other sizes
abbrev intake : Layout → Intake
intake layout = record { units = replicate 111 (record { depth = 16; vmid_bytes = 1; cid_bytes = 4 }); layout = layout }

-- ---- 1, Usage: the words mean nothing, and nothing else is touched

abbrev usage_text : List ℕ
usage_text = codes "usage: etm path|packets|trace|retired|selftest|times\n"

abbrev unknown : Call
unknown = call unknown_words (shows (1 ∷ []) 0) (shows (1 ∷ []) 0) (shows (2 ∷ []) 0) (shows (2 ∷ []) 0)

pub usage : Answers unknown out (printed usage_text) status.Usage
usage = (usage_text, record { meaningless = refl; printed = refl }, refl)

pub usage_has_its_text : (text : List ℕ) → Answers unknown out (printed text) status.Usage → text ≡ usage_text
usage_has_its_text text (line, is, shown) = let same : 65 ∷ text ≡ 65 ∷ line = shown in let rest : text ≡ line = cc in rest ∙ is.printed

pub usage_without_its_feed : Answers unknown out (printed (take 52 usage_text)) status.Usage → ⊥
usage_without_its_feed answers = absurd (omega (arith, ap length (usage_has_its_text (take 52 usage_text) answers)))

-- words that mean nothing ask for nothing
nothing_asked : (i i' n n' : IoState) (what : What) → Asks (call unknown_words i i' n n') what → ⊥
nothing_asked i i' n n' (PathsOf image r) ((p, is), read) = absurd cc
nothing_asked i i' n n' (CountsOf image r) ((p, is), read) = absurd cc
nothing_asked i i' n n' (PacketsOf r) is = absurd cc
nothing_asked i i' n n' (TimesOf r) is = absurd cc

no_text_but_usage : (i i' n n' : IoState) (t : Text) (text : List ℕ) → IsTextOf (call unknown_words i i' n n') t text → text ≡ usage_text
no_text_but_usage i i' n n' UsageText text is = is.printed
no_text_but_usage i i' n n' (ImageText refusal) text is = let none : None ≡ Some is.program = is.named in absurd cc
no_text_but_usage i i' n n' RetiredText text ((p, is), read) = absurd cc
no_text_but_usage i i' n n' (BenchText line why) text (is, read) = absurd cc
no_text_but_usage i i' n n' TraceText text (last, every, ((p, is), read)) = absurd cc
no_text_but_usage i i' n n' TestText text (n0, cut, is, so) = absurd cc
no_text_but_usage i i' n n' (OwnImageText line why) text (n0, cut, is, so) = absurd cc
no_text_but_usage i i' n n' (OwnBenchText line why) text (n0, cut, is, so) = absurd cc

pub unknown_is_not_done : (new : IoState) → Answers unknown out new status.Done → ⊥
unknown_is_not_done new (inl (what, asks, done)) = nothing_asked (shows (1 ∷ []) 0) (shows (1 ∷ []) 0) (shows (2 ∷ []) 0) (shows (2 ∷ []) 0) what asks
unknown_is_not_done new (inr (inl (text, ((p, is), read), all))) = absurd cc
unknown_is_not_done new (inr (inr (inl (text, (last, every, ((p, is), read)), all)))) = absurd cc
unknown_is_not_done new (inr (inr (inr (text, (n, cut, is, so), all)))) = absurd cc

-- ---- 6, WriteFault: a call on the output failed, and a front of the text is there

abbrev failed_behind : List ℕ → IoState
failed_behind text = shows (65 ∷ text) 1

pub write_failed : Answers unknown out (failed_behind (take 9 usage_text)) status.WriteFault
write_failed = (
  omega arith,
  inl (
    UsageText,
    (
      usage_text,
      record { meaningless = refl; printed = refl },
      record {
        front = take 9 usage_text;
        rest = drop 9 usage_text;
        whole = refl;
        appended = refl;
      },
    ),
  ),
)

pub no_write_failed : Answers unknown out (printed (take 9 usage_text)) status.WriteFault → ⊥
no_write_failed (rose, fault) = absurd (omega (arith, rose))

-- what is there is a front
pub written_from_its_middle : Answers unknown out (failed_behind (drop 7 usage_text)) status.WriteFault → ⊥
written_from_its_middle (rose, inl (t, (text, is, part))) =
    let shown : 65 ∷ drop 7 usage_text ≡ 65 ∷ part.front = part.appended in
    let front : part.front ≡ drop 7 usage_text = cc in
    let world = shows (1 ∷ []) 0 in
    let whole : usage_text ≡ drop 7 usage_text ++ part.rest =
    sym (no_text_but_usage world world (shows (2 ∷ []) 0) (shows (2 ∷ []) 0) t text is) ∙ part.whole ∙ ap (λ (l : List ℕ). l ++ part.rest) front in
    absurd (omega (arith, ap (λ (l : List ℕ). get_or l 0 0) whole))
written_from_its_middle (rose, inr (inl (what, asks, left))) =
    nothing_asked (shows (1 ∷ []) 0) (shows (1 ∷ []) 0) (shows (2 ∷ []) 0) (shows (2 ∷ []) 0) what asks
written_from_its_middle (rose, inr (inr (inl f))) = let (p, named) = f.command in let none : None ≡ Some p = named in absurd cc
written_from_its_middle (rose, inr (inr (inr (inl f)))) = absurd (omega (arith, ap length f.printed))
written_from_its_middle (rose, inr (inr (inr (inr (inl (is, read)))))) = absurd cc
written_from_its_middle (rose, inr (inr (inr (inr (inr ((n, cut, is, long), none)))))) = absurd cc

-- ---- 2, ImageBad: the text of the image has a fault, and the run file is not touched

abbrev bad_image : List ℕ
bad_image = codes "@1000\n@2\n"

abbrev bad_image_text : List ℕ
bad_image_text = codes "image line 2: unaligned\n"

bad_image_is : image_of bad_image ≡ Err (2, Unaligned)
unfolding image_of decode_pairs is_utf8 chars lib.Utf8.encode
bad_image_is = refl

abbrev over_bad_image : Call
over_bad_image = call retired_words (shows bad_image 0) (shows [] 0) (shows (2 ∷ []) 0) (shows (2 ∷ []) 0)

pub image_bad : Answers over_bad_image out (printed bad_image_text) (status.ImageBad 2 Unaligned)
unfolding in_base
image_bad =
    inl (bad_image_text, record { program = text_program; named = refl; refused = (bad_image, refl, bad_image_is, inl refl); printed = refl }, refl)

-- what ended, or is longer than 64 MiB, was all taken
taken_whole : (file bytes left : List ℕ) → file ≡ bytes ++ left → left ≡ [] → bytes ≡ file
taken_whole file bytes left took end = sym (append-nil bytes) ∙ ap (λ (l : List ℕ). bytes ++ l) (sym end) ∙ sym took

no_number_asked : (n : ℕ) (cut : Option ℕ) → IsSelftestOf n cut retired_words → ⊥
no_number_asked n cut is = absurd cc

no_input_asked : (i i' n n' : IoState) (what : What) → Asks (call retired_words i i' n n') what → ⊥
no_input_asked i i' n n' (PathsOf image r) ((p, is), read) = absurd cc
no_input_asked i i' n n' (CountsOf image r) ((p, is), read) = absurd cc
no_input_asked i i' n n' (PacketsOf r) is = absurd cc
no_input_asked i i' n n' (TimesOf r) is = absurd cc

no_trace_asked : (last every : Option ℕ) → IsTraceOf last every retired_words → ⊥
no_trace_asked last every (p, is) = absurd cc

-- the program that the words of `retired` name
same_program : (p : Program) → HasProgram p retired_words → p ≡ text_program
same_program p named = let both : Some text_program ≡ Some p = named in cc

abbrev fault_in : Result Image (ℕ × ImageWhy) → ℕ × ImageWhy
fault_in (Ok image) = (0, Unaligned)
fault_in (Err told) = told

bad_image_once : (line : ℕ) (why : ImageWhy) (new : IoState) → Answers over_bad_image out new (status.ImageBad line why) → (line ≡ 2) × (why ≡ Unaligned)
bad_image_once line why new (inl (text, is, shown)) =
    by (subst (λ (p : Program). TakesNoProgram p (shows bad_image 0) (shows [] 0) (BadText line why)) (same_program is.program is.named) is.refused)
  where
    by : TakesNoProgram text_program (shows bad_image 0) (shows [] 0) (BadText line why) → (line ≡ 2) × (why ≡ Unaligned)
    by (bytes, took, refused, ended) =
        let file = taken_whole bad_image bytes [] took refl in
        let told : (line, why) ≡ (2, Unaligned) =
        ap fault_in (sym (subst (λ (b : List ℕ). image_of b ≡ Err (line, why)) file refused) ∙ bad_image_is) in
        (ap (λ (t : ℕ × ImageWhy). t.0) told, ap (λ (t : ℕ × ImageWhy). t.1) told)
bad_image_once line why new (inr (text, (n, cut, asked, so), shown)) = absurd (no_number_asked n cut asked)

pub not_the_line_before : (new : IoState) → Answers over_bad_image out new (status.ImageBad 1 Unaligned) → ⊥
not_the_line_before new answers = absurd (omega (arith, (bad_image_once 1 Unaligned new answers).0))

-- 64 MiB of a text are not past the most that it may have
pub not_before_the_end_of_64_mib : (file : List ℕ) (line : ℕ) (why : ImageWhy) → length file ≡ 67108864
    → TakesNoProgram text_program (shows (file ++ 10 ∷ []) 0) (shows (10 ∷ []) 0) (BadText line why) → ⊥
not_before_the_end_of_64_mib file line why size (bytes, took, refused, ended) = elim ended [
  | inl end ↦ absurd (omega (arith, ap length end))
  | inr long ↦ absurd (omega (arith, long, size, ap length took, length-append file (10 ∷ []), length-append bytes (10 ∷ [])))
]

-- an image that has a fault is none
no_image_in_it : (image : Image) → HasRead over_bad_image image → ⊥
no_image_in_it image (p, named, takes) = by (subst (λ (q : Program). TakesProgram q (shows bad_image 0) (shows [] 0) image) (same_program p named) takes)
  where
    by : TakesProgram text_program (shows bad_image 0) (shows [] 0) image → ⊥
    by (bytes, (took, end), spells) =
        let file = taken_whole bad_image bytes [] took refl in
        apart (image_of bad_image) image (2, Unaligned) (subst (λ (b : List ℕ). image_of b ≡ Ok image) file spells) bad_image_is

pub bad_image_is_not_done : (new : IoState) → Answers over_bad_image out new status.Done → ⊥
bad_image_is_not_done new (inl (what, asks, done)) = no_input_asked (shows bad_image 0) (shows [] 0) (shows (2 ∷ []) 0) (shows (2 ∷ []) 0) what asks
bad_image_is_not_done new (inr (inl (text, (asked, (image, read, is)), all))) = no_image_in_it image read
bad_image_is_not_done new (inr (inr (inl (text, (last, every, (asked, read)), all)))) = no_trace_asked last every asked
bad_image_is_not_done new (inr (inr (inr (text, (n, cut, asked, so), all)))) = no_number_asked n cut asked

pub bad_image_is_no_bad_run_file : (line : ℕ) (why : BenchWhy) (new : IoState) → Answers over_bad_image out new (status.BenchBad line why) → ⊥
bad_image_is_no_bad_run_file line why new (inl (text, (asked, (image, read, is)), all)) = no_image_in_it image read
bad_image_is_no_bad_run_file line why new (inr (text, (n, cut, asked, so), all)) = no_number_asked n cut asked

-- ---- 9, ElfBad: the file has no header

abbrev over_no_file : Call
over_no_file = call elf_words (shows (127 ∷ 69 ∷ []) 0) (shows [] 0) (shows (2 ∷ []) 0) (shows (2 ∷ []) 0)

no_header : elf_text (127 ∷ 69 ∷ []) ≡ Err Header
unfolding elf_text
no_header = refl

pub elf_bad : Answers over_no_file out (printed (codes "elf: header\n")) (status.ElfBad Header)
elf_bad =
    (codes "elf: header\n", record { program = elf_program; named = refl; refused = (127 ∷ 69 ∷ [], refl, no_header, inl refl); printed = refl }, refl)

same_elf_program : (p : Program) → HasProgram p elf_words → p ≡ elf_program
same_elf_program p named = let both : Some elf_program ≡ Some p = named in cc

elf_bad_once : (why : ElfWhy) (new : IoState) → Answers over_no_file out new (status.ElfBad why) → why ≡ Header
elf_bad_once why new (text, is, shown) =
    by (subst (λ (p : Program). TakesNoProgram p (shows (127 ∷ 69 ∷ []) 0) (shows [] 0) (BadFile why)) (same_elf_program is.program is.named) is.refused)
  where
    by : TakesNoProgram elf_program (shows (127 ∷ 69 ∷ []) 0) (shows [] 0) (BadFile why) → why ≡ Header
    by (bytes, took, refused, ended) =
        let file = taken_whole (127 ∷ 69 ∷ []) bytes [] took refl in
        let both : Err why ≡ Err Header = sym (subst (λ (b : List ℕ). elf_text b ≡ Err why) file refused) ∙ no_header in cc

pub not_for_its_table : (new : IoState) → Answers over_no_file out new (status.ElfBad Table) → ⊥
not_for_its_table new answers = let same = elf_bad_once Table new answers in absurd cc

-- a file that can't be used is no text with a fault
pub elf_is_no_bad_text : (line : ℕ) (why : ImageWhy) (new : IoState) → Answers over_no_file out new (status.ImageBad line why) → ⊥
elf_is_no_bad_text line why new (inl (text, is, shown)) =
    by (subst (λ (p : Program). TakesNoProgram p (shows (127 ∷ 69 ∷ []) 0) (shows [] 0) (BadText line why)) (same_elf_program is.program is.named) is.refused)
  where
    by : TakesNoProgram elf_program (shows (127 ∷ 69 ∷ []) 0) (shows [] 0) (BadText line why) → ⊥
    by (bytes, took, refused, ended) = refused
elf_is_no_bad_text line why new (inr (text, (n, cut, asked, so), shown)) = absurd cc

-- ---- 0, Done, and 3, BenchBad: a run file that is accepted, and one that is not

abbrev pub code_text : List ℕ
code_text = codes "@2008\n00000014 1f2003d5\n"

pub code_is : image_of code_text ≡ Ok retired.code
unfolding image_of decode_pairs is_utf8 chars lib.Utf8.encode
code_is = refl

abbrev pub over_code : List ℕ → List ℕ → ℕ → Call
over_code file left failed = call retired_words (shows code_text 0) (shows [] 0) (shows file 0) (shows left failed)

read_code : (file left : List ℕ) (failed : ℕ) → HasRead (over_code file left failed) retired.code
read_code file left failed = (text_program, refl, (code_text, (refl, refl), code_is))

pub retired_done : Answers (over_code retired.good [] 0) out (printed retired.good_text) status.Done
retired_done = inr (inl (retired.good_text, ((text_program, refl), (retired.code, read_code retired.good [] 0, retired.text_is)), refl))

pub bench_bad : Answers (over_code retired.bad [] 0) out (printed retired.bad_text) (status.BenchBad 3 (Run fault.NotOn))
bench_bad = inl (retired.bad_text, (refl, (retired.code, read_code retired.bad [] 0, retired.bad_is)), refl)

same_code : (file left : List ℕ) (failed : ℕ) (image : Image) → HasRead (over_code file left failed) image → image ≡ retired.code
same_code file left failed image (p, named, takes) =
    by (subst (λ (q : Program). TakesProgram q (shows code_text 0) (shows [] 0) image) (same_program p named) takes)
  where
    by : TakesProgram text_program (shows code_text 0) (shows [] 0) image → image ≡ retired.code
    by (bytes, (took, end), spells) =
        let text = taken_whole code_text bytes [] took refl in
        let both : Ok image ≡ Ok retired.code = sym (subst (λ (b : List ℕ). image_of b ≡ Ok image) text spells) ∙ code_is in cc

retired_once : (text : List ℕ) → Answers (over_code retired.good [] 0) out (printed text) status.Done → text ≡ retired.good_text
retired_once text (inl (what, asks, done)) =
    absurd (no_input_asked (shows code_text 0) (shows [] 0) (shows retired.good 0) (shows [] 0) what asks)
retired_once text (inr (inl (line, (asked, (image, read, is)), shown))) =
    let here : retired.IsText retired.good [] line =
    subst (λ (i : Image). IsRetiredText i (shows retired.good 0) (shows [] 0) line) (same_code retired.good [] 0 image read) is in
    let all : 65 ∷ text ≡ 65 ∷ line = shown in
    let same : text ≡ line = cc in same ∙ (retired.text_once [] line here).1
retired_once text (inr (inr (inl (line, (last, every, (asked, read)), shown)))) = absurd (no_trace_asked last every asked)
retired_once text (inr (inr (inr (line, (n, cut, asked, so), shown)))) = absurd (no_number_asked n cut asked)

pub a_line_is_left_out : Answers (over_code retired.good [] 0) out (printed (drop 6 retired.good_text)) status.Done → ⊥
a_line_is_left_out answers = absurd (omega (arith, ap length (retired_once (drop 6 retired.good_text) answers)))

pub good_is_not_bad : (line : ℕ) (why : BenchWhy) (new : IoState) → Answers (over_code retired.good [] 0) out new (status.BenchBad line why) → ⊥
good_is_not_bad line why new (inl (text, (asked, (image, read, is)), shown)) =
    let here : retired.IsBad retired.good [] line why text =
    subst (λ (i : Image). IsBadBench i (shows retired.good 0) (shows [] 0) line why text) (same_code retired.good [] 0 image read) is in
    retired.good_is_not_bad [] line why text here
good_is_not_bad line why new (inr (text, (n, cut, asked, so), shown)) = no_number_asked n cut asked

pub bad_a_line_late : (new : IoState) → Answers (over_code retired.bad [] 0) out new (status.BenchBad 4 (Run fault.NotOn)) → ⊥
bad_a_line_late new (inl (text, (asked, (image, read, is)), shown)) =
    let here : retired.IsBad retired.bad [] 4 (Run fault.NotOn) text =
    subst (λ (i : Image). IsBadBench i (shows retired.bad 0) (shows [] 0) 4 (Run fault.NotOn) text) (same_code retired.bad [] 0 image read) is in
    retired.not_a_line_late text here
bad_a_line_late new (inr (text, (n, cut, asked, so), shown)) = no_number_asked n cut asked

-- a run file has no other answer: it is never too long, and never has a faulty stream
pub never_too_long : (new : IoState) → Answers (over_code retired.good [] 0) out new status.InputTooLong → ⊥
never_too_long new (inl (what, asks, long)) = no_input_asked (shows code_text 0) (shows [] 0) (shows retired.good 0) (shows [] 0) what asks
never_too_long new (inr ((n, cut, asked, long), none)) = no_number_asked n cut asked

pub never_faulted : (new : IoState) → Answers (over_code retired.good [] 0) out new status.Faulted → ⊥
never_faulted new (what, asks, done) = no_input_asked (shows code_text 0) (shows [] 0) (shows retired.good 0) (shows [] 0) what asks

-- ---- 5, ReadFault: a read of the image failed, or one of the run file; nothing was printed

abbrev image_failed : Call
image_failed = call retired_words (shows code_text 0) (shows (drop 9 code_text) 1) (shows (2 ∷ []) 0) (shows (2 ∷ []) 0)

pub image_read_failed : Answers image_failed out out status.ReadFault
image_read_failed = inl (record { command = (text_program, refl); rose = omega arith; untouched = refl; printed = refl })

pub run_file_read_failed : Answers (over_code retired.good (drop 9 retired.good) 1) out out status.ReadFault
run_file_read_failed = inr (inl (refl, (retired.code, read_code retired.good (drop 9 retired.good) 1, (omega arith, refl))))

pub no_read_failed : (new : IoState) → Answers (over_code retired.good (drop 9 retired.good) 0) out new status.ReadFault → ⊥
no_read_failed new (inl f) = absurd (omega (arith, f.rose))
no_read_failed new (inr (inl (asked, (image, read, (rose, none))))) = absurd (omega (arith, rose))
no_read_failed new (inr (inr (what, asks, b))) =
    no_input_asked (shows code_text 0) (shows [] 0) (shows retired.good 0) (shows (drop 9 retired.good) 0) what asks

pub printed_before_a_failed_read : Answers (over_code retired.good (drop 9 retired.good) 1) out (printed (take 6 retired.good_text)) status.ReadFault → ⊥
printed_before_a_failed_read (inl f) = absurd (omega (arith, ap length f.printed))
printed_before_a_failed_read (inr (inl (asked, (image, read, (rose, none))))) = absurd (omega (arith, ap length none))
printed_before_a_failed_read (inr (inr (what, asks, b))) =
    no_input_asked (shows code_text 0) (shows [] 0) (shows retired.good 0) (shows (drop 9 retired.good) 1) what asks

abbrev known : Option (List ℕ) → List ℕ
known None = []
known (Some bytes) = bytes

-- where the image could not be read, the run file is not touched
pub touched_behind_an_image : Answers
    (call retired_words (shows code_text 0) (shows (drop 9 code_text) 1) (shows (2 ∷ []) 0) (shows [] 0)) out out status.ReadFault → ⊥
touched_behind_an_image (inl f) = absurd (omega (arith, ap (λ (s : IoState). length (known s.bytes)) f.untouched))
touched_behind_an_image (inr (inl (asked, (image, read, (rose, none))))) = absurd (omega (arith, rose))
touched_behind_an_image (inr (inr (what, asks, b))) =
    no_input_asked (shows code_text 0) (shows (drop 9 code_text) 1) (shows (2 ∷ []) 0) (shows [] 0) what asks

-- ---- 7, NoMemory: nothing was printed; of an input nothing was taken, and of a run file some may be

abbrev pub over_input : List (List ℕ) → List ℕ → List ℕ → ℕ → Call
over_input words input left failed = call words (shows (1 ∷ []) 0) (shows (1 ∷ []) 0) (shows input 0) (shows left failed)

pub no_memory : Answers (over_input packets_words (2 ∷ []) (2 ∷ []) 0) out out status.NoMemory
no_memory = record { command = inl (Packets (intake Frames), refl); untouched = inl refl; printed = refl }

pub no_memory_of_a_run_file : Answers (over_code retired.good (drop 9 retired.good) 0) out out status.NoMemory
no_memory_of_a_run_file = record { command = inl (Retired text_program, refl); untouched = inr refl; printed = refl }

pub printed_without_memory : Answers (over_input packets_words (2 ∷ []) (2 ∷ []) 0) out (printed (48 ∷ [])) status.NoMemory → ⊥
printed_without_memory f = absurd (omega (arith, ap length f.printed))

pub input_taken_without_memory : Answers (over_input packets_words (2 ∷ []) [] 0) out out status.NoMemory → ⊥
input_taken_without_memory f = by f.untouched
  where
    by : (shows [] 0 ≡ shows (2 ∷ []) 0) ⊎ IsRunFileCall packets_words → ⊥
    by (inl same) = absurd (omega (arith, ap (λ (s : IoState). length (known s.bytes)) same))
    by (inr is) = absurd cc

-- ---- 0, Done, and 4, Faulted, of an input: nothing at all, and three bytes of a frame

-- streams without a byte have no end
none_end : (g : Listing) (ids : List ℕ) → EndsOf g [] ids [] false
none_end g [] = (refl, refl)
none_end g (id ∷ ids) = ([], [], false, false, (refl, refl), none_end g ids, refl, refl)

none_end_once : (g : Listing) (ids : List ℕ) (lines : List Printed) (faulty : Bool) → EndsOf g [] ids lines faulty → (lines ≡ []) × (faulty ≡ false)
none_end_once g [] lines faulty is = is
none_end_once g (id ∷ ids) lines faulty (first, rest, one, others, (none, good), later, all, fault) =
    let (no_rest, no_fault) = none_end_once g ids rest others later in
    (all ∙ ap (λ (l : List Printed). l ++ rest) none ∙ no_rest, fault ∙ ap (λ (b : Bool). b || others) good ∙ no_fault)

abbrev under_none : List (List ℕ) → List Printed
under_none lines = map (λ (line : List ℕ). record { id = None; line = line }) lines

module _ (g : Listing) (sums_of_none : g.sums [] ≡ []) where
  -- so an input without a byte of a source prints the line of a frame that is cut alone
  nothing_carried : (left : ℕ) (lines : List Printed) (faulty : Bool) → lines ≡ cut_lines left → faulty ≡ nat_lt 0 left → IsText g [] left lines faulty
  nothing_carried left lines faulty is fault = record {
    body = [];
    ending = lines;
    gained = refl;
    ended = record {
      sums = [];
      summed = ([], refl, sym (ap under_none sums_of_none));
      ends = [];
      some_fault = false;
      ended = none_end g sources;
      all = is;
      fault = fault;
    };
    all = refl;
  }

  nothing_carried_once : (left : ℕ) (lines : List Printed) (faulty : Bool) → IsText g [] left lines faulty → (lines ≡ cut_lines left) × (faulty ≡ nat_lt 0 left)
  nothing_carried_once left lines faulty is =
      let (items, none, sums_are) = is.ended.summed in
      let no_sums = sums_are ∙ ap (λ (i : List (ℕ × Item)). sum_lines g i) none
      ∙ ap under_none sums_of_none in
      let (no_ends, no_fault) = none_end_once g sources is.ended.ends is.ended.some_fault is.ended.ended in (
        is.all ∙ ap (λ (l : List Printed). l ++ is.ending) is.gained ∙ is.ended.all
            ∙ ap (λ (l : List Printed). l ++ (is.ended.ends ++ cut_lines left)) no_sums ∙ ap (λ (l : List Printed). l ++ cut_lines left) no_ends,
        is.ended.fault ∙ ap (λ (b : Bool). b || nat_lt 0 left) no_fault,
      )

abbrev packets_of : Layout → What
packets_of layout = PacketsOf (intake layout)

pub nothing_done : Answers (over_input packets_words [] [] 0) out out status.Done
nothing_done =
    inl (
      packets_of Frames,
      refl,
      record {
        bytes = [];
        read = (refl, refl);
        few = omega arith;
        lines = [];
        shown = nothing_carried (listing_of (packets_of Frames)) refl 0 [] false refl refl;
        printed = refl;
      },
    )

abbrev pub three : List ℕ
three = 8 ∷ 9 ∷ 10 ∷ []

abbrev pub cut_text : List ℕ
cut_text = codes "frame cut 3\n"

pub cut_frame : Answers (over_input packets_words three [] 0) out (printed cut_text) status.Faulted
unfolding in_base
cut_frame = (
  packets_of Frames,
  refl,
  record {
    bytes = three;
    read = (refl, refl);
    few = omega arith;
    lines = record { id = None; line = cut_text } ∷ [];
    shown = nothing_carried (listing_of (packets_of Frames)) refl 3 (record { id = None; line = cut_text } ∷ []) true refl refl;
    printed = refl;
  },
)

-- ---- what is printed of an input fits its words, and all of it was read

same_what : (input left : List ℕ) (failed : ℕ) (what : What) → Asks (over_input packets_words input left failed) what → what ≡ packets_of Frames
same_what input left failed (PathsOf image r) ((p, is), read) = absurd cc
same_what input left failed (CountsOf image r) ((p, is), read) = absurd cc
same_what input left failed (PacketsOf r) is = let both : Some (Packets (intake Frames)) ≡ Some (Packets r) = is in let same : r ≡ intake Frames = cc in ap PacketsOf same
same_what input left failed (TimesOf r) is = absurd cc

abbrev CompletesWith : List ℕ → List ℕ → IoState → Bool → What → Type 0
CompletesWith input left new faulty what = Completes (laid_of what) (listing_of what) (shows input 0) (shows left 0) out new faulty

cut_completes : (left text : List ℕ) (faulty : Bool) → CompletesWith three left (printed text) faulty (packets_of Frames)
    → (left ≡ []) × (text ≡ cut_text) × (faulty ≡ true)
unfolding in_base
cut_completes left text faulty all =
    let bytes = taken_whole three all.bytes left all.read.0 all.read.1 in
    let shown : IsText (listing_of (packets_of Frames)) [] 3 all.lines faulty =
    subst (λ (b : List ℕ). IsText (listing_of (packets_of Frames)) (unframed b) (length (begun_frame b)) all.lines faulty) bytes all.shown in
    let (lines, fault) = nothing_carried_once (listing_of (packets_of Frames)) refl 3 all.lines faulty shown in
    let same : 65 ∷ text ≡ 65 ∷ cut_text = all.printed ∙ ap (λ (l : List Printed). 65 ∷ text_of l) lines in
    (all.read.1, cc, fault)

pub cut_frame_has_its_line : (text : List ℕ) → Answers (over_input packets_words three [] 0) out (printed text) status.Faulted → text ≡ cut_text
cut_frame_has_its_line text (what, asks, all) =
    (cut_completes [] text true (subst (CompletesWith three [] (printed text) true) (same_what three [] 0 what asks) all)).1

pub cut_frame_is_not_done : (text : List ℕ) → Answers (over_input packets_words three [] 0) out (printed text) status.Done → ⊥
cut_frame_is_not_done text (inl (what, asks, all)) =
    let fault : false ≡ true =
    (cut_completes [] text false (subst (CompletesWith three [] (printed text) false) (same_what three [] 0 what asks) all)).2 in cc
cut_frame_is_not_done text (inr (inl (line, ((p, is), read), all))) = absurd cc
cut_frame_is_not_done text (inr (inr (inl (line, (last, every, ((p, is), read)), all)))) = absurd cc
cut_frame_is_not_done text (inr (inr (inr (line, (n, cut, is, so), all)))) = absurd cc

pub not_before_its_end : (text : List ℕ) → Answers (over_input packets_words three (10 ∷ []) 0) out (printed text) status.Faulted → ⊥
not_before_its_end text (what, asks, all) = absurd (omega (arith, ap length all.read.1))

pub nothing_is_not_faulted : (new : IoState) → Answers (over_input packets_words [] [] 0) out new status.Faulted → ⊥
nothing_is_not_faulted new (what, asks, all) = by (subst (CompletesWith [] [] new true) (same_what [] [] 0 what asks) all)
  where
    by : CompletesWith [] [] new true (packets_of Frames) → ⊥
    by all =
        let bytes = taken_whole [] all.bytes [] all.read.0 refl in
        let shown : IsText (listing_of (packets_of Frames)) [] 0 all.lines true =
        subst (λ (b : List ℕ). IsText (listing_of (packets_of Frames)) (unframed b) (length (begun_frame b)) all.lines true) bytes all.shown in
        let fault : true ≡ false = (nothing_carried_once (listing_of (packets_of Frames)) refl 0 all.lines true shown).1 in cc

-- 5: the first read failed, and nothing was printed
pub input_read_failed : Answers (over_input raw_words (2 ∷ 3 ∷ []) (2 ∷ 3 ∷ []) 1) out out status.ReadFault
input_read_failed =
    inr (inr (
      packets_of Raw,
      refl,
      record {
        bytes = [];
        took = refl;
        few = omega arith;
        printed = ([], ([], [], refl, ([], refl, refl), refl), refl);
        rose = omega arith;
      },
    ))

pub no_input_read_failed : (new : IoState) → Answers (over_input raw_words (2 ∷ 3 ∷ []) (2 ∷ 3 ∷ []) 0) out new status.ReadFault → ⊥
no_input_read_failed new (inl f) = absurd (omega (arith, f.rose))
no_input_read_failed new (inr (inl (asked, (image, read, (rose, none))))) = absurd (omega (arith, rose))
no_input_read_failed new (inr (inr (what, asks, b))) = absurd (omega (arith, b.rose))

-- ---- 8, InputTooLong: 2^30 bytes and one more were taken, and the lines of the first 2^30 are there

abbrev by_default : Sizes
by_default = record { depth = 16; vmid_bytes = 1; cid_bytes = 4 }

all_sizes : (id : ℕ) → AreSettings (sizes_at (replicate 111 by_default) id)
all_sizes id = are_settings (replicate 111 by_default) id (all_alike by_default (record { depth = omega arith; vmid = refl; cid = refl }))

pub too_long : (bytes : List ℕ) (byte : ℕ) → All (λ b. b < 256) bytes → length bytes ≡ 1073741824
    → (lines : List Printed) × Answers (over_input raw_words (bytes ++ byte ∷ []) [] 0) out (printed (text_of lines)) status.InputTooLong
too_long bytes byte small many =
    let (lines, faulty, is) = some_text_of_packets (sizes_at (replicate 111 by_default)) all_sizes (raw_pairs bytes) 0
    (All-map HasByte (λ (b : ℕ). (1, b)) bytes small) in (
      is.body,
      inl (
        packets_of Raw,
        refl,
        record {
          bytes = bytes;
          byte = byte;
          took = sym (append-nil (bytes ++ byte ∷ []));
          many = many;
          printed = (is.body, (is.body, [], is.gained, (is.ended.summed.0, is.ended.summed.1, refl), sym (append-nil is.body)), refl);
        },
      ),
    )

pub two_bytes_are_not_too_long : (new : IoState) → Answers (over_input raw_words (2 ∷ 3 ∷ []) [] 0) out new status.InputTooLong → ⊥
two_bytes_are_not_too_long new (inl (what, asks, long)) =
    absurd (omega (arith, long.many, ap length long.took, length-append (long.bytes ++ long.byte ∷ []) [], length-append long.bytes (long.byte ∷ [])))
two_bytes_are_not_too_long new (inr ((n, cut, is, own), none)) = absurd cc

pub just_as_many_are_not : (bytes : List ℕ) (new : IoState) → length bytes ≡ 1073741824
    → Answers (over_input raw_words bytes [] 0) out new status.InputTooLong → ⊥
just_as_many_are_not bytes new many (inl (what, asks, long)) =
    absurd (omega (
      arith,
      many,
      long.many,
      ap length long.took,
      length-append (long.bytes ++ long.byte ∷ []) [],
      length-append long.bytes (long.byte ∷ []),
    ))
just_as_many_are_not bytes new many (inr ((n, cut, is, own), none)) = absurd cc

-- ---- what the words ask for

abbrev with_image : List (List ℕ) → Call
with_image words = call words (shows code_text 0) (shows [] 0) (shows (2 ∷ []) 0) (shows [] 0)

pub times_asked : Asks (with_image (codes "times" ∷ codes "--depth" ∷ codes "16" ∷ [])) (TimesOf (intake Frames))
times_asked = refl

pub times_are_no_packets : (r : Intake) → Asks (with_image (codes "times" ∷ [])) (PacketsOf r) → ⊥
times_are_no_packets r is = absurd cc

pub packets_are_no_times : (r : Intake) → Asks (with_image packets_words) (TimesOf r) → ⊥
packets_are_no_times r is = absurd cc

abbrev path_words : List (List ℕ)
path_words = codes "path" ∷ codes "img" ∷ []

abbrev count_words : List (List ℕ)
count_words = codes "path" ∷ codes "--raw" ∷ codes "--count" ∷ codes "img" ∷ []

pub paths_asked : Asks (with_image path_words) (PathsOf retired.code (intake Frames))
paths_asked = ((text_program, refl), (text_program, refl, (code_text, (refl, refl), code_is)))

pub counts_asked : Asks (with_image count_words) (CountsOf retired.code (intake Raw))
counts_asked = ((text_program, refl), (text_program, refl, (code_text, (refl, refl), code_is)))

pub paths_are_no_counts : (image : Image) (r : Intake) → Asks (with_image path_words) (CountsOf image r) → ⊥
paths_are_no_counts image r ((p, is), read) = absurd cc

pub counts_are_no_paths : (image : Image) (r : Intake) → Asks (with_image count_words) (PathsOf image r) → ⊥
counts_are_no_paths image r ((p, is), read) = absurd cc

abbrev layout_named : Option Command → Option Layout
layout_named (Some (Counts p r)) = Some r.layout
layout_named command = None

raw_is_no_frames : Some Raw ≡ Some Frames → ⊥
raw_is_no_frames e = cc

pub not_in_frames : Asks (with_image count_words) (CountsOf retired.code (intake Frames)) → ⊥
not_in_frames ((p, is), read) = raw_is_no_frames (ap layout_named is)

-- over the image that was read, and no other
pub over_no_other_image : Asks (with_image path_words) (PathsOf [] (intake Frames)) → ⊥
over_no_other_image ((q, is), (p, named, takes)) =
    let both : Some text_program ≡ Some p = named in let same : p ≡ text_program = cc in
    by (subst (λ (r : Program). TakesProgram r (shows code_text 0) (shows [] 0) []) same takes)
  where
    by : TakesProgram text_program (shows code_text 0) (shows [] 0) [] → ⊥
    by (bytes, (took, end), spells) =
        let text = taken_whole code_text bytes [] took refl in
        let both : Ok [] ≡ Ok retired.code = sym (subst (λ (b : List ℕ). image_of b ≡ Ok []) text spells) ∙ code_is in absurd cc

-- and not while some of it is left
pub not_of_an_image_that_is_left : (image : Image)
    → Asks (call path_words (shows code_text 0) (shows (10 ∷ []) 0) (shows [] 0) (shows [] 0)) (PathsOf image (intake Frames)) → ⊥
not_of_an_image_that_is_left image ((q, is), (p, named, (bytes, (took, end), spells))) = absurd (omega (arith, ap length end))
