-- Where image and input are good and no call failed, the answer is what was asked for.
use Rattle.std.proofs.Common.{◌≡◌, ◌⊎◌, ℕ, ◌<◌, ◌≤◌, Bool, true, false, List, [], ◌∷◌, ◌++◌, length, Option, Some, None, Result, Ok, Err}
use Rattle.std.proofs.Common.{refl, sym, ap, subst, ◌∙◌, inl, inr, arith, length-append}
use Rattle.std.specs.Io.KnownBytes.{Consumes, IsAtEnd}
use Rattle.std.proofs.lemmas.Bool.{lt-ltb}
use Rattle.std.specs.Option.{option_and_then}
use Rattle.bench_gen.specs.Bench.{generated}
use Rattle.etm_types.proofs.Tables.{are_settings}
use Rattle.program_image.specs.ImageText.{image_of}
use Rattle.program_image.specs.declared.fault.ImageWhy.{ImageWhy}
use Rattle.program_image.specs.declared.image.Image.{Image}
use Rattle.run_file.specs.Parts.{BenchParts}
use Rattle.run_file.specs.Refusals.{bench_of, most_text}
use Rattle.run_file.specs.declared.fault.BenchWhy.{BenchWhy}
use Rattle.capture_streams.proofs.PathTexts.{one_text_of_paths}
use Rattle.capture_streams.specs.Texts.{IsText, Printed}
use Rattle.count_streams.proofs.OneText.{one_text_of_counts}
use Rattle.packet_list.proofs.PacketTexts.{one_text_of_packets}
use Rattle.time_marks.proofs.Texts.{one_text_of_times}
use Rattle.answer_laws.proofs.TracedCalls.{image_taken, taken_are}
use Rattle.trace_cmd.proofs.Programs.{apart, not_refused, not_too_long, one_image, one_program, one_spelled}
use Rattle.answer_laws.proofs.WordTables.{counts_table, packets_table, path_table, times_table}
use Rattle.trace_cmd.proofs.WordKinds.{counts_kind, no_kind, number_kind, one_kind, packets_kind, path_kind, program_kind, retired_kind, times_kind}
use Rattle.trace_cmd.proofs.WordKinds.{trace_kind}
use Rattle.trace_cmd.specs.Answers.{Answers, Asks, Call, HasImage, HasRead, IsBareCall, IsBenchBad, IsImageCall, IsOfKind, IsOwnBenchBad}
use Rattle.trace_cmd.specs.Answers.{IsOwnImageBad, IsOwnTooLong, IsPathCall, IsProgramBad, IsRunFileCall, IsSelftestCall, IsSelftestOf}
use Rattle.answer_laws.specs.Complete.{AreAlike, FaultsAreDecided, HasInput, HasRunFile, IsDone, IsDoneOrFaulted, NothingFailed, ShowAlike}
use Rattle.answer_laws.specs.Complete.{NumbersAreDone, PacketsAreDone, PathsAreDone, RunFilesAreDone}
use Rattle.trace_cmd.specs.Programs.{BadFile, BadText, NoProgram, Refuses, Spells, TakesNoProgram}
use Rattle.input_pieces.specs.Listed.{Completes, Exceeds, most_input}
use Rattle.trace_cmd.specs.Printing.{CountsOf, PacketsOf, PathsOf, TimesOf, What, laid_of, listing_of, sizes_by}
use Rattle.retired_paths.specs.Retired.{IsBadBench}
use Rattle.traced_runs.specs.Selftest.{AreGood}
use Rattle.traced_runs.specs.Traced.{trace_frames}
use Rattle.command_words.specs.Words.{BareKind, Counts, Kind, NoCommand, NumberKind, Packets, Path, PathKind, Program, RunFileKind, Selftest, Times}
use Rattle.command_words.specs.Words.{kind_of, meaning, program_of}
use Rattle.answer_lines.specs.declared.status.Status.{Status}
use Rattle.answer_lines.specs.declared.status.Status.TheVariants as status
use Rattle.trace_io.specs.State.{IoState}

-- ---- what is taken of good bytes

-- it is no longer than they are
taken_front : (old new : Option (List ℕ)) (known bytes : List ℕ) → old ≡ Some known → Consumes old new bytes → length bytes ≤ length known
taken_front None new known bytes is took = absurd cc
taken_front (Some xs) None known bytes is took = absurd took
taken_front (Some xs) (Some ys) known bytes is took =
    let same : xs ≡ known = cc in let parts : length known ≡ length (bytes ++ ys) = ap length (sym same ∙ took) in
    omega (arith, parts, length-append bytes ys)

-- a program whose bytes spell an image is not refused
image_stands : (c : Call) (image : Image) (refusal : NoProgram) (text : List ℕ) → HasImage c image → IsProgramBad c refusal text → ⊥
image_stands c image refusal text has bad = by (subst (λ (p : Program). TakesNoProgram p c.image c.image' refusal) same_program bad.refused)
  where
    same_program : bad.program ≡ has.program
    same_program = one_program has.program bad.program c.words has.named bad.named

    by : TakesNoProgram has.program c.image c.image' refusal → ⊥
    by (other, took, refused, inl ended) =
        let same = taken_are c.image.bytes c.image'.bytes has.bytes other has.shows (took, ended) in
        not_refused has.program.form has.bytes image refusal has.spells (subst (λ (l : List ℕ). Refuses has.program.form l refusal) same refused)
    by (other, took, refused, inr long) =
        let front = taken_front c.image.bytes c.image'.bytes has.bytes other has.shows took in
        not_too_long has.program.form has.bytes image (omega (arith, front, long)) has.spells

-- a text that is longer than the most is no run file
long_file : (image : Image) (file : List ℕ) (b : BenchParts) → most_text < length file → bench_of image file ≡ Ok b → ⊥
long_file image file b long accepted = let test = lt-ltb most_text (length file) long in let both = simp test at accepted in cc

-- a run file whose events are accepted is not refused
run_file_stands : (old new : IoState) (file : List ℕ) (image : Image) (b : BenchParts) (line : ℕ) (why : BenchWhy) (text : List ℕ)
    → old.bytes ≡ Some file → bench_of image file ≡ Ok b → IsBadBench image old new line why text → ⊥
run_file_stands old new file image b line why text shows accepted bad = by bad.ended
  where
    by : IsAtEnd new.bytes ⊎ (most_text < length bad.run_file) → ⊥
    by (inl ended) =
        let same = taken_are old.bytes new.bytes file bad.run_file shows (bad.read, ended) in
        apart {E = ℕ × BenchWhy} (bench_of image file) b (line, why) accepted (ap (bench_of image) (sym same) ∙ bad.refused)
    by (inr long) =
        let front = taken_front old.bytes new.bytes file bad.run_file shows bad.read in
        long_file image file b (omega (arith, front, long)) accepted

-- the image and run file of a number are one
one_number : (n : ℕ) (image other : Image) (b also : BenchParts) → AreGood n image b → AreGood n other also → (other ≡ image) × (also ≡ b)
one_number n image other b also good too =
    let images : other ≡ image = one_image (generated n).image (generated n).image image other refl good.image_is too.image_is in
    let here : bench_of image (generated n).bench ≡ Ok also =
    subst (λ (i : Image). bench_of i (generated n).bench ≡ Ok also) images too.bench_is in
    let both : Ok also ≡ Ok b = sym here ∙ good.bench_is in (images, cc)

-- ---- what reads an input

-- the kind of the command that reads it
input_kind : What → Kind
input_kind (PathsOf image r) = PathKind
input_kind (CountsOf image r) = PathKind
input_kind (PacketsOf r) = BareKind
input_kind (TimesOf r) = BareKind

asks_kind : (c : Call) (what : What) → Asks c what → IsOfKind (input_kind what) c.words
unfolding input_kind
asks_kind c (PathsOf image r) asks = path_kind r c.words asks.0
asks_kind c (CountsOf image r) asks = counts_kind r c.words asks.0
asks_kind c (PacketsOf r) asks = packets_kind r c.words asks
asks_kind c (TimesOf r) asks = times_kind r c.words asks

-- it is read by no command of a run file or a number
no_run_file_input : (what : What) → RunFileKind ≡ input_kind what → ⊥
unfolding input_kind
no_run_file_input (PathsOf image r) is = cc
no_run_file_input (CountsOf image r) is = cc
no_run_file_input (PacketsOf r) is = cc
no_run_file_input (TimesOf r) is = cc

no_number_input : (what : What) → NumberKind ≡ input_kind what → ⊥
unfolding input_kind
no_number_input (PathsOf image r) is = cc
no_number_input (CountsOf image r) is = cc
no_number_input (PacketsOf r) is = cc
no_number_input (TimesOf r) is = cc

-- ---- the causes of answers

-- nothing is wrong but a call that failed: words, image, run file and number are good, and no input is too long
record Good (c : Call) (old new : IoState) : Type 0 where
  words : meaning c.words ≡ None → ⊥
  image : (refusal : NoProgram) (text : List ℕ) → IsProgramBad c refusal text → ⊥
  run_file : (line : ℕ) (why : BenchWhy) (text : List ℕ) → IsBenchBad c line why text → ⊥
  own_image : (line : ℕ) (why : ImageWhy) (text : List ℕ) → IsOwnImageBad c line why text → ⊥
  own_run_file : (line : ℕ) (why : BenchWhy) (text : List ℕ) → IsOwnBenchBad c line why text → ⊥
  few : (what : What) → Asks c what → Exceeds (laid_of what) (listing_of what) c.input c.input' old new → ⊥
  own_few : IsOwnTooLong c old new → ⊥

module _ (c : Call) (old new : IoState) where
  done_or_faulted : Good c old new → NothingFailed c old new → (s : Status) → Answers c old new s → IsDoneOrFaulted s
  done_or_faulted good nothing status.Done answers = inl refl
  done_or_faulted good nothing status.Faulted answers = inr (inl refl)
  done_or_faulted good nothing status.NoMemory answers = inr (inr refl)
  done_or_faulted good nothing status.Usage (text, is, printed) = absurd (good.words is.meaningless)
  done_or_faulted good nothing (status.ImageBad line why) (inl (text, is, printed)) = absurd (good.image (BadText line why) text is)
  done_or_faulted good nothing (status.ImageBad line why) (inr (text, is, printed)) = absurd (good.own_image line why text is)
  done_or_faulted good nothing (status.ElfBad why) (text, is, printed) = absurd (good.image (BadFile why) text is)
  done_or_faulted good nothing (status.BenchBad line why) (inl (text, is, printed)) = absurd (good.run_file line why text is)
  done_or_faulted good nothing (status.BenchBad line why) (inr (text, is, printed)) = absurd (good.own_run_file line why text is)
  done_or_faulted good nothing status.InputTooLong (inl (what, asks, exceeds)) = absurd (good.few what asks exceeds)
  done_or_faulted good nothing status.InputTooLong (inr long) = absurd (good.own_few long)
  done_or_faulted good nothing status.ReadFault (inl f) = absurd (nothing.image f.rose)
  done_or_faulted good nothing status.ReadFault (inr (inl (asks, (image, read, (rose, none))))) = absurd (nothing.input rose)
  done_or_faulted good nothing status.ReadFault (inr (inr (what, asks, breaks))) = absurd (nothing.input breaks.rose)
  done_or_faulted good nothing status.WriteFault (rose, f) = absurd (nothing.out rose)

  -- and it is no fault
  done : (s : Status) → Answers c old new s → (Answers c old new status.Faulted → ⊥) → IsDoneOrFaulted s → IsDone s
  done s answers none (inl is) = inl is
  done s answers none (inr (inl is)) = absurd (none (subst (Answers c old new) is answers))
  done s answers none (inr (inr is)) = inr is

  -- ---- run files

  module _ (image : Image) (b : BenchParts) (asks : IsRunFileCall c.words) (has : HasImage c image) (file : HasRunFile c image b) where
    not_of_input : (what : What) → Asks c what → ⊥
    not_of_input what asked = no_run_file_input what (one_kind RunFileKind (input_kind what) c.words asks (asks_kind c what asked))

    not_of_number : (n : ℕ) (cut : Option ℕ) → IsSelftestOf n cut c.words → ⊥
    not_of_number n cut asked = let both : RunFileKind ≡ NumberKind = sym asks ∙ number_kind n cut c.words asked in cc

    refused_not : (line : ℕ) (why : BenchWhy) (text : List ℕ) → IsBenchBad c line why text → ⊥
    refused_not line why text (asked, (other, read, bad)) =
        let same = image_taken c image other has read in
        run_file_stands c.input c.input' file.file image b line why text file.shows file.accepted
        (subst (λ (i : Image). IsBadBench i c.input c.input' line why text) same bad)

    good_run_file : Good c old new
    good_run_file = record {
      words = λ none. let both : RunFileKind ≡ NoCommand = sym asks ∙ no_kind c.words none in cc;
      image = λ refusal text bad. image_stands c image refusal text has bad;
      run_file = refused_not;
      own_image = λ line why text bad. not_of_number bad.0 bad.1 bad.2;
      own_run_file = λ line why text bad. not_of_number bad.0 bad.1 bad.2;
      few = λ what asked exceeds. not_of_input what asked;
      own_few = λ long. not_of_number long.0.0 long.0.1 long.0.2;
    }

  -- ---- numbers

  module _ (n : ℕ) (cut : Option ℕ) (image : Image) (b : BenchParts) (asks : IsSelftestOf n cut c.words) (good : AreGood n image b)
      (few : length (trace_frames image b) ≤ most_input) where
    is_number : IsSelftestCall c.words
    is_number = number_kind n cut c.words asks

    no_input : (what : What) → Asks c what → ⊥
    no_input what asked = no_number_input what (one_kind NumberKind (input_kind what) c.words is_number (asks_kind c what asked))

    no_run_file : IsRunFileCall c.words → ⊥
    no_run_file asked = let both : NumberKind ≡ RunFileKind = sym is_number ∙ asked in cc

    no_image : IsImageCall c.words → ⊥
    no_image (p, named) = by (program_kind p c.words named)
      where
        by : IsPathCall c.words ⊎ IsRunFileCall c.words → ⊥
        by (inl path) = let both : NumberKind ≡ PathKind = sym is_number ∙ path in cc
        by (inr file) = no_run_file file

    same_number : (m : ℕ) (other : Option ℕ) → IsSelftestOf m other c.words → m ≡ n
    same_number m other asked = let both : Some (Selftest m other) ≡ Some (Selftest n cut) = sym asked ∙ asks in cc

    own_image_not : (line : ℕ) (why : ImageWhy) (text : List ℕ) → IsOwnImageBad c line why text → ⊥
    own_image_not line why text (m, other, asked, (refused, printed)) =
        let same = same_number m other asked in
        let here : image_of (generated m).image ≡ Ok image = ap (λ (k : ℕ). image_of (generated k).image) same ∙ good.image_is in
        apart {E = ℕ × ImageWhy} (image_of (generated m).image) image (line, why) here refused

    own_run_file_not : (line : ℕ) (why : BenchWhy) (text : List ℕ) → IsOwnBenchBad c line why text → ⊥
    own_run_file_not line why text (m, other, asked, ((parts, spells, refused), printed)) =
        let same = same_number m other asked in
        let here : image_of (generated n).image ≡ Ok parts = subst (λ (k : ℕ). image_of (generated k).image ≡ Ok parts) same spells in
        let images = one_image (generated n).image (generated n).image image parts refl good.image_is here in
        let file : bench_of parts (generated m).bench ≡ Ok b =
        ap (λ (k : ℕ). bench_of parts (generated k).bench) same ∙ ap (λ (i : Image). bench_of i (generated n).bench) images ∙ good.bench_is in
        apart {E = ℕ × BenchWhy} (bench_of parts (generated m).bench) b (line, why) file refused

    own_long_not : IsOwnTooLong c old new → ⊥
    own_long_not ((m, other, asked, (parts, bench, are, long)), printed) =
        let same = same_number m other asked in
        let one = one_number n image parts b bench good (subst (λ (k : ℕ). AreGood k parts bench) same are) in
        let here : most_input < length (trace_frames image bench) = subst (λ (i : Image). most_input < length (trace_frames i bench)) one.0 long in
        let there : most_input < length (trace_frames image b) = subst (λ (p : BenchParts). most_input < length (trace_frames image p)) one.1 here in
        omega (arith, few, there)

    good_number : Good c old new
    good_number = record {
      words = λ none. let both : NumberKind ≡ NoCommand = sym is_number ∙ no_kind c.words none in cc;
      image = λ refusal text bad. no_image (bad.program, bad.named);
      run_file = λ line why text bad. no_run_file bad.0;
      own_image = own_image_not;
      own_run_file = own_run_file_not;
      few = λ what asked exceeds. no_input what asked;
      own_few = own_long_not;
    }

  -- ---- paths and packets

  exceeds_not : HasInput c → (what : What) → Asks c what → Exceeds (laid_of what) (listing_of what) c.input c.input' old new → ⊥
  exceeds_not has what asked exceeds =
      let front = taken_front c.input.bytes c.input'.bytes has.bytes (exceeds.bytes ++ exceeds.byte ∷ []) has.shows exceeds.took in
      omega (arith, front, has.few, exceeds.many, length-append exceeds.bytes (exceeds.byte ∷ []))

  module _ (image : Image) (asks : IsPathCall c.words) (has : HasImage c image) (input : HasInput c) where
    path_no_number : (n : ℕ) (cut : Option ℕ) → IsSelftestOf n cut c.words → ⊥
    path_no_number n cut asked = let both : PathKind ≡ NumberKind = sym asks ∙ number_kind n cut c.words asked in cc

    good_path : Good c old new
    good_path = record {
      words = λ none. let both : PathKind ≡ NoCommand = sym asks ∙ no_kind c.words none in cc;
      image = λ refusal text bad. image_stands c image refusal text has bad;
      run_file = λ line why text bad. let both : PathKind ≡ RunFileKind = sym asks ∙ bad.0 in cc;
      own_image = λ line why text bad. path_no_number bad.0 bad.1 bad.2;
      own_run_file = λ line why text bad. path_no_number bad.0 bad.1 bad.2;
      few = exceeds_not input;
      own_few = λ long. path_no_number long.0.0 long.0.1 long.0.2;
    }

  module _ (asks : IsBareCall c.words) (input : HasInput c) where
    bare_no_number : (n : ℕ) (cut : Option ℕ) → IsSelftestOf n cut c.words → ⊥
    bare_no_number n cut asked = let both : BareKind ≡ NumberKind = sym asks ∙ number_kind n cut c.words asked in cc

    bare_no_run_file : IsRunFileCall c.words → ⊥
    bare_no_run_file asked = let both : BareKind ≡ RunFileKind = sym asks ∙ asked in cc

    bare_no_image : IsImageCall c.words → ⊥
    bare_no_image (p, named) = by (program_kind p c.words named)
      where
        by : IsPathCall c.words ⊎ IsRunFileCall c.words → ⊥
        by (inl path) = let both : BareKind ≡ PathKind = sym asks ∙ path in cc
        by (inr file) = bare_no_run_file file

    good_bare : Good c old new
    good_bare = record {
      words = λ none. let both : BareKind ≡ NoCommand = sym asks ∙ no_kind c.words none in cc;
      image = λ refusal text bad. bare_no_image (bad.program, bad.named);
      run_file = λ line why text bad. bare_no_run_file bad.0;
      own_image = λ line why text bad. bare_no_number bad.0 bad.1 bad.2;
      own_run_file = λ line why text bad. bare_no_number bad.0 bad.1 bad.2;
      few = exceeds_not input;
      own_few = λ long. bare_no_number long.0.0 long.0.1 long.0.2;
    }

pub run_files_are_done : RunFilesAreDone
run_files_are_done c old new s image b asks has file nothing answers =
    done c old new s answers (λ faulted. not_of_input c old new image b asks has file faulted.0 faulted.1)
    (done_or_faulted c old new (good_run_file c old new image b asks has file) nothing s answers)

pub numbers_are_done : NumbersAreDone
numbers_are_done c old new s n cut image b asks good few nothing answers =
    done c old new s answers (λ faulted. no_input c old new n cut image b asks good few faulted.0 faulted.1)
    (done_or_faulted c old new (good_number c old new n cut image b asks good few) nothing s answers)

pub paths_are_done : PathsAreDone
paths_are_done c old new s image asks has input nothing answers =
    done_or_faulted c old new (good_path c old new image asks has input) nothing s answers

pub packets_are_done : PacketsAreDone
packets_are_done c old new s asks input nothing answers = done_or_faulted c old new (good_bare c old new asks input) nothing s answers

-- ---- one text of an input

-- what is printed has a fault or has none
abbrev TextOf : What → List ℕ → Bool → Type 0
TextOf what bytes faulty = (lines : List Printed) × IsText (listing_of what) ((laid_of what).whole bytes) ((laid_of what).left bytes) lines faulty

decided : (c : Call) (what : What) → Asks c what → (bytes : List ℕ) (faulty also : Bool) → TextOf what bytes faulty → TextOf what bytes also → faulty ≡ also
decided c (PathsOf image r) (words, read) bytes faulty also (lines, text) (others, too) =
    (one_text_of_paths image (sizes_by r) (λ id. are_settings r.units id (path_table r c.words words)) _ _ lines others faulty also text too).1
decided c (CountsOf image r) (words, read) bytes faulty also (lines, text) (others, too) =
    (one_text_of_counts image (sizes_by r) (λ id. are_settings r.units id (counts_table r c.words words)) _ _ lines others faulty also text too).1
decided c (PacketsOf r) words bytes faulty also (lines, text) (others, too) =
    (one_text_of_packets (sizes_by r) (λ id. are_settings r.units id (packets_table r c.words words)) _ _ lines others faulty also text too).1
decided c (TimesOf r) words bytes faulty also (lines, text) (others, too) =
    (one_text_of_times (sizes_by r) (λ id. are_settings r.units id (times_table r c.words words)) _ _ lines others faulty also text too).1

module _ (c d : Call) (alike : AreAlike c d) where
  same_means : meaning c.words ≡ meaning d.words
  same_means = ap meaning alike.words

  -- such calls over one image, or without one
  same_image : (image other : Image) → HasRead c image → HasRead d other → IsPathCall c.words
      → IsBareCall c.words ⊎ ((bytes : List ℕ) × ShowAlike c.image d.image bytes) → other ≡ image
  same_image image other read read' is (inl bare) = absurd (let both : PathKind ≡ BareKind = sym is ∙ bare in cc)
  same_image image other (p, named, (text, taken, spells)) (q, named', (text', taken', spells')) is (inr (bytes, (shows, shows'))) =
      let one = taken_are c.image.bytes c.image'.bytes bytes text shows taken in
      let also = taken_are d.image.bytes d.image'.bytes bytes text' shows' taken' in
      let programs = one_program p q c.words named (ap (option_and_then program_of) same_means ∙ named') in
      let by_form = subst (λ (r : Program). Spells r.form text' other) programs spells' in
      one_spelled p.form text text' image other (also ∙ sym one) spells by_form

  -- two such calls ask for one thing
  same_what : (what other : What) → Asks c what → Asks d other → other ≡ what
  same_what (PathsOf image r) (PathsOf other order) (words, read) (words', read') =
      let both : Some (Path words.0 r) ≡ Some (Path words'.0 order) = sym words.1 ∙ same_means ∙ words'.1 in
      let images : other ≡ image = same_image image other read read' (path_kind r c.words words) alike.images in
      cc
  same_what (CountsOf image r) (CountsOf other order) (words, read) (words', read') =
      let both : Some (Counts words.0 r) ≡ Some (Counts words'.0 order) = sym words.1 ∙ same_means ∙ words'.1 in
      let images : other ≡ image = same_image image other read read' (counts_kind r c.words words) alike.images in
      cc
  same_what (CountsOf image r) (PathsOf other order) (words, read) (words', read') =
      let both : Some (Counts words.0 r) ≡ Some (Path words'.0 order) = sym words.1 ∙ same_means ∙ words'.1 in absurd cc
  same_what (PathsOf image r) (CountsOf other order) (words, read) (words', read') =
      let both : Some (Path words.0 r) ≡ Some (Counts words'.0 order) = sym words.1 ∙ same_means ∙ words'.1 in absurd cc
  same_what (CountsOf image r) (PacketsOf order) (words, read) words' =
      let both : Some (Counts words.0 r) ≡ Some (Packets order) = sym words.1 ∙ same_means ∙ words' in absurd cc
  same_what (CountsOf image r) (TimesOf order) (words, read) words' =
      let both : Some (Counts words.0 r) ≡ Some (Times order) = sym words.1 ∙ same_means ∙ words' in absurd cc
  same_what (PacketsOf r) (CountsOf other order) words (words', read') =
      let both : Some (Packets r) ≡ Some (Counts words'.0 order) = sym words ∙ same_means ∙ words'.1 in absurd cc
  same_what (TimesOf r) (CountsOf other order) words (words', read') =
      let both : Some (Times r) ≡ Some (Counts words'.0 order) = sym words ∙ same_means ∙ words'.1 in absurd cc
  same_what (PathsOf image r) (PacketsOf order) (words, read) words' =
      let both : Some (Path words.0 r) ≡ Some (Packets order) = sym words.1 ∙ same_means ∙ words' in absurd cc
  same_what (PacketsOf r) (PathsOf other order) words (words', read') =
      let both : Some (Packets r) ≡ Some (Path words'.0 order) = sym words ∙ same_means ∙ words'.1 in absurd cc
  same_what (PacketsOf r) (PacketsOf order) words words' =
      let both : Some (Packets r) ≡ Some (Packets order) = sym words ∙ same_means ∙ words' in cc
  same_what (TimesOf r) (TimesOf order) words words' =
      let both : Some (Times r) ≡ Some (Times order) = sym words ∙ same_means ∙ words' in cc
  same_what (TimesOf r) (PathsOf other order) words (words', read') =
      let both : Some (Times r) ≡ Some (Path words'.0 order) = sym words ∙ same_means ∙ words'.1 in absurd cc
  same_what (TimesOf r) (PacketsOf order) words words' =
      let both : Some (Times r) ≡ Some (Packets order) = sym words ∙ same_means ∙ words' in absurd cc
  same_what (PathsOf image r) (TimesOf order) (words, read) words' =
      let both : Some (Path words.0 r) ≡ Some (Times order) = sym words.1 ∙ same_means ∙ words' in absurd cc
  same_what (PacketsOf r) (TimesOf order) words words' =
      let both : Some (Packets r) ≡ Some (Times order) = sym words ∙ same_means ∙ words' in absurd cc

  -- the text that was printed is that of the input
  text_of_input : (e : Call) (old new : IoState) (what : What) (faulty : Bool) → e.input.bytes ≡ Some alike.input_bytes
      → Completes (laid_of what) (listing_of what) e.input e.input' old new faulty → TextOf what alike.input_bytes faulty
  text_of_input e old new what faulty shows done =
      let bytes = taken_are e.input.bytes e.input'.bytes alike.input_bytes done.bytes shows done.read in
      (done.lines, subst (λ (l : List ℕ). IsText (listing_of what) ((laid_of what).whole l) ((laid_of what).left l) done.lines faulty) bytes done.shown)

  other_kind : (what : What) → Asks d what → IsOfKind (input_kind what) c.words
  other_kind what asked = ap kind_of same_means ∙ asks_kind d what asked

  not_both : (old new old' new' : IoState) → Answers c old new status.Done → Answers d old' new' status.Faulted → ⊥
  not_both old new old' new' (inl (what, asks, done)) (other, asked, faulted) =
      let same = same_what what other asks asked in
      let text = text_of_input c old new what false alike.inputs.0 done in
      let too = subst (λ (w : What). TextOf w alike.input_bytes true) same (text_of_input d old' new' other true alike.inputs.1 faulted) in
      let both : false ≡ true = decided c what asks alike.input_bytes false true text too in cc
  not_both old new old' new' (inr (inl (text, (words, rest), printed))) (what, asked, faulted) =
      no_run_file_input what (one_kind RunFileKind (input_kind what) c.words (retired_kind c.words words) (other_kind what asked))
  not_both old new old' new' (inr (inr (inl (frames, (last, every, (words, rest)), printed)))) (what, asked, faulted) =
      no_run_file_input what (one_kind RunFileKind (input_kind what) c.words (trace_kind last every c.words words) (other_kind what asked))
  not_both old new old' new' (inr (inr (inr (text, (n, cut, words, summary), printed)))) (what, asked, faulted) =
      no_number_input what (one_kind NumberKind (input_kind what) c.words (number_kind n cut c.words words) (other_kind what asked))

pub faults_are_decided : FaultsAreDecided
faults_are_decided c d old new old' new' alike = not_both c d alike old new old' new'
