-- What `trace` appended is the frames of a good run file, and `path` of them answers its retired paths.
use Rattle.std.proofs.Common.{◌≡◌, ℕ, Bool, true, false, List, ◌++◌, length, Option, Some, None, Result, Ok, Err}
use Rattle.std.proofs.Common.{refl, sym, ap, subst, ◌∙◌, inl, inr}
use Rattle.std.proofs.lemmas.List.{append_cancel_left}
use Rattle.std.specs.Option.{option_and_then}
use Rattle.std.specs.Prelude.{nat_lt, if◌then◌else◌}
use Rattle.run_file.proofs.Benches.{parsed_good}
use Rattle.run_file.specs.BenchText.{parsed}
use Rattle.run_file.specs.Parts.{BenchParts, IsBench}
use Rattle.run_file.specs.Refusals.{bench_of, most_text, refusal_among, unless, unless_refused}
use Rattle.run_file.specs.declared.fault.BenchWhy.{BenchWhy}
use Rattle.command_words.specs.Words.{Program, program_of}
use Rattle.command_words.specs.declared.words.ProgramForm.{ProgramForm}
use Rattle.program_image.specs.declared.image.Image.{Image}
use Rattle.run_file.specs.declared.fault.BenchWhy.TheVariants.{TooLong}
use Rattle.answer_laws.specs.ReadBack.{AsksBack, PathReadsBack, ReadsBack, Traces}
use Rattle.std.specs.Io.KnownBytes.{Appends}
use Rattle.answer_laws.proofs.Complete.{paths_are_done}
use Rattle.answer_laws.proofs.TracedCalls.{prints_traces, taken_are}
use Rattle.trace_cmd.specs.Answers.{Answers, Asks, Call, HasImage, IsPathUnder, IsRetired, IsTested, IsTraced}
use Rattle.trace_cmd.specs.Programs.{IsSpelled, Spells}
use Rattle.trace_cmd.proofs.Programs.{one_program}
use Rattle.answer_laws.proofs.WordTables.{trace_counts}
use Rattle.answer_laws.specs.Complete.{IsDone, IsDoneOrFaulted}
use Rattle.trace_cmd.specs.Printing.{CountsOf, PacketsOf, PathsOf, TimesOf, What}
use Rattle.traced_runs.specs.Traced.{AreAccepted, AreTracedFrames, IsTracedFrames, trace_frames, with_syncs}
use Rattle.answer_laws.specs.TracedCalls.{IsPathOfTrace, PrintsTraces, written_under}
use Rattle.answer_lines.specs.declared.status.Status.{Status}
use Rattle.answer_lines.specs.declared.status.Status.TheVariants as status
use Rattle.trace_cmd.proofs.WordKinds.{one_framing, path_kind, path_program}
use Rattle.trace_io.specs.Bytes.{AppendsAll}
use Rattle.trace_io.specs.State.{IoState}

-- ---- a run file whose events are accepted

by_refusal : (refusal : Option (ℕ × BenchWhy)) (b other : BenchParts) → unless refusal b ≡ Ok other → (b ≡ other) × (refusal ≡ None)
by_refusal None b other is = (cc, refl)
by_refusal (Some fault) b other is = absurd cc

by_lines : (image : Image) (r : Result BenchParts (ℕ × BenchWhy)) (b : BenchParts) → unless_refused image r ≡ Ok b
    → (r ≡ Ok b) × AreAccepted image b
by_lines image (Err fault) b is = absurd cc
by_lines image (Ok parts) b is =
    let both = by_refusal (refusal_among image parts.streams) parts b is in
    (ap Ok both.0, subst (λ (p : BenchParts). refusal_among image p.streams ≡ None) both.0 both.1)

by_length : (long : Bool) (image : Image) (file : List ℕ) (b : BenchParts)
    → (if long then Err (0, TooLong) else unless_refused image (parsed file)) ≡ Ok b → (parsed file ≡ Ok b) × AreAccepted image b
by_length true image file b is = absurd cc
by_length false image file b is = by_lines image (parsed file) b is

accepted_parts : (image : Image) (file : List ℕ) (b : BenchParts) → bench_of image file ≡ Ok b → (parsed file ≡ Ok b) × AreAccepted image b
accepted_parts image file b is = by_length (nat_lt most_text (length file)) image file b is

-- ---- what was appended

appended_are : (old new : Option (List ℕ)) (before frames bytes : List ℕ) → old ≡ Some before → new ≡ Some (before ++ frames) → Appends old new bytes
    → bytes ≡ frames
appended_are None new before frames bytes was is appends = absurd cc
appended_are (Some xs) None before frames bytes was is appends = absurd cc
appended_are (Some xs) (Some ys) before frames bytes was is appends =
    let here : xs ≡ before = cc in let there : ys ≡ before ++ frames = cc in
    append_cancel_left before bytes frames (ap (λ (l : List ℕ). l ++ bytes) (sym here) ∙ sym appends ∙ there)

-- ---- the call of `trace`

module _ (t : Call) (old new : IoState) (program file written : List ℕ) (traces : Traces t old new program file written) where
  not_of_input : (what : What) → Asks t what → ⊥
  not_of_input (PathsOf image r) asked = let both : _ ≡ _ = sym asked.0.1 ∙ traces.words in cc
  not_of_input (CountsOf image r) asked = let both : _ ≡ _ = sym asked.0.1 ∙ traces.words in cc
  not_of_input (TimesOf r) asked = let both : _ ≡ _ = sym asked ∙ traces.words in cc
  not_of_input (PacketsOf r) asked = let both : _ ≡ _ = sym asked ∙ traces.words in cc

  not_retired : (bytes : List ℕ) → IsRetired t bytes → ⊥
  not_retired bytes ((p, words), over) = let both : _ ≡ _ = sym words ∙ traces.words in cc

  not_tested : (bytes : List ℕ) → IsTested t bytes → ⊥
  not_tested bytes (n, cut, words, summary) = let both : _ ≡ _ = sym words ∙ traces.words in cc

  all_traced : (last : Option ℕ) (image : Image) (bytes : List ℕ) → last ≡ None → AreTracedFrames image last t.input t.input' bytes
      → IsTracedFrames image t.input t.input' bytes
  all_traced last image bytes none are = subst (λ (l : Option ℕ). AreTracedFrames image l t.input t.input' bytes) none are

  -- the program's file and the run file are good, and this was written of their frames
  record Good : Type 0 where
    image : Image
    bench : BenchParts
    spells : IsSpelled traces.of program image
    bench_is : bench_of image file ≡ Ok bench
    written_is : written ≡ with_syncs traces.every (trace_frames image bench)

  traced_good : (bytes : List ℕ) → IsTraced t bytes → AppendsAll old new bytes → Good
  traced_good bytes (last, every, (asked, (parts, (p, named, (other, taken, spells)), are))) appends =
      let framing = one_framing last every None traces.every t.words asked (traces.of, traces.words) in
      let traced = all_traced last parts are.frames framing.0 are.traced in
      let same = taken_are t.image.bytes t.image'.bytes program other traces.image_bytes taken in
      let run_file = taken_are t.input.bytes t.input'.bytes file traced.run_file traces.run_file traced.read in
      let all = appended_are old.bytes new.bytes traces.before written bytes traces.shown traces.appended appends in
      let programs = one_program traces.of p t.words (ap (option_and_then program_of) traces.words) named in
      let by_form = subst (λ (q : Program). IsSpelled q other parts) programs spells in
      record {
        image = parts;
        bench = traced.bench;
        spells = subst (λ (l : List ℕ). IsSpelled traces.of l parts) same by_form;
        bench_is = subst (λ (l : List ℕ). bench_of parts l ≡ Ok traced.bench) run_file traced.accepted;
        written_is = sym all ∙ are.synced ∙ ap (λ (e : Option ℕ). with_syncs e are.frames) framing.1 ∙ ap (with_syncs traces.every) traced.written;
      }

  good : Answers t old new status.Done → Good
  good (inl (what, asked, done)) = absurd (not_of_input what asked)
  good (inr (inl (bytes, retired, printed))) = absurd (not_retired bytes retired)
  good (inr (inr (inl (bytes, traced, printed)))) = traced_good bytes traced printed
  good (inr (inr (inr (bytes, tested, printed)))) = absurd (not_tested bytes tested)

  -- ---- the call of `path`

  module _ (g : Good) (p : Call) (out out' : IoState) (answer : Status)
      (asks : AsksBack p out out' program written traces.of.form traces.every g.bench) (answers : Answers p out out' answer) where
    is_bench : IsBench g.bench
    is_bench = parsed_good file g.bench (accepted_parts g.image file g.bench g.bench_is).0

    accepted : AreAccepted g.image g.bench
    accepted = (accepted_parts g.image file g.bench g.bench_is).1

    abbrev under : IsPathUnder (written_under traces.every asks.table) p.words
    under = (asks.of, asks.words)

    has_image : HasImage p g.image
    has_image = record {
      program = asks.of;
      named = path_program (written_under traces.every asks.table) p.words under;
      bytes = program;
      shows = asks.image_bytes;
      spells = subst (λ (f : ProgramForm). Spells f program g.image) (sym asks.same_form) g.spells;
    }

    of_trace : IsPathOfTrace p g.image g.bench
    of_trace = record {
      table = asks.table;
      suits = asks.suits;
      every = traces.every;
      some = trace_counts traces.of None traces.every t.words traces.words;
      words = under;
      is_same = has_image;
      input = asks.input ∙ ap Some g.written_is;
    }

    prints : PrintsTraces g.image g.bench out out' answer
    prints = prints_traces p out out' g.image g.bench is_bench accepted of_trace answer answers

    decided : IsDoneOrFaulted answer
    decided = paths_are_done p out out' answer g.image (path_kind (written_under traces.every asks.table) p.words under) has_image
        (record { bytes = written; shows = asks.input; few = asks.few }) asks.nothing answers

    no_fault : IsDoneOrFaulted answer → IsDone answer
    no_fault (inl is) = inl is
    no_fault (inr (inl is)) = absurd (subst (PrintsTraces g.image g.bench out out') is prints)
    no_fault (inr (inr is)) = inr is

    back : ReadsBack g.image g.bench out out' answer
    back = record { done = no_fault decided; printed = λ is. subst (PrintsTraces g.image g.bench out out') is prints }

pub reads_back : PathReadsBack
reads_back t old new program file written traces =
    let g = good t old new program file written traces traces.answered in
    (g.image, g.bench, g.spells, g.bench_is, back t old new program file written traces g)
