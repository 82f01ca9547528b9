-- Answers of a call from those of its parts, and behind the flush.
use Rattle.std.proofs.Common.{◌≡◌, ℕ, ◌≤◌, true, false, List, [], None, Option, Result, Ok, Err, refl, sym, subst, inl, inr, arith}
use Rattle.std.specs.Prelude.{IfOk}
use Rattle.std.proofs.KnownBytes.{Appends-kept, Appends-nil, Consumes-nil}
use Rattle.path_text.specs.Writing.{Writes}
use Rattle.program_image.specs.declared.image.Image.{Image}
use Rattle.run_file.specs.declared.fault.BenchWhy.{BenchWhy}
use Rattle.program_image.specs.declared.fault.ImageWhy.{ImageWhy}
use Rattle.trace_cmd.specs.Answers.{Answers, AnswersSo, Asks, Call, HasRead, IsBenchBad, IsBenchFault, IsCall, IsCountsUnder, IsImageFault, IsNoMemory}
use Rattle.trace_cmd.specs.Answers.{IsOwnBenchBad, IsOwnImageBad, IsOwnTooLong, IsPacketsUnder, IsPathUnder, IsProgramBad, IsRetired, IsRetiredCall}
use Rattle.trace_cmd.specs.Answers.{IsRunFileCall, IsSelftestOf, IsTested, IsTextOf, IsTimesUnder, IsTraceOf, IsTraced, IsUsage, IsWriteFault}
use Rattle.trace_cmd.specs.Answers.{BenchText, ImageText, OwnBenchText, OwnImageText, RetiredText, TestText, TraceText, UsageText}
use Rattle.trace_cmd.specs.Programs.{BadFile, BadText, NoProgram}
use Rattle.trace_cmd.proofs.WordKinds.{counts_kind, one_kind, packets_kind, path_kind, retired_kind, times_kind, trace_kind}
use Rattle.answer_lines.specs.UsageLine.{usage_line}
use Rattle.answer_lines.specs.Prints.{Prints, PrintsFront}
use Rattle.capture_streams.specs.Laid.{IsLaid, frames_laid_is, raw_laid_is}
use Rattle.retired_paths.specs.Retired.{RetiresSo, RunsSo}
use Rattle.input_pieces.specs.Listed.{Interrupts, Listed}
use Rattle.trace_cmd.specs.Printing.{What, intake_of, laid_in, laid_of, listing_of}
use Rattle.traced_runs.specs.Selftest.{TestsSo}
use Rattle.traced_runs.specs.Traced.{TracesSo}
use Rattle.command_words.specs.Words.{BareKind, Intake, PathKind, Retired, RunFileKind, Selftest, Trace, meaning}
use Rattle.answer_lines.specs.declared.status.Status.{Status}
use Rattle.answer_lines.specs.declared.status.Status.TheVariants as status
use Rattle.command_words.specs.declared.words.Layout.{Layout}
use Rattle.command_words.specs.declared.words.Layout.TheVariants.{Raw, Frames, Wrapped, Synced}
use Rattle.input_pieces.proofs.Interrupts.{broken_cut, completed_cut, exceeded_cut}
use Rattle.trace_io.specs.Bytes.{AppendsAll, KeepsBytes, TakesAtMost}
use Rattle.trace_io.specs.Causes.{HasCause, Rose}
use Rattle.trace_io.specs.State.{IoState}
use Rattle.trace_io.specs.declared.traits.Failed.{Failed}
use Rattle.trace_io.proofs.Known.{front_kept, front_of_all}
use Rattle.sync_frames.specs.Laid.{synced_laid_is}
use Rattle.ring_capture.specs.Laid.{wrapped_laid_is}

-- where nothing was read, nothing was taken
pub none_taken : (s : IoState) (most : ℕ) → TakesAtMost s s most
none_taken s most = ([], omega arith, Consumes-nil s.bytes)

-- neither paths nor their counts nor packets nor times are of a run file
pub path_of_no_run_file : (r : Intake) (words : List (List ℕ)) → IsPathUnder r words → IsRunFileCall words → ⊥
path_of_no_run_file r words path file = let both : PathKind ≡ RunFileKind = one_kind PathKind RunFileKind words (path_kind r words path) file in cc

pub counts_of_no_run_file : (r : Intake) (words : List (List ℕ)) → IsCountsUnder r words → IsRunFileCall words → ⊥
counts_of_no_run_file r words counts file =
    let both : PathKind ≡ RunFileKind = one_kind PathKind RunFileKind words (counts_kind r words counts) file in cc

pub packets_of_no_run_file : (r : Intake) (words : List (List ℕ)) → IsPacketsUnder r words → IsRunFileCall words → ⊥
packets_of_no_run_file r words packets file =
    let both : BareKind ≡ RunFileKind = one_kind BareKind RunFileKind words (packets_kind r words packets) file in cc

pub times_of_no_run_file : (r : Intake) (words : List (List ℕ)) → IsTimesUnder r words → IsRunFileCall words → ⊥
times_of_no_run_file r words times file =
    let both : BareKind ≡ RunFileKind = one_kind BareKind RunFileKind words (times_kind r words times) file in cc

-- ---- what a failed write leaves of each answer

module _ (c : Call) (old new : IoState) where
  own_image_front : (line : ℕ) (why : ImageWhy) → PrintsFront (IsOwnImageBad c line why) old new → IsWriteFault c old new
  own_image_front line why front = inl (OwnImageText line why, front)

  own_bench_front : (line : ℕ) (why : BenchWhy) → PrintsFront (IsOwnBenchBad c line why) old new → IsWriteFault c old new
  own_bench_front line why front = inl (OwnBenchText line why, front)

  tested_front : PrintsFront (IsTested c) old new → IsWriteFault c old new
  tested_front front = inl (TestText, front)

  too_long_front : IsOwnTooLong c old new → IsWriteFault c old new
  too_long_front long = inr (inr (inr (inr (inr long))))

  traced_front : PrintsFront (IsTraced c) old new → IsWriteFault c old new
  traced_front front = inl (TraceText, front)

  bench_fault_front : IsBenchFault c old new → IsWriteFault c old new
  bench_fault_front fault = inr (inr (inr (inr (inl fault))))

  bench_front : (line : ℕ) (why : BenchWhy) → PrintsFront (IsBenchBad c line why) old new → IsWriteFault c old new
  bench_front line why front = inl (BenchText line why, front)

  retired_front : PrintsFront (IsRetired c) old new → IsWriteFault c old new
  retired_front front = inl (RetiredText, front)

  memory_front : IsNoMemory c old new → IsWriteFault c old new
  memory_front fault = inr (inr (inr (inl fault)))

  image_fault_front : IsImageFault c old new → IsWriteFault c old new
  image_fault_front fault = inr (inr (inl fault))

  -- of an input
  abbrev Cut : What → Type 0
  Cut what = Interrupts (laid_of what) (listing_of what) c.input c.input' old new

  input_front : (what : What) → Asks c what → Cut what → IsWriteFault c old new
  input_front what asks front = inr (inl (what, asks, front))

  image_front : (refusal : NoProgram) → PrintsFront (IsProgramBad c refusal) old new → IsWriteFault c old new
  image_front refusal front = inl (ImageText refusal, front)

-- ---- before the flush

pub layout_is_laid : (layout : Layout) → IsLaid (laid_in layout)
layout_is_laid Raw = raw_laid_is
layout_is_laid Frames = frames_laid_is
layout_is_laid (Wrapped k) = wrapped_laid_is k
layout_is_laid Synced = synced_laid_is

-- what is asked for was printed of the input, or a write failed
pub so_of_listed : (c : Call) (what : What) → Asks c what → (old new : IoState) (r : Result Status Failed)
    → Listed (laid_of what) (listing_of what) c.input c.input' old new r → HasCause old new r → AnswersSo c old new r
so_of_listed c what asks old new (Ok status.Done) listed cause = inl (what, asks, listed)
so_of_listed c what asks old new (Ok status.Faulted) listed cause = (what, asks, listed)
so_of_listed c what asks old new (Ok status.ReadFault) listed cause = inr (inr (what, asks, listed))
so_of_listed c what asks old new (Ok status.InputTooLong) listed cause = inl (what, asks, listed)
so_of_listed c what asks old new (Ok status.Usage) listed cause = absurd listed
so_of_listed c what asks old new (Ok (status.ImageBad line why)) listed cause = absurd listed
so_of_listed c what asks old new (Ok (status.ElfBad why)) listed cause = absurd listed
so_of_listed c what asks old new (Ok (status.BenchBad line why)) listed cause = absurd listed
so_of_listed c what asks old new (Ok status.WriteFault) listed cause = absurd listed
so_of_listed c what asks old new (Ok status.NoMemory) listed cause = absurd listed
so_of_listed c what asks old new (Err e) listed cause = (cause.failed, input_front c old new what asks listed)

-- nothing was printed
pub nothing_printed : (old new : IoState) → new ≡ old → AppendsAll old new []
nothing_printed old new same = subst (λ (s : IoState). AppendsAll old s []) (sym same) (Appends-nil old.bytes)

pub so_of_memory : (c : Call) (old new : IoState) → IsCall c.words → c.input' ≡ c.input → new ≡ old → IsNoMemory c old new
so_of_memory c old new command untouched same = record { command = inl command; untouched = inl untouched; printed = nothing_printed old new same }

-- the words could not be read for want of memory
pub so_of_words : (c : Call) (old : IoState) → c.image' ≡ c.image → c.input' ≡ c.input → IsNoMemory c old old
so_of_words c old image input = record { command = inr (image, input); untouched = inl input; printed = nothing_printed old old refl }

-- the memory was wanting, and nothing was touched
pub so_of_none : (c : Call) (old new : IoState) (r : Result Status Failed) → IsCall c.words → r ≡ Ok status.NoMemory → c.input' ≡ c.input → new ≡ old
    → AnswersSo c old new r
so_of_none c old new r command none input out = subst (AnswersSo c old new) (sym none) (so_of_memory c old new command input out)

-- the line of usage
pub so_of_usage : (c : Call) (old new : IoState) (r : Result Status Failed) → meaning c.words ≡ None → Writes old new r usage_line
    → IfOk r (λ s. s ≡ status.Usage) → AnswersSo c old new r
so_of_usage c old new (Ok s) none w same =
    subst (λ (t : Status). Answers c old new t) (sym same) (usage_line, record { meaningless = none; printed = refl }, w.whole)
so_of_usage c old new (Err e) none w same = (w.cause.failed, inl (UsageText, (usage_line, record { meaningless = none; printed = refl }, w.front)))

-- a run file was answered over the image
module _ (c : Call) (image : Image) (asks : IsRunFileCall c.words) (some : IsCall c.words) (read : HasRead c image) (kind : List ℕ → Type 0)
    (old new : IoState) (all : Prints kind old new → Answers c old new status.Done) (part : PrintsFront kind old new → IsWriteFault c old new) where
  by_run_file : (r : Result Status Failed) → RunsSo kind image c.input c.input' old new r → HasCause old new r → AnswersSo c old new r
  by_run_file (Ok status.Done) prints cause = all prints
  by_run_file (Ok (status.BenchBad line why)) (text, is, printed) cause = inl (text, (asks, (image, read, is)), printed)
  by_run_file (Ok status.ReadFault) (rose, none) cause = inr (inl (asks, (image, read, (rose, none))))
  by_run_file (Ok status.NoMemory) none cause = record { command = inl some; untouched = inr asks; printed = none }
  by_run_file (Ok status.Usage) none cause = absurd none
  by_run_file (Ok (status.ImageBad line why)) none cause = absurd none
  by_run_file (Ok (status.ElfBad why)) none cause = absurd none
  by_run_file (Ok status.Faulted) none cause = absurd none
  by_run_file (Ok status.WriteFault) none cause = absurd none
  by_run_file (Ok status.InputTooLong) none cause = absurd none
  by_run_file (Err e) (inl prints) cause = (cause.failed, part prints)
  by_run_file (Err e) (inr (line, why, (text, is, front))) cause =
      (cause.failed, bench_front c old new line why (text, (asks, (image, read, is)), front))

pub so_of_retired : (c : Call) (image : Image) → IsRetiredCall c.words → HasRead c image → (old new : IoState) (r : Result Status Failed)
    → RetiresSo image c.input c.input' old new r → HasCause old new r → AnswersSo c old new r
so_of_retired c image asks read old new =
    by_run_file c image (retired_kind c.words asks) (Retired asks.0, asks.1) read _ old new
    (λ prints. inr (inl (prints.0, (asks, (image, read, prints.1)), prints.2)))
    (λ prints. retired_front c old new (prints.0, (asks, (image, read, prints.1)), prints.2))

pub so_of_traced : (c : Call) (image : Image) (last every : Option ℕ) → IsTraceOf last every c.words → HasRead c image → (old new : IoState)
    (r : Result Status Failed) → TracesSo image last every c.input c.input' old new r → HasCause old new r → AnswersSo c old new r
so_of_traced c image last every asks read old new =
    by_run_file c image (trace_kind last every c.words asks) (Trace asks.0 last every, asks.1) read _ old new
    (λ prints. inr (inr (inl (prints.0, (last, every, (asks, (image, read, prints.1))), prints.2))))
    (λ prints. traced_front c old new (prints.0, (last, every, (asks, (image, read, prints.1))), prints.2))

-- a number was answered, and the input not touched
module _ (c : Call) (n : ℕ) (cut : Option ℕ) (asks : IsSelftestOf n cut c.words) (untouched : c.input' ≡ c.input) (old new : IoState) where
  pub so_of_number : (r : Result Status Failed) → TestsSo n cut old new r → HasCause old new r → AnswersSo c old new r
  so_of_number (Ok status.Done) (text, is, printed) cause = inr (inr (inr (text, (n, cut, asks, is), printed)))
  so_of_number (Ok (status.ImageBad line why)) (text, is, printed) cause = inr (text, (n, cut, asks, is), printed)
  so_of_number (Ok (status.BenchBad line why)) (text, is, printed) cause = inr (text, (n, cut, asks, is), printed)
  so_of_number (Ok status.InputTooLong) (long, none) cause = inr ((n, cut, asks, long), none)
  so_of_number (Ok status.NoMemory) none cause = record { command = inl (Selftest n cut, asks); untouched = inl untouched; printed = none }
  so_of_number (Ok status.Usage) none cause = absurd none
  so_of_number (Ok (status.ElfBad why)) none cause = absurd none
  so_of_number (Ok status.Faulted) none cause = absurd none
  so_of_number (Ok status.ReadFault) none cause = absurd none
  so_of_number (Ok status.WriteFault) none cause = absurd none
  so_of_number (Err e) (inl (text, is, some)) cause = (cause.failed, tested_front c old new (text, (n, cut, asks, is), some))
  so_of_number (Err e) (inr (inl (line, why, (text, is, some)))) cause =
      (cause.failed, own_image_front c old new line why (text, (n, cut, asks, is), some))
  so_of_number (Err e) (inr (inr (line, why, (text, is, some)))) cause =
      (cause.failed, own_bench_front c old new line why (text, (n, cut, asks, is), some))

-- ---- behind the flush

module _ (c : Call) (old new newer : IoState) (kept : KeepsBytes new newer) where
  kept_all : (text : List ℕ) → AppendsAll old new text → AppendsAll old newer text
  kept_all text all = Appends-kept old.bytes new.bytes newer.bytes text all kept

  kept_line : (kind : List ℕ → Type 0) → Prints kind old new → Prints kind old newer
  kept_line kind (text, is, all) = (text, is, kept_all text all)

  line_front : (kind : List ℕ → Type 0) → Prints kind old new → PrintsFront kind old newer
  line_front kind (text, is, all) = (text, is, front_of_all old newer text (kept_all text all))

  kept_front : (kind : List ℕ → Type 0) → PrintsFront kind old new → PrintsFront kind old newer
  kept_front kind (text, is, front) = (text, is, front_kept old new newer text front kept)

  kept_image : IsImageFault c old new → IsImageFault c old newer
  kept_image f = record { command = f.command; rose = f.rose; untouched = f.untouched; printed = kept_all [] f.printed }

  kept_memory : IsNoMemory c old new → IsNoMemory c old newer
  kept_memory f = record { command = f.command; untouched = f.untouched; printed = kept_all [] f.printed }

  kept_bench : IsBenchFault c old new → IsBenchFault c old newer
  kept_bench (asks, (image, read, (rose, printed))) = (asks, (image, read, (rose, kept_all [] printed)))

  kept_long : IsOwnTooLong c old new → IsOwnTooLong c old newer
  kept_long (long, printed) = (long, kept_all [] printed)

  -- a write failed before it
  kept_fault : IsWriteFault c old new → IsWriteFault c old newer
  kept_fault (inl (t, front)) = inl (t, kept_front (IsTextOf c t) front)
  kept_fault (inr (inl (what, asks, i))) =
      input_front c old newer what asks
      (record {
        bytes = i.bytes;
        took = i.took;
        few = i.few;
        shown = i.shown;
        printed = kept_all i.shown i.printed;
        late = i.late;
        early = i.early;
      })
  kept_fault (inr (inr (inl f))) = image_fault_front c old newer (kept_image f)
  kept_fault (inr (inr (inr (inl f)))) = memory_front c old newer (kept_memory f)
  kept_fault (inr (inr (inr (inr (inl f))))) = bench_fault_front c old newer (kept_bench f)
  kept_fault (inr (inr (inr (inr (inr long))))) = too_long_front c old newer (kept_long long)

  -- it succeeds
  pub all_flushed : (s : Status) → new.faults ≤ newer.faults → Answers c old new s → Answers c old newer s
  all_flushed status.Done later (inl (what, asks, done)) =
      inl (
        what,
        asks,
        record { bytes = done.bytes; read = done.read; few = done.few; lines = done.lines; shown = done.shown; printed = kept_all _ done.printed },
      )
  all_flushed status.Done later (inr (inl prints)) = inr (inl (kept_line (IsRetired c) prints))
  all_flushed status.Done later (inr (inr (inl prints))) = inr (inr (inl (kept_line (IsTraced c) prints)))
  all_flushed status.Done later (inr (inr (inr prints))) = inr (inr (inr (kept_line (IsTested c) prints)))
  all_flushed status.Faulted later (what, asks, done) =
      (what, asks, record { bytes = done.bytes; read = done.read; few = done.few; lines = done.lines; shown = done.shown; printed = kept_all _ done.printed })
  all_flushed status.Usage later prints = kept_line (IsUsage c) prints
  all_flushed (status.ImageBad line why) later (inl prints) = inl (kept_line (IsProgramBad c (BadText line why)) prints)
  all_flushed (status.ImageBad line why) later (inr prints) = inr (kept_line (IsOwnImageBad c line why) prints)
  all_flushed (status.ElfBad why) later prints = kept_line (IsProgramBad c (BadFile why)) prints
  all_flushed (status.BenchBad line why) later (inl prints) = inl (kept_line (IsBenchBad c line why) prints)
  all_flushed (status.BenchBad line why) later (inr prints) = inr (kept_line (IsOwnBenchBad c line why) prints)
  all_flushed status.ReadFault later (inl f) = inl (kept_image f)
  all_flushed status.ReadFault later (inr (inl f)) = inr (inl (kept_bench f))
  all_flushed status.ReadFault later (inr (inr (what, asks, b))) =
      inr (inr (
        what,
        asks,
        record { bytes = b.bytes; took = b.took; few = b.few; printed = (b.printed.0, b.printed.1, kept_all _ b.printed.2); rose = b.rose },
      ))
  all_flushed status.InputTooLong later (inl (what, asks, b)) =
      inl (
        what,
        asks,
        record { bytes = b.bytes; byte = b.byte; took = b.took; many = b.many; printed = (b.printed.0, b.printed.1, kept_all _ b.printed.2) },
      )
  all_flushed status.InputTooLong later (inr long) = inr (kept_long long)
  all_flushed status.NoMemory later f = kept_memory f
  all_flushed status.WriteFault later (rose, f) = (omega (arith, rose, later), kept_fault f)

  -- it fails behind an answer
  cut : (s : Status) → Answers c old new s → IsWriteFault c old newer
  cut status.Done (inl (what, asks, done)) =
      input_front c old newer what asks
      (completed_cut (laid_of what) (layout_is_laid (intake_of what).layout) (listing_of what) c.input c.input' old new newer false done kept)
  cut status.Done (inr (inl prints)) = retired_front c old newer (line_front (IsRetired c) prints)
  cut status.Done (inr (inr (inl prints))) = traced_front c old newer (line_front (IsTraced c) prints)
  cut status.Done (inr (inr (inr prints))) = tested_front c old newer (line_front (IsTested c) prints)
  cut status.Faulted (what, asks, done) =
      input_front c old newer what asks
      (completed_cut (laid_of what) (layout_is_laid (intake_of what).layout) (listing_of what) c.input c.input' old new newer true done kept)
  cut status.Usage prints = inl (UsageText, line_front (IsUsage c) prints)
  cut (status.ImageBad line why) (inl prints) = image_front c old newer (BadText line why) (line_front (IsProgramBad c (BadText line why)) prints)
  cut (status.ImageBad line why) (inr prints) = own_image_front c old newer line why (line_front (IsOwnImageBad c line why) prints)
  cut (status.ElfBad why) prints = image_front c old newer (BadFile why) (line_front (IsProgramBad c (BadFile why)) prints)
  cut (status.BenchBad line why) (inl prints) = bench_front c old newer line why (line_front (IsBenchBad c line why) prints)
  cut (status.BenchBad line why) (inr prints) = own_bench_front c old newer line why (line_front (IsOwnBenchBad c line why) prints)
  cut status.ReadFault (inl f) = image_fault_front c old newer (kept_image f)
  cut status.ReadFault (inr (inl f)) = bench_fault_front c old newer (kept_bench f)
  cut status.ReadFault (inr (inr (what, asks, b))) =
      input_front c old newer what asks
      (broken_cut (laid_of what) (layout_is_laid (intake_of what).layout) (listing_of what) c.input c.input' old new newer b kept)
  cut status.InputTooLong (inl (what, asks, b)) =
      input_front c old newer what asks
      (exceeded_cut (laid_of what) (layout_is_laid (intake_of what).layout) (listing_of what) c.input c.input' old new newer b kept)
  cut status.InputTooLong (inr long) = too_long_front c old newer (kept_long long)
  cut status.NoMemory f = memory_front c old newer (kept_memory f)
  cut status.WriteFault (rose, f) = kept_fault f

  pub flush_fails : (s : Status) → Answers c old new s → old.faults ≤ new.faults → Rose new newer → Answers c old newer status.WriteFault
  flush_fails s answers later rose = (omega (arith, later, rose), cut s answers)

  pub write_fails : (e : Failed) → AnswersSo c old new (Err e) → new.faults ≤ newer.faults → Answers c old newer status.WriteFault
  write_fails e (rose, f) later = let was : Rose old new = rose in (omega (arith, was, later), kept_fault f)

  pub flush_fails_behind : (r : Result Status Failed) → AnswersSo c old new r → old.faults ≤ new.faults → new.faults ≤ newer.faults
      → Rose new newer → Answers c old newer status.WriteFault
  flush_fails_behind (Ok s) answers later after rose = flush_fails s answers later rose
  flush_fails_behind (Err e) answers later after rose = write_fails e answers after
