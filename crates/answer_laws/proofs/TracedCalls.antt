-- What `path` prints of what `trace` wrote.
use Rattle.std.proofs.Common.{◌≡◌, ℕ, ◌<◌, Bool, true, false, List, [], ◌++◌, length, Option, Some, None, IfSome, Ok, inl, inr}
use Rattle.std.proofs.Common.{refl, sym, ap, subst, ◌∙◌, append-nil}
use Rattle.std.specs.Io.KnownBytes.{Consumes, IsAtEnd}
use Rattle.etm_types.specs.Settings.{Sizes}
use Rattle.etm_types.specs.SettingsTable.{IsTable, sizes_at}
use Rattle.formatter_frames.specs.Unframed.{begun_frame, unframed}
use Rattle.run_file.specs.Parts.{BenchParts, IsBench}
use Rattle.capture_streams.specs.Paths.{paths}
use Rattle.capture_streams.specs.Texts.{IsText, Listing, Printed, by_sizes, text_of}
use Rattle.formatter_frames.proofs.RoundTrip.{nothing_left}
use Rattle.program_image.specs.Part.{IsImage}
use Rattle.program_image.specs.declared.image.Image.{Image}
use Rattle.answer_laws.proofs.WordTables.{path_table}
use Rattle.traced_runs.proofs.SyncedFrames.{synced_again}
use Rattle.traced_runs.proofs.TracedStreams.{shows_traces, traces_are_shown}
use Rattle.trace_cmd.proofs.Programs.{one_program, one_spelled, spelled_image}
use Rattle.trace_cmd.specs.Answers.{Answers, Asks, Call, HasImage, HasRead, IsRetired, IsTested, IsTraced}
use Rattle.trace_cmd.specs.Programs.{Spells}
use Rattle.input_pieces.specs.Listed.{Completes}
use Rattle.trace_cmd.specs.Printing.{CountsOf, PathsOf, PacketsOf, TimesOf, What, laid_in, laid_of, listing_of, sizes_by}
use Rattle.traced_runs.specs.Traced.{AreAccepted, IsTraceText, trace_frames, trace_pairs, with_syncs}
use Rattle.answer_laws.specs.TracedCalls.{IsPathOfTrace, PrintsTraces, written_layout, written_under}
use Rattle.answer_lines.specs.declared.status.Status.{Status}
use Rattle.answer_lines.specs.declared.status.Status.TheVariants as status
use Rattle.command_words.specs.Words.{Intake, Program}
use Rattle.trace_io.specs.Bytes.{AppendsAll}
use Rattle.trace_io.specs.State.{IoState}

-- known bytes that were taken to their end were these
pub taken_are : (old new : Option (List ℕ)) (known bytes : List ℕ) → old ≡ Some known → Consumes old new bytes × IsAtEnd new → bytes ≡ known
taken_are None new known bytes is taken = absurd cc
taken_are (Some xs) None known bytes is taken = absurd taken.0
taken_are (Some xs) (Some ys) known bytes is taken =
    let same : xs ≡ known = cc in
    sym (append-nil bytes) ∙ ap (λ (l : List ℕ). bytes ++ l) (sym taken.1) ∙ sym taken.0 ∙ same

-- the image that is taken is the one that it spells
pub image_taken : (c : Call) (image other : Image) → HasImage c image → HasRead c other → other ≡ image
image_taken c image other has (p, named, (bytes, taken, spells)) =
    let same = taken_are c.image.bytes c.image'.bytes has.bytes bytes has.shows taken in
    let by_form = subst (λ (q : Program). Spells q.form bytes other) (one_program has.program p c.words has.named named) spells in
    one_spelled has.program.form has.bytes bytes image other same has.spells by_form

-- the frames stand again in what was written of them
again : (image : Image) (b : BenchParts) → IsImage image → IsBench b → AreAccepted image b → (every : Option ℕ) → IfSome every (λ n. 0 < n)
    → ((laid_in (written_layout every)).whole (with_syncs every (trace_frames image b)) ≡ unframed (trace_frames image b))
    × ((laid_in (written_layout every)).left (with_syncs every (trace_frames image b)) ≡ 0)
again image b is bench none None some = (refl, ap length (nothing_left (trace_pairs image b)))
again image b is bench none (Some every) some =
    let same = synced_again image b is bench none None every some in
    (ap unframed same, ap (λ (l : List ℕ). length (begun_frame l)) same ∙ ap length (nothing_left (trace_pairs image b)))

module _ (image : Image) (b : BenchParts) (is : IsImage image) (bench : IsBench b) (none : AreAccepted image b) (every : Option ℕ)
    (some : IfSome every (λ n. 0 < n)) where
  abbrev whole : List ℕ → List (ℕ × ℕ)
  whole = (laid_in (written_layout every)).whole

  abbrev left : List ℕ → ℕ
  left = (laid_in (written_layout every)).left

  abbrev written : List ℕ
  written = with_syncs every (trace_frames image b)

  -- the text of what was written is that of the frames
  pub of_written : (g : Image → Sizes → Listing) (table : List Sizes) (other : Image) (r : Intake) (bytes : List ℕ) (lines : List Printed)
      (faulty : Bool) → other ≡ image → r ≡ written_under every table → bytes ≡ written
      → IsText (by_sizes (g other) (sizes_by r)) ((laid_in r.layout).whole bytes) ((laid_in r.layout).left bytes) lines faulty
      → IsText (by_sizes (g image) (sizes_at table)) (unframed (trace_frames image b)) 0 lines faulty
  of_written g table other r bytes lines faulty image_is taken input text =
      let all = subst (λ (i : Intake). IsText (by_sizes (g other) (sizes_by i)) ((laid_in i.layout).whole bytes) ((laid_in i.layout).left bytes) lines
      faulty) taken text in
      let these = subst (λ (l : List ℕ). IsText (by_sizes (g other) (sizes_at table)) (whole l) (left l) lines faulty) input all in
      let frames = again image b is bench none every some in
      let carried = subst (λ (pairs : List (ℕ × ℕ)). IsText (by_sizes (g other) (sizes_at table)) pairs (left written) lines faulty) frames.0 these in
      let nothing = subst (λ (n : ℕ). IsText (by_sizes (g other) (sizes_at table)) (unframed (trace_frames image b)) n lines faulty) frames.1 carried in
      subst (λ (i : Image). IsText (by_sizes (g i) (sizes_at table)) (unframed (trace_frames image b)) 0 lines faulty) image_is nothing

module _ (c : Call) (old new : IoState) (image : Image) (b : BenchParts) (bench : IsBench b) (none : AreAccepted image b) (asks : IsPathOfTrace c image b)
  where
    -- the sizes of each stream
    abbrev own : ℕ → Sizes
    own = sizes_at asks.table

    is_table : IsTable asks.table
    is_table = path_table (written_under asks.every asks.table) c.words asks.words

    is_image : IsImage image
    is_image = spelled_image asks.is_same.program.form asks.is_same.bytes image asks.is_same.spells

    -- what is shown of the input is the text of the traces
    shown : (other : Image) (r : Intake) (bytes : List ℕ) (lines : List Printed) (faulty : Bool) → other ≡ image
        → r ≡ written_under asks.every asks.table → bytes ≡ with_syncs asks.every (trace_frames image b)
        → IsText (by_sizes (paths other) (sizes_by r)) ((laid_in r.layout).whole bytes) ((laid_in r.layout).left bytes) lines faulty
        → IsTraceText image asks.table b lines faulty
    shown = of_written image b is_image bench none asks.every asks.some paths asks.table

    -- what is printed then
    abbrev Printing : Bool → Type 0
    Printing faulty = (lines : List Printed) × IsTraceText image asks.table b lines faulty × AppendsAll old new (text_of lines)

    printing : (what : What) (faulty : Bool) → Asks c what
        → Completes (laid_of what) (listing_of what) c.input c.input' old new faulty → Printing faulty
    printing (TimesOf r) faulty asked done = absurd (let words : _ ≡ _ = sym asked ∙ asks.words.1 in cc)
    printing (CountsOf other r) faulty asked done = absurd (let words : _ ≡ _ = sym asked.0.1 ∙ asks.words.1 in cc)
    printing (PacketsOf r) faulty asked done = absurd (let words : _ ≡ _ = sym asked ∙ asks.words.1 in cc)
    printing (PathsOf other r) faulty (asked, (p, named, (bytes, taken, spells))) done =
        let words = sym asked.1 ∙ asks.words.1 in
        let same : r ≡ written_under asks.every asks.table = cc in
        let image_is = image_taken c image other asks.is_same (p, named, (bytes, taken, spells)) in
        let input = taken_are c.input.bytes c.input'.bytes (with_syncs asks.every (trace_frames image b)) done.bytes asks.input done.read in
        (done.lines, shown other r done.bytes done.lines faulty image_is same input done.shown, done.printed)

    not_retired : (text : List ℕ) → IsRetired c text → ⊥
    not_retired text ((p, words), over) = let both = sym words ∙ asks.words.1 in cc

    not_traced : (frames : List ℕ) → IsTraced c frames → ⊥
    not_traced frames (last, every, ((p, words), over)) = let both = sym words ∙ asks.words.1 in cc

    not_tested : (text : List ℕ) → IsTested c text → ⊥
    not_tested text (n, cut, words, summary) = let both = sym words ∙ asks.words.1 in cc

    pub prints_traces : (answer : Status) → Answers c old new answer → PrintsTraces image b old new answer
    prints_traces status.Done (inl (what, asked, done)) =
        let here = printing what false asked done in
        (here.0, shows_traces image b is_image bench none asks.table is_table asks.suits here.0 false here.1, here.2)
    prints_traces status.Done (inr (inl (text, retired, printed))) = absurd (not_retired text retired)
    prints_traces status.Done (inr (inr (inl (frames, traced, printed)))) = absurd (not_traced frames traced)
    prints_traces status.Done (inr (inr (inr (text, tested, printed)))) = absurd (not_tested text tested)
    prints_traces status.Faulted (what, asked, done) =
        let here = printing what true asked done in
        let whole = traces_are_shown image b is_image bench none in
        let other = (whole.only asks.table is_table asks.suits here.0 true here.1).1 in absurd cc
    prints_traces status.Usage answer = tt
    prints_traces (status.ImageBad line why) answer = tt
    prints_traces (status.ElfBad why) answer = tt
    prints_traces (status.BenchBad line why) answer = tt
    prints_traces status.ReadFault answer = tt
    prints_traces status.WriteFault answer = tt
    prints_traces status.NoMemory answer = tt
    prints_traces status.InputTooLong answer = tt
