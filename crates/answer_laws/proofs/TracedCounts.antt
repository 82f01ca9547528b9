-- What `path --count` prints of what `trace` wrote.
use Rattle.std.proofs.Common.{◌≡◌, ◌⊎◌, ℕ, Bool, true, false, if◌then◌else◌, List, [], ◌∷◌, ◌++◌, inl, inr}
use Rattle.std.proofs.Common.{refl, sym, ap, subst, ◌∙◌, append-nil}
use Rattle.std.specs.Prelude.{All, slice_index_or}
use Rattle.command_words.specs.Words.{Program}
use Rattle.count_streams.proofs.EachStream.{each_stream_is_counted}
use Rattle.count_streams.proofs.SumsOfStreams.{others_are_not_counted}
use Rattle.count_streams.specs.Counted.{counted}
use Rattle.count_streams.specs.Pairs.{items_of_stream}
use Rattle.etm_types.proofs.Tables.{are_settings}
use Rattle.etm_types.specs.Id.{IsId}
use Rattle.etm_types.specs.Settings.{AreSettings, Sizes, default_sizes}
use Rattle.etm_types.specs.SettingsTable.{IsTable, sizes_at}
use Rattle.etm_types.specs.declared.item.Item.{Item}
use Rattle.formatter_frames.specs.Unframed.{unframed}
use Rattle.input_pieces.specs.Listed.{Completes}
use Rattle.packet_grammar.specs.declared.end.End.{End}
use Rattle.run_file.specs.Parts.{BenchParts, BenchStream, IsBench, events_of, has_stream}
use Rattle.capture_streams.proofs.Alone.{others_have_none, source_is_alone, with_ends}
use Rattle.capture_streams.proofs.AlonePaths.{nothing_shown}
use Rattle.capture_streams.proofs.PathTexts.{one_path}
use Rattle.capture_streams.proofs.Standing.{is_one}
use Rattle.capture_streams.specs.Laws.{lines_with}
use Rattle.capture_streams.specs.Texts.{BodyFrom, GainsIf, IsText, Listing, Printed, StreamBody, StreamEnds, by_sizes, is_source, lines_under, of}
use Rattle.capture_streams.specs.Texts.{sources, sum_lines, text_of}
use Rattle.packet_grammar.specs.declared.end.End.TheVariants as end
use Rattle.path_elements.specs.Path.{IsPath}
use Rattle.path_text.specs.EndLines.{end_line}
use Rattle.program_image.specs.Part.{IsImage}
use Rattle.program_image.specs.declared.image.Image.{Image}
use Rattle.retired_paths.specs.Retired.{items_after}
use Rattle.spec_run.specs.RunAfter.{run_after}
use Rattle.spec_run.specs.declared.event.Event.{Event}
use Rattle.trace_cmd.specs.Answers.{Answers, Asks, Call, IsRetired, IsTested, IsTraced}
use Rattle.trace_cmd.specs.Printing.{CountsOf, PathsOf, PacketsOf, TimesOf, What, laid_in, laid_of, listing_of, sizes_by}
use Rattle.trace_cmd.proofs.Programs.{spelled_image}
use Rattle.traced_runs.proofs.TracedPaths.{ends_have, ids_are, nothing_is_not_clean, text_well}
use Rattle.traced_runs.proofs.TracedStreams.{HasRetired, ends_well, one_of_sources, others_are_absent, streams_have_retired}
use Rattle.traced_runs.specs.Traced.{AreAccepted, Suits, end_lines, is_of_one, trace_frames, with_syncs}
use Rattle.answer_laws.proofs.TracedCalls.{image_taken, of_written, taken_are}
use Rattle.answer_laws.proofs.WordTables.{counts_table}
use Rattle.answer_laws.specs.TracedCalls.{HasItems, IsCountOfTrace, PrintsCounts, ShowsCounts, written_under}
use Rattle.answer_lines.specs.declared.status.Status.{Status}
use Rattle.answer_lines.specs.declared.status.Status.TheVariants as status
use Rattle.trace_io.specs.Bytes.{AppendsAll}
use Rattle.trace_io.specs.State.{IoState}

-- ---- no line comes with a byte

module _ (image : Image) (t : ℕ → Sizes) where
  no_lines : (before pairs : List (ℕ × ℕ)) (lines : List Printed) → BodyFrom (by_sizes (counted image) t) before pairs lines → lines ≡ []
  no_lines before [] lines none = none
  no_lines before (pair ∷ pairs) lines (first, rest, gains, later, is) =
      is ∙ ap (λ (l : List (List ℕ)). lines_under pair.0 l ++ rest) (none_gained (is_source pair.0) gains)
      ∙ no_lines (before ++ pair ∷ []) pairs rest later
    where
      none_gained : (source : Bool) → GainsIf source (by_sizes (counted image) t) before pair first → first ≡ []
      none_gained true none = none
      none_gained false none = none

  no_lines_of_one : (id : ℕ) (before bytes : List ℕ) (lines : List (List ℕ)) → StreamBody (by_sizes (counted image) t) id before bytes lines
      → lines ≡ []
  no_lines_of_one id before [] lines none = none
  no_lines_of_one id before (b ∷ bytes) lines (first, rest, gains, later, is) =
      is ∙ ap (λ (l : List (List ℕ)). l ++ rest) gains ∙ no_lines_of_one id (before ++ b ∷ []) bytes rest later

-- ---- the stream of a trace

module _ (image : Image) (s : Sizes) (are : AreSettings s) (id : ℕ) (retired : List Item) (events : List Event) where
  -- its items are those of the retired path
  items_are : (bytes : List ℕ) (items : List Item) (last : End) → HasRetired image s id retired events bytes → IsPath image s bytes items last
      → items ≡ retired
  items_are bytes items last (inl (nothing, ended, none)) path =
      nothing_shown image s items last (subst (λ (b : List ℕ). IsPath image s b items last) nothing path) ∙ sym none
  items_are bytes items last (inr (shown, ended)) path = (one_path image s are bytes items retired last end.Clean path shown).0

  -- and how it ends
  ends_are : (t : ℕ → Sizes) → t id ≡ s → (bytes : List ℕ) (ending : List Printed) (faulty : Bool) → HasRetired image s id retired events bytes
      → StreamEnds (by_sizes (counted image) t) id bytes ending faulty → ending ≡ lines_under id (end_lines id events)
  ends_are t same [] ending faulty (inl (nothing, ended, none)) (no_line, whole) = no_line ∙ ap (lines_under id) (sym ended)
  ends_are t same (b ∷ bytes) ending faulty (inl (nothing, ended, none)) ends = absurd cc
  ends_are t same [] ending faulty (inr (shown, ended)) ends = absurd (nothing_is_not_clean image s retired shown)
  ends_are t same (b ∷ bytes) ending faulty (inr (shown, ended)) (line, (items, last, path, line_is, fault_is), is) =
      let here = subst (λ (u : Sizes). IsPath image u (b ∷ bytes) items last) same path in
      let clean = (one_path image s are (b ∷ bytes) items retired last end.Clean here shown).1 in
      is ∙ ap (λ (l : List ℕ). lines_under id (l ∷ [])) (line_is ∙ ap (end_line id) clean) ∙ ap (lines_under id) (sym ended)

-- ---- all streams

module _ (image : Image) (b : BenchParts) (is : IsImage image) (bench : IsBench b) (none : AreAccepted image b) (table : List Sizes)
    (is_table : IsTable table) (suits : Suits b table) where
  abbrev own : ℕ → Sizes
  own = sizes_at table

  own_settings : (id : ℕ) → AreSettings (own id)
  own_settings id = are_settings table id is_table

  abbrev carried : List (ℕ × ℕ)
  carried = unframed (trace_frames image b)

  abbrev events : BenchStream → List Event
  events st = events_of st.lines

  abbrev retired : BenchStream → List Item
  retired st = items_after (run_after image st.settings.depth (events st))

  module _ (lines : List Printed) (faulty : Bool) (text : IsText (by_sizes (counted image) own) carried 0 lines faulty) where
    abbrev items : List (ℕ × Item)
    items = text.ended.summed.0

    abbrev ends : List Printed
    ends = text.ended.ends

    abbrev listing : Listing
    listing = by_sizes (counted image) own

    -- nothing but the counts stands before the ends
    all_is : lines ≡ sum_lines (counted image default_sizes) items ++ ends
    all_is =
        text.all ∙ ap (λ (l : List Printed). l ++ text.ending) (no_lines image own [] carried text.body text.gained) ∙ text.ended.all
        ∙ ap (λ (l : List Printed). l ++ (ends ++ [])) text.ended.summed.2
        ∙ ap (λ (l : List Printed). sum_lines (counted image default_sizes) items ++ l) (append-nil ends)

    -- so the lines of a source are those of the ends
    with_id : (id : ℕ) → lines_with id lines ≡ lines_with id ends
    with_id id =
        let last = text.ended in
        ap (lines_with id) (text.all ∙ ap (λ (l : List Printed). l ++ text.ending) (no_lines image own [] carried text.body text.gained) ∙ last.all)
        ∙ with_ends listing id 0 last.sums last.ends last.summed.0 last.summed.2

    ending_of : (id : ℕ) → IsId id → (ending : List Printed) × (fault : Bool) × StreamEnds listing id (of id carried) ending fault
        × (lines_with id ends ≡ ending)
    ending_of id source =
        let alone = source_is_alone listing carried 0 lines faulty id source text in
        let gained = no_lines_of_one image own id [] (of id carried) alone.gained alone.body in (
          alone.ending,
          alone.faulty,
          alone.ends,
          sym (with_id id) ∙ alone.all ∙ ap (λ (l : List (List ℕ)). lines_under id l ++ alone.ending) gained,
        )

    -- ---- the streams of the run file

    abbrev Has : BenchStream → Type 0
    Has st = HasRetired image (own st.id) st.id (retired st) (events st) (of st.id carried)

    have : All Has b.streams
    have = streams_have_retired image b is bench none table is_table suits

    stream_items : (st : BenchStream) → IsId st.id → Has st → HasItems image items st
    stream_items st source has =
        let each = each_stream_is_counted image own own_settings carried items text.ended.summed.1 st.id (is_one st.id source) in
        items_are image (own st.id) (own_settings st.id) st.id (retired st) (events st) (of st.id carried) (items_of_stream st.id items) each.0 has each.1

    stream_ended : (st : BenchStream) → IsId st.id → Has st → lines_with st.id ends ≡ lines_under st.id (end_lines st.id (events st))
    stream_ended st source has =
        let here = ending_of st.id source in
        here.3 ∙ ends_are image (own st.id) (own_settings st.id) st.id (retired st) (events st) own refl (of st.id carried) here.0 here.1 has here.2

    -- ---- no other

    other_items : (id : ℕ) → has_stream id b.streams ≡ false → items_of_stream id items ≡ []
    other_items id other = by (one_of_sources id)
      where
        by : IsId id ⊎ (IsId id → ⊥) → items_of_stream id items ≡ []
        by (inl source) =
            let each = each_stream_is_counted image own own_settings carried items text.ended.summed.1 id (is_one id source) in
            let nothing = others_are_absent image b is bench none id source.0 other in
            nothing_shown image (own id) (items_of_stream id items) each.0
            (subst (λ (l : List ℕ). IsPath image (own id) l (items_of_stream id items) each.0) nothing each.1)
        by (inr neither) = others_are_not_counted listing carried items text.ended.summed.1 id neither

    other_ends : (id : ℕ) → has_stream id b.streams ≡ false → lines_with id ends ≡ []
    other_ends id other = by (one_of_sources id)
      where
        by : IsId id ⊎ (IsId id → ⊥) → lines_with id ends ≡ []
        by (inl source) =
            let here = ending_of id source in
            let nothing = others_are_absent image b is bench none id source.0 other in
            let none_ends = subst (λ (l : List ℕ). StreamEnds listing id l here.0 here.1) nothing here.2 in here.3 ∙ none_ends.0
        by (inr neither) = sym (with_id id) ∙ others_have_none listing carried 0 lines faulty id neither text

    -- ---- all of it

    pub shows_counts : ShowsCounts image b lines
    shows_counts = record {
      items = items;
      ends = ends;
      all = all_is;
      retired = λ k d within. stream_items (slice_index_or b.streams k d) (bench.streams k d within).id (have k d within);
      others = other_items;
      ended = λ k d within. stream_ended (slice_index_or b.streams k d) (bench.streams k d within).id (have k d within);
      alone = ids_are (λ id. has_stream id b.streams) ends (ends_have listing carried sources ends text.ended.some_fault text.ended.ended) other_ends
          (is_of_one b.streams) (λ id. refl);
    }

    pub no_fault : faulty ≡ false
    no_fault = text_well image own own_settings listing (λ id bytes line fault ending. ending) carried
        (ends_well image b is bench none table is_table suits) lines faulty text

-- ---- a call

module _ (c : Call) (old new : IoState) (image : Image) (b : BenchParts) (bench : IsBench b) (none : AreAccepted image b)
    (asks : IsCountOfTrace c image b) where
  is_table : IsTable asks.table
  is_table = counts_table (written_under asks.every asks.table) c.words asks.words

  is_image : IsImage image
  is_image = spelled_image asks.is_same.program.form asks.is_same.bytes image asks.is_same.spells

  -- what is printed then
  abbrev Printing : Bool → Type 0
  Printing faulty =
      (lines : List Printed) × IsText (by_sizes (counted image) (sizes_at asks.table)) (unframed (trace_frames image b)) 0 lines faulty
      × AppendsAll old new (text_of lines)

  printing : (what : What) (faulty : Bool) → Asks c what
      → Completes (laid_of what) (listing_of what) c.input c.input' old new faulty → Printing faulty
  printing (TimesOf r) faulty asked done = absurd (let words : _ ≡ _ = sym asked ∙ asks.words.1 in cc)
  printing (PathsOf other r) faulty asked done = absurd (let words : _ ≡ _ = sym asked.0.1 ∙ asks.words.1 in cc)
  printing (PacketsOf r) faulty asked done = absurd (let words : _ ≡ _ = sym asked ∙ asks.words.1 in cc)
  printing (CountsOf other r) faulty (asked, (p, named, (bytes, taken, spells))) done =
      let words = sym asked.1 ∙ asks.words.1 in
      let same : r ≡ written_under asks.every asks.table = cc in
      let image_is = image_taken c image other asks.is_same (p, named, (bytes, taken, spells)) in
      let input = taken_are c.input.bytes c.input'.bytes (with_syncs asks.every (trace_frames image b)) done.bytes asks.input done.read in (
        done.lines,
        of_written image b is_image bench none asks.every asks.some counted asks.table other r done.bytes done.lines faulty image_is same input
            done.shown,
        done.printed,
      )

  not_retired : (text : List ℕ) → IsRetired c text → ⊥
  not_retired text ((p, words), over) = let both = sym words ∙ asks.words.1 in cc

  not_traced : (frames : List ℕ) → IsTraced c frames → ⊥
  not_traced frames (last, every, ((p, words), over)) = let both = sym words ∙ asks.words.1 in cc

  not_tested : (text : List ℕ) → IsTested c text → ⊥
  not_tested text (n, cut, words, summary) = let both = sym words ∙ asks.words.1 in cc

  pub prints_counts : (answer : Status) → Answers c old new answer → PrintsCounts image b old new answer
  prints_counts status.Done (inl (what, asked, done)) =
      let here = printing what false asked done in
      (here.0, shows_counts image b is_image bench none asks.table is_table asks.suits here.0 false here.1, here.2)
  prints_counts status.Done (inr (inl (text, retired, printed))) = absurd (not_retired text retired)
  prints_counts status.Done (inr (inr (inl (frames, traced, printed)))) = absurd (not_traced frames traced)
  prints_counts status.Done (inr (inr (inr (text, tested, printed)))) = absurd (not_tested text tested)
  prints_counts status.Faulted (what, asked, done) =
      let here = printing what true asked done in
      let clean = no_fault image b is_image bench none asks.table is_table asks.suits here.0 true here.1 in absurd cc
  prints_counts status.Usage answer = tt
  prints_counts (status.ImageBad line why) answer = tt
  prints_counts (status.ElfBad why) answer = tt
  prints_counts (status.BenchBad line why) answer = tt
  prints_counts status.ReadFault answer = tt
  prints_counts status.WriteFault answer = tt
  prints_counts status.NoMemory answer = tt
  prints_counts status.InputTooLong answer = tt
