-- The traces of a run file's streams, and what is printed of their paths.
use Rattle.std.proofs.Common.{◌≡◌, ◌⊎◌, ℕ, ◌<◌, ◌≤◌, ◌==◌, Bool, true, false, List, [], ◌∷◌, ◌++◌, map, None, Result, Ok, inl, inr}
use Rattle.std.proofs.Common.{refl, sym, ap, subst, ◌∙◌, arith, append-nil, lit<}
use Rattle.std.specs.Prelude.{All, ◌||◌, replicate, slice_index_or}
use Rattle.std.specs.List.{concat}
use Rattle.std.proofs.lemmas.Bool.{eqb-true}
use Rattle.std.proofs.lemmas.Bool.Decides.{leb_tells}
use Rattle.std.proofs.lemmas.List.Elements.{All-append, All-cons, All-head, All-map, All-nil, All-replicate, All-tail}
use Rattle.std.proofs.lemmas.List.Folds.{concat-append}
use Rattle.etm_types.specs.Id.{IsId}
use Rattle.etm_types.specs.Settings.{AreSettings, Sizes}
use Rattle.etm_types.specs.SettingsTable.{IsTable, sizes_at}
use Rattle.etm_types.specs.declared.item.Item.{Item}
use Rattle.run_file.specs.Parts.{AreApart, BenchParts, BenchStream, IsBench, IsBenchStream, events_of, has_stream}
use Rattle.run_file.specs.Refusals.{refusal_among, stream_refusal}
use Rattle.etm_types.proofs.Tables.{are_settings}
use Rattle.formatter_frames.proofs.RoundTrip.{nothing_left, pairs_again}
use Rattle.formatter_frames.specs.Unframed.{unframed}
use Rattle.packet_grammar.specs.declared.end.End.TheVariants as end
use Rattle.packet_grammar.specs.declared.packet.Packet.{Packet}
use Rattle.path_elements.specs.Path.{IsPath}
use Rattle.capture_streams.proofs.Alone.{others_have_none}
use Rattle.capture_streams.proofs.AlonePaths.{path_is_alone}
use Rattle.capture_streams.proofs.Bodies.{of-append, text_under}
use Rattle.capture_streams.proofs.OtherSizes.{text_alike}
use Rattle.capture_streams.proofs.Parted.{zeros_are_of_none}
use Rattle.capture_streams.proofs.PathTexts.{one_text_of_paths, some_text_of_paths}
use Rattle.capture_streams.specs.Laws.{HasByte, PathPrinted, lines_with}
use Rattle.capture_streams.specs.Paths.{paths}
use Rattle.capture_streams.specs.Texts.{Printed, by_sizes, lines_under, of, text_of}
use Rattle.packet_writer.proofs.Having.{of_bytes}
use Rattle.packet_writer.specs.Fitting.{HasSpelling}
use Rattle.packet_writer.specs.Spelling.{spelling}
use Rattle.path_text.proofs.LineLists.{list_joined}
use Rattle.path_text.specs.EndLines.{end_line}
use Rattle.path_text.specs.PathLines.{line_list}
use Rattle.program_image.proofs.Gaps.{gap_of}
use Rattle.program_image.specs.Blocks.{HasGap}
use Rattle.program_image.specs.Part.{IsImage}
use Rattle.program_image.specs.declared.image.Image.{Image}
use Rattle.spec_run.specs.RetiredItems.{retired_of}
use Rattle.spec_run.specs.RunAfter.{AreEvents, run_after}
use Rattle.spec_run.specs.Runs.{Execution}
use Rattle.spec_run.specs.declared.event.Event.{Event}
use Rattle.spec_run.specs.declared.run_fault.RunFault.{RunFault}
use Rattle.retired_paths.proofs.RetiredStreams.{accepted_by, both_none, lines_are}
use Rattle.traced_runs.proofs.TracedTables.{some_table_suits}
use Rattle.traced_runs.proofs.TracedPaths.{EndsWell, clean_lines, ids_are, text_has, text_well}
use Rattle.woven_traces.proofs.WovenWhole.{others_have_no_byte, woven_alone, woven_bytes, woven_whole}
use Rattle.sync_frames.specs.Synced.{IsSourcePair}
use Rattle.retired_paths.specs.Retired.{items_after, stream_text}
use Rattle.traced_runs.specs.Traced.{AreAccepted, IsTraceText, NoEventNoLine, ShowsTraces, Suits, TracesAreShown, end_lines}
use Rattle.traced_runs.specs.Traced.{is_of_one, table_of, trace_frames, trace_lines, trace_pairs, traces}
use Rattle.woven_traces.specs.Woven as weave
use Rattle.trace_unit.proofs.AllPackets.{run_spelled}
use Rattle.trace_unit.proofs.TraceShown.{trace_shows}
use Rattle.trace_unit.specs.Effects.{orders}
use Rattle.trace_unit.specs.Packets.{nothing_shared, packets_all, settle_packets}
use Rattle.trace_unit.specs.Whole.{nothing_waits, waits_all}
use Rattle.trace_unit.specs.Written.{settled, spelled}

abbrev IsByte : ℕ → Type 0
IsByte b = b < 256

-- ---- the events of streams

-- its events are those of a trace unit of its sizes, and all accepted
abbrev IsAccepted : Image → BenchStream → Type 0
IsAccepted image st =
    AreEvents st.settings (events_of st.lines) × ((x : Execution) × (run_after image st.settings.depth (events_of st.lines) ≡ Ok x))

all_accepted : (image : Image) (streams : List BenchStream) → All IsBenchStream streams → refusal_among image streams ≡ None
    → All (IsAccepted image) streams
all_accepted image [] are none = All-nil (IsAccepted image)
all_accepted image (st ∷ streams) are none =
    let first = both_none (stream_refusal image st) (refusal_among image streams) none in
    All-cons (IsAccepted image) st streams (
      lines_are st.settings st.lines (All-head IsBenchStream st streams are).lines,
      accepted_by st.lines (run_after image st.settings.depth (events_of st.lines)) first.0,
    )
    (all_accepted image streams (All-tail IsBenchStream st streams are) first.1)

-- ---- the bytes of a trace

spelled_bytes : (s : Sizes) (packets : List Packet) → All (HasSpelling s) packets → All IsByte (spelled s packets)
spelled_bytes s [] have = All-nil IsByte
spelled_bytes s (p ∷ packets) have =
    All-append IsByte (spelling s p) (spelled s packets) (of_bytes s p (All-head (HasSpelling s) p packets have))
    (spelled_bytes s packets (All-tail (HasSpelling s) p packets have))

-- Bytes are those of the trace of these events, with these items: there is no event, no byte and no item, or the path of the bytes shows the
-- items and ends clean.
abbrev pub HasRetired : Image → Sizes → ℕ → List Item → List Event → List ℕ → Type 0
HasRetired image s id items events bytes =
    ((bytes ≡ []) × (end_lines id events ≡ []) × (items ≡ []))
    ⊎ (IsPath image s bytes items end.Clean × (end_lines id events ≡ end_line id end.Clean ∷ []))

module _ (image : Image) (is : IsImage image) (s : Sizes) (are : AreSettings s) (most : ℕ) (le : most ≤ 15) where
  settled_bytes : (events : List Event) (x : Execution) → AreEvents s events → run_after image s.depth events ≡ Ok x
      → All IsByte (settled image s most events)
  settled_bytes events x given e =
      let hole = gap_of image is in
      let gap : HasGap image = record { address = hole.0; within = hole.1.0; aligned = hole.1.1; none = hole.1.2 } in
      let front = packets_all s.depth nothing_waits nothing_shared (orders image s most events) in
      let last = settle_packets s.depth (waits_all s.depth nothing_waits (orders image s most events)) in
      let have = run_spelled image s most events x gap are le given e in
      All-append IsByte (spelled s front) (spelled s last) (spelled_bytes s front have.0) (spelled_bytes s last have.1)

  -- ---- the path of a trace

  settled_well : (events : List Event) (x : Execution) → AreEvents s events → run_after image s.depth events ≡ Ok x
      → EndsWell image s (settled image s most events)
  settled_well [] x given e = inl refl
  settled_well (event ∷ events) x given e = inr (retired_of x, trace_shows image s most (event ∷ events) x is are le given (omega arith) e)

  -- it is the retired path
  settled_path : (id : ℕ) (events : List Event) (x : Execution) → AreEvents s events → run_after image s.depth events ≡ Ok x
      → HasRetired image s id (items_after (run_after image s.depth events)) events (settled image s most events)
  settled_path id [] x given e = inl (refl, refl, refl)
  settled_path id (event ∷ events) x given e =
      let shown = trace_shows image s most (event ∷ events) x is are le given (omega arith) e in
      inr (subst (λ (items : List Item). IsPath image s (settled image s most (event ∷ events)) items end.Clean) (ap items_after (sym e)) shown, refl)

  settled_lines : (id : ℕ) (events : List Event) (x : Execution) (lines : List Printed) → AreEvents s events → run_after image s.depth events ≡ Ok x
      → PathPrinted image s id (settled image s most events) lines
      → lines ≡ lines_under id (line_list id None (items_after (run_after image s.depth events)) ++ end_lines id events)
  settled_lines id [] x lines given e none = none
  settled_lines id (event ∷ events) x lines given e printed =
      clean_lines image s are id (settled image s most (event ∷ events)) (retired_of x) lines
      (trace_shows image s most (event ∷ events) x is are le given (omega arith) e) printed
      ∙ ap (λ (r : Result Execution (ℕ × RunFault)). lines_under id (line_list id None (items_after r) ++ end_line id end.Clean ∷ [])) (sym e)

-- ---- streams with their traces

same_ids : (f : BenchStream → List ℕ) (id : ℕ) (streams : List BenchStream)
    → weave.has_id id (map (λ (st : BenchStream). (st.id, f st)) streams) ≡ has_stream id streams
same_ids f id [] = refl
same_ids f id (st ∷ streams) = ap (λ (t : Bool). (st.id == id) || t) (same_ids f id streams)

are_apart : (f : BenchStream → List ℕ) (streams : List BenchStream) → AreApart streams
    → weave.AreApart (map (λ (st : BenchStream). (st.id, f st)) streams)
are_apart f [] apart = tt
are_apart f (st ∷ streams) apart = (same_ids f st.id streams ∙ apart.0, are_apart f streams apart.1)

all_of_map : {X Y : Type 0} (P : Y → Type 0) (f : X → Y) (xs : List X) → All P (map f xs) → All (λ (x : X). P (f x)) xs
all_of_map P f [] are = All-nil (λ x. P (f x))
all_of_map P f (x ∷ xs) are =
    All-cons (λ y. P (f y)) x xs (All-head P (f x) (map f xs) are) (all_of_map P f xs (All-tail P (f x) (map f xs) are))

pub no_event_no_line : NoEventNoLine
no_event_no_line image st none = (
  ap (settled image st.settings st.stack) none,
  ap (λ (e : List Event). line_list st.id None (items_after (run_after image st.settings.depth e)) ++ end_lines st.id e) none,
)

-- an ID is one of a source, or not
pub one_of_sources : (id : ℕ) → IsId id ⊎ (IsId id → ⊥)
one_of_sources id = elim (leb_tells 1 id) [
  | inl low ↦
      elim (leb_tells id 111) [ inl high ↦ inl (low.1, high.1) | inr high ↦ inr (λ source. absurd (omega (arith, source.1, high.1))) ]
  | inr low ↦ inr (λ source. absurd (omega (arith, source.0, low.1)))
]

-- the stream of an ID
found : (P : BenchStream → Type 0) (id : ℕ) (streams : List BenchStream) → All P streams → has_stream id streams ≡ true
    → (st : BenchStream) × P st × (st.id ≡ id)
found P id [] all is = absurd cc
found P id (st ∷ streams) all is = by (st.id == id) refl (found P id streams (All-tail P st streams all))
  where
    by : (t : Bool) → (st.id == id) ≡ t → (has_stream id streams ≡ true → (x : BenchStream) × P x × (x.id ≡ id))
        → (x : BenchStream) × P x × (x.id ≡ id)
    by true e more = (st, All-head P st streams all, eqb-true st.id id e)
    by false e more = more (ap (λ (t : Bool). t || has_stream id streams) (sym e) ∙ is)

module _ (image : Image) (b : BenchParts) (is : IsImage image) (bench : IsBench b) (none : AreAccepted image b) where
  abbrev bytes_of : BenchStream → List ℕ
  bytes_of st = settled image st.settings st.stack (events_of st.lines)

  abbrev frames_carry : List (ℕ × ℕ)
  frames_carry = unframed (trace_frames image b)

  accepted : All (IsAccepted image) b.streams
  accepted = all_accepted image b.streams bench.streams none

  -- ---- the bytes in the frames

  bytes_are : All (λ (st : BenchStream). All IsByte (bytes_of st)) b.streams
  bytes_are k d within =
      let one = accepted k d within in
      let st = slice_index_or b.streams k d in
      let unit = bench.streams k d within in
      settled_bytes image is st.settings unit.settings st.stack unit.stack (events_of st.lines) one.1.0 one.0 one.1.1

  pairs_small : All HasByte (trace_pairs image b)
  pairs_small = woven_bytes b.weaves (traces image b)
      (All-map (λ (t : ℕ × List ℕ). All IsByte t.1) (λ (st : BenchStream). (st.id, bytes_of st)) b.streams bytes_are)

  carry_small : All HasByte frames_carry
  carry_small =
      let again = pairs_again (trace_pairs image b) in
      subst (All HasByte) (sym again.2)
      (All-append HasByte (trace_pairs image b) (replicate again.0 (0, 0)) pairs_small (All-replicate HasByte again.0 (0, 0) (lit< tt)))

  -- each is of a stream of the run file, whose ID is that of a source
  pub sources_are : All IsSourcePair (trace_pairs image b)
  sources_are k d within =
      let pair = slice_index_or (trace_pairs image b) k d in
      let st = found IsBenchStream pair.0 b.streams bench.streams
      (sym (same_ids bytes_of pair.0 b.streams) ∙ woven_alone b.weaves (traces image b) k d within) in
      let id = subst IsId st.2 st.1.id in (id.0, id.1, pairs_small k d within)

  -- the zeros behind the pairs are of no stream
  carried : (id : ℕ) → 0 < id → of id frames_carry ≡ of id (trace_pairs image b)
  carried id some =
      let again = pairs_again (trace_pairs image b) in
      ap (of id) again.2 ∙ of-append id (trace_pairs image b) (replicate again.0 (0, 0))
      ∙ ap (λ (l : List ℕ). of id (trace_pairs image b) ++ l) (zeros_are_of_none id again.0 some) ∙ append-nil (of id (trace_pairs image b))

  whole : All (λ (st : BenchStream). of st.id (trace_pairs image b) ≡ bytes_of st) b.streams
  whole = all_of_map (λ (t : ℕ × List ℕ). of t.0 (trace_pairs image b) ≡ t.1) (λ (st : BenchStream). (st.id, bytes_of st)) b.streams
      (woven_whole b.weaves (traces image b) (are_apart bytes_of b.streams bench.apart))

  whole_in_frames : All (λ (t : ℕ × List ℕ). of t.0 frames_carry ≡ t.1) (traces image b)
  whole_in_frames =
      All-map (λ (t : ℕ × List ℕ). of t.0 frames_carry ≡ t.1) (λ (st : BenchStream). (st.id, bytes_of st)) b.streams
      (λ k d within. carried (slice_index_or b.streams k d).id (bench.streams k d within).id.0 ∙ whole k d within)

  absent : (id : ℕ) → has_stream id b.streams ≡ false → of id (trace_pairs image b) ≡ []
  absent id other = others_have_no_byte b.weaves (traces image b) id (same_ids bytes_of id b.streams ∙ other)

  pub others_are_absent : (id : ℕ) → 0 < id → has_stream id b.streams ≡ false → of id frames_carry ≡ []
  others_are_absent id some other = carried id some ∙ absent id other

  -- ---- under a table that suits

  record IsTraced (st : BenchStream) : Type 0 where
    stream : IsBenchStream st
    run : IsAccepted image st
    bytes : of st.id (trace_pairs image b) ≡ bytes_of st

  traced : All IsTraced b.streams
  traced k d within = record { stream = bench.streams k d within; run = accepted k d within; bytes = whole k d within }

  module _ (table : List Sizes) (is_table : IsTable table) (suits : Suits b table) where
    abbrev own : ℕ → Sizes
    own = sizes_at table

    own_settings : (id : ℕ) → AreSettings (own id)
    own_settings id = are_settings table id is_table

    -- a stream with the sizes of its ID
    abbrev HasSizes : BenchStream → Type 0
    HasSizes st = IsTraced st × (own st.id ≡ st.settings)

    sized : All HasSizes b.streams
    sized k d within = (traced k d within, suits k d within)

    -- ---- no fault

    stream_ends_well : (st : BenchStream) → HasSizes st → EndsWell image (own st.id) (of st.id (trace_pairs image b))
    stream_ends_well st (t, same) =
        subst (λ (s : Sizes). EndsWell image s (of st.id (trace_pairs image b))) (sym same)
        (subst (EndsWell image st.settings) (sym t.bytes)
        (settled_well image is st.settings t.stream.settings st.stack t.stream.stack (events_of st.lines) t.run.1.0 t.run.0 t.run.1.1))

    pub ends_well : (id : ℕ) → 0 < id → EndsWell image (own id) (of id frames_carry)
    ends_well id some = subst (EndsWell image (own id)) (sym (carried id some)) (by (has_stream id b.streams) refl)
      where
        by : (t : Bool) → has_stream id b.streams ≡ t → EndsWell image (own id) (of id (trace_pairs image b))
        by true e =
            let one = found HasSizes id b.streams sized e in
            subst (λ (i : ℕ). EndsWell image (own i) (of i (trace_pairs image b))) one.2 (stream_ends_well one.0 one.1)
        by false e = inl (absent id e)

    -- ---- the retired paths

    abbrev pub StreamHasRetired : BenchStream → Type 0
    StreamHasRetired st =
        HasRetired image (own st.id) st.id (items_after (run_after image st.settings.depth (events_of st.lines))) (events_of st.lines)
        (of st.id frames_carry)

    stream_has_retired : (st : BenchStream) → HasSizes st → StreamHasRetired st
    stream_has_retired st (t, same) =
        let items = items_after (run_after image st.settings.depth (events_of st.lines)) in
        let has = settled_path image is st.settings t.stream.settings st.stack t.stream.stack st.id (events_of st.lines) t.run.1.0 t.run.0 t.run.1.1 in
        subst (λ (s : Sizes). HasRetired image s st.id items (events_of st.lines) (of st.id frames_carry)) (sym same)
        (subst (HasRetired image st.settings st.id items (events_of st.lines)) (sym (carried st.id t.stream.id.0 ∙ t.bytes)) has)

    pub streams_have_retired : All StreamHasRetired b.streams
    streams_have_retired k d within = stream_has_retired (slice_index_or b.streams k d) (sized k d within)

    -- ---- the lines

    module _ (lines : List Printed) (faulty : Bool) (text : IsTraceText image table b lines faulty) where
      of_source : (id : ℕ) → IsId id → PathPrinted image (own id) id (of id frames_carry) (lines_with id lines)
      of_source id source = path_is_alone image own id source (own_settings id) frames_carry 0 lines faulty text

      of_stream : (st : BenchStream) → IsId st.id → HasSizes st → lines_with st.id lines ≡ lines_under st.id (trace_lines image st)
      of_stream st source (t, same) =
          settled_lines image is st.settings t.stream.settings st.stack t.stream.stack st.id (events_of st.lines) t.run.1.0 (lines_with st.id lines)
          t.run.0 t.run.1.1
          (subst (λ (l : List ℕ). PathPrinted image st.settings st.id l (lines_with st.id lines)) (carried st.id source.0 ∙ t.bytes)
          (subst (λ (s : Sizes). PathPrinted image s st.id (of st.id frames_carry) (lines_with st.id lines)) same (of_source st.id source)))

      of_other : (id : ℕ) → has_stream id b.streams ≡ false → lines_with id lines ≡ []
      of_other id other = by (one_of_sources id)
        where
          by : IsId id ⊎ (IsId id → ⊥) → lines_with id lines ≡ []
          by (inl source) =
              subst (λ (l : List ℕ). PathPrinted image (own id) id l (lines_with id lines)) (carried id source.0 ∙ absent id other) (of_source id source)
          by (inr neither) = others_have_none (by_sizes (paths image) own) frames_carry 0 lines faulty id neither text

      as_text : (st : BenchStream) → lines_with st.id lines ≡ lines_under st.id (trace_lines image st)
          → text_of (lines_with st.id lines) ≡ stream_text image st ++ concat (end_lines st.id (events_of st.lines))
      as_text st are =
          let items = items_after (run_after image st.settings.depth (events_of st.lines)) in
          ap text_of are ∙ text_under st.id (trace_lines image st)
          ∙ concat-append (line_list st.id None items) (end_lines st.id (events_of st.lines))
          ∙ ap (λ (l : List ℕ). l ++ concat (end_lines st.id (events_of st.lines))) (list_joined st.id None items)

      of_streams : All (λ (st : BenchStream). lines_with st.id lines ≡ lines_under st.id (trace_lines image st)) b.streams
      of_streams k d within = of_stream (slice_index_or b.streams k d) (bench.streams k d within).id (sized k d within)

      pub shows_traces : ShowsTraces image b lines
      shows_traces = record {
        streams = of_streams;
        retired = λ k d within. as_text (slice_index_or b.streams k d) (of_streams k d within);
        alone = ids_are (λ id. has_stream id b.streams) lines (text_has (by_sizes (paths image) own) (λ items. refl) frames_carry lines faulty text) of_other
            (is_of_one b.streams) (λ id. refl);
      }

      no_fault : faulty ≡ false
      no_fault = text_well image own own_settings (by_sizes (paths image) own) (λ id bytes line faulty ends. ends) frames_carry ends_well lines faulty text

    -- ---- under another

    -- such tables have the same sizes where an ID has a byte
    alike : (other : List Sizes) → Suits b other → (id : ℕ) → IsId id → (of id frames_carry ≡ [] → ⊥) → own id ≡ sizes_at other id
    alike other also id source some = by (has_stream id b.streams) refl
      where
        all_same : All (λ (st : BenchStream). own st.id ≡ sizes_at other st.id) b.streams
        all_same k d within = suits k d within ∙ sym (also k d within)

        by : (t : Bool) → has_stream id b.streams ≡ t → own id ≡ sizes_at other id
        by true e =
            let one = found (λ (st : BenchStream). own st.id ≡ sizes_at other st.id) id b.streams all_same e in
            subst (λ (i : ℕ). own i ≡ sizes_at other i) one.2 one.1
        by false e = absurd (some (carried id source.0 ∙ absent id e))

    other_text : (other : List Sizes) → Suits b other → (lines : List Printed) (faulty : Bool) → IsTraceText image table b lines faulty
        → IsTraceText image other b lines faulty
    other_text other also lines faulty text = text_alike (paths image) own (sizes_at other) frames_carry 0 lines faulty (λ s. refl) (alike other also) text

  pub traces_are_shown : TracesAreShown image b
  traces_are_shown =
      let table = table_of b in
      let fits = some_table_suits b bench in
      let some = some_text_of_paths image (sizes_at table) is (own_settings table fits.0 fits.1) frames_carry 0 carry_small in
      let lines = some.0 in
      let clean : some.1 ≡ false = no_fault table fits.0 fits.1 lines some.1 some.2 in
      let text : IsTraceText image table b lines false = subst (λ (f : Bool). IsTraceText image table b lines f) clean some.2 in
      record {
        nothing_left = nothing_left (trace_pairs image b);
        carried = whole_in_frames;
        lines = lines;
        text = λ other is_table suits. other_text table fits.0 fits.1 other suits lines false text;
        shows = shows_traces table fits.0 fits.1 lines false text;
        only = λ other is_table suits others also printed.
            one_text_of_paths image (sizes_at other) (own_settings other is_table suits) frames_carry 0 others lines also false printed
            (other_text table fits.0 fits.1 other suits lines false text);
      }
