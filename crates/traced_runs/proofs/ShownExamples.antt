-- What is shown of a small run file's traces, and of such that no run file has: two streams of one ID, one whose sizes no trace unit has, and none.
use Rattle.std.proofs.Common.{◌≡◌, ℕ, Bool, true, false, List, [], ◌∷◌, ◌++◌, refl, sym, ap, subst, ◌∙◌, arith}
use Rattle.std.specs.Prelude.{All, codes, length}
use Rattle.std.specs.List.{concat}
use Rattle.std.proofs.lemmas.List.Elements.{All-from_recursion, recursion_from_All}
use Rattle.a64_branches.specs.Classes.{class_of}
use Rattle.atom_formats.specs.Bytes.{byte_of}
use Rattle.atom_formats.specs.Formats.{atom_formats}
use Rattle.capture_streams.specs.Laws.{lines_with}
use Rattle.capture_streams.specs.Paths.{paths}
use Rattle.capture_streams.specs.Texts.{EndsOf, Listing, Printed, by_sizes, lines_under, of, sources, text_of}
use Rattle.etm_types.proofs.Tables.{are_settings}
use Rattle.etm_types.specs.Settings.{AreSettings, Sizes}
use Rattle.etm_types.specs.SettingsTable.{IsTable, sizes_at}
use Rattle.formatter_frames.specs.Unframed.{begun_frame, unframed}
use Rattle.path_text.specs.Lines.{in_base}
use Rattle.retired_paths.specs.Retired.{stream_text}
use Rattle.run_file.specs.Parts.{BenchParts, BenchStream, events_of}
use Rattle.spec_run.specs.declared.event.Event.TheVariants as event
use Rattle.traced_runs.proofs.TracedExamples.{HasOwn, all_frames, all_traces, beginning, bench, frames_are, line, loop, of_five, once}
use Rattle.traced_runs.proofs.TracedExamples.{sizes, stream, traces_are, user}
use Rattle.traced_runs.specs.Traced.{IsTraceText, Suits, TracesAreShown, end_lines, is_of_one, trace_frames, trace_lines, traces}

-- ---- three streams, of which one has no event

abbrev Carries : List ℕ → ℕ × List ℕ → Type 0
Carries frames t = of t.0 (unframed frames) ≡ t.1

-- the frames are whole, and carry each trace
pub whole : TracesAreShown loop bench → begun_frame all_frames ≡ []
whole shown = subst (λ (l : List ℕ). begun_frame l ≡ []) frames_are shown.nothing_left

pub all_carried : TracesAreShown loop bench
    → (of 5 (unframed all_frames) ≡ of_five) × (of 3 (unframed all_frames) ≡ []) × (of 2 (unframed all_frames) ≡ beginning)
all_carried shown =
    let carried = subst (λ (l : List ℕ). All (Carries l) (traces loop bench)) frames_are shown.carried in
    let (five, (three, (two, none))) = recursion_from_All (Carries all_frames) all_traces (subst (All (Carries all_frames)) traces_are carried) in
    (five, three, two)

-- the lines are printed under each table that suits
pub printed_under : (shown : TracesAreShown loop bench) (table : List Sizes) → IsTable table → Suits bench table
    → IsTraceText loop table bench shown.lines false
printed_under shown table is suits = shown.text table is suits

-- and they are not left out: one is that of how stream 02 ends
abbrev HasLines : List Printed → BenchStream → Type 0
HasLines lines s = lines_with s.id lines ≡ lines_under s.id (trace_lines loop s)

pub not_nothing : TracesAreShown loop bench → (table : List Sizes) → IsTable table → Suits bench table → (faulty : Bool)
    → IsTraceText loop table bench [] faulty → ⊥
unfolding class_of
not_nothing shown table is suits faulty text =
    let (five, (three, (two, none))) = recursion_from_All (HasLines shown.lines) bench.streams shown.shows.streams in
    absurd (omega (arith, ap length (ap (lines_with 2) (shown.only table is suits [] faulty text).0 ∙ two)))

-- ---- those of no run file

-- the core is on at 0x2008, and retires nothing
abbrev started : ℕ → BenchStream
started id = stream id (sizes 0 0 0) (once (event.On 0x2008 user) ∷ [])

-- ---- Two streams of one ID, each with the same line, which is what is printed: but the frames carry of that ID the bytes of both.

abbrev twice : BenchParts
twice = record { streams = started 5 ∷ started 5 ∷ []; weaves = [] }

abbrev both_traces : List (ℕ × List ℕ)
both_traces = (5, beginning) ∷ (5, beginning) ∷ []

traces_of_both : traces loop twice ≡ both_traces
unfolding class_of atom_formats byte_of
traces_of_both = refl

both_carried : of 5 (unframed (trace_frames loop twice)) ≡ beginning ++ beginning
unfolding class_of atom_formats byte_of
both_carried = refl

pub not_of_one_id : TracesAreShown loop twice → ⊥
not_of_one_id shown =
    let carried = subst (All (Carries (trace_frames loop twice))) traces_of_both shown.carried in
    let (first, (second, none)) = recursion_from_All (Carries (trace_frames loop twice)) both_traces carried in
    absurd (omega (arith, ap length (sym both_carried ∙ first)))

-- ---- One of three streams has sizes that no trace unit has, a VMID of three bytes. So no table suits, and nothing is asked of the order in
-- which the lines of the others come: here the end of 05 stands before that of 02.

abbrev odd : BenchParts
odd = record { streams = started 5 ∷ stream 3 (sizes 8 3 0) [] ∷ started 2 ∷ []; weaves = [] }

abbrev odd_traces : List (ℕ × List ℕ)
odd_traces = (5, beginning) ∷ (3, []) ∷ (2, beginning) ∷ []

traces_of_odd : traces loop odd ≡ odd_traces
unfolding class_of atom_formats byte_of
traces_of_odd = refl

odd_carried : All (Carries (trace_frames loop odd)) odd_traces
unfolding class_of atom_formats byte_of
odd_carried = All-from_recursion (Carries (trace_frames loop odd)) odd_traces (refl, (refl, (refl, tt)))

abbrev turned_ends : List Printed
turned_ends = line 5 (codes "05 end") ∷ line 2 (codes "02 end") ∷ []

abbrev HasText : BenchStream → Type 0
HasText s = text_of (lines_with s.id turned_ends) ≡ stream_text loop s ++ concat (end_lines s.id (events_of s.lines))

abbrev IsOne : Printed → Type 0
IsOne l = is_of_one odd.streams l.id ≡ true

no_table : (table : List Sizes) → IsTable table → Suits odd table → ⊥
no_table table is suits =
    let (five, (three, (two, none))) = recursion_from_All (HasOwn table) odd.streams suits in
    let size : false ≡ true = (subst AreSettings three (are_settings table 3 is)).vmid in cc

pub shown_where_no_table_suits : TracesAreShown loop odd
unfolding class_of atom_formats byte_of in_base
shown_where_no_table_suits = record {
  nothing_left = refl;
  carried = subst (All (Carries (trace_frames loop odd))) (sym traces_of_odd) odd_carried;
  lines = turned_ends;
  text = λ table is suits. absurd (no_table table is suits);
  shows = record {
    streams = All-from_recursion (HasLines turned_ends) odd.streams (refl, (refl, (refl, tt)));
    retired = All-from_recursion HasText odd.streams (refl, (refl, (refl, tt)));
    alone = All-from_recursion IsOne turned_ends (refl, (refl, tt));
  };
  only = λ table is suits others faulty text. absurd (no_table table is suits);
}

-- ---- of no stream nothing is printed under any table, and that is no fault

abbrev empty : BenchParts
empty = record { streams = []; weaves = [] }

no_ends : (g : Listing) (ids : List ℕ) → EndsOf g [] ids [] false
no_ends g [] = (refl, refl)
no_ends g (id ∷ ids) = ([], [], false, false, (refl, refl), no_ends g ids, refl, refl)

pub nothing_printed : (table : List Sizes) → IsTraceText loop table empty [] false
nothing_printed table = record {
  body = [];
  ending = [];
  gained = refl;
  ended = record {
    sums = [];
    summed = ([], refl, refl);
    ends = [];
    some_fault = false;
    ended = no_ends (by_sizes (paths loop) (sizes_at table)) sources;
    all = refl;
    fault = refl;
  };
  all = refl;
}
