-- The retired paths of the streams of a run file, and how it is answered.
use Rattle.std.proofs.Common.{◌≡◌, ℕ, zero, suc, ◌+◌, ◌≤◌, List, [], ◌∷◌, ◌++◌, length, take, drop, replicate, Option, Some, None, Result, Ok, Err, inl, inr}
use Rattle.std.proofs.Common.{refl, sym, ap, subst, ◌∙◌, append_assoc}
use Rattle.std.proofs.lemmas.List.Elements.{All-head, All-tail}
use Rattle.std.specs.Option.{option_map}
use Rattle.std.specs.Prelude.{All, IfOk, slice_get}
use Rattle.etm_types.specs.Settings.{Sizes}
use Rattle.path_text.specs.PathLines.{lines_of}
use Rattle.path_text.specs.Writing.{Writes}
use Rattle.program_image.specs.Blocks.{HasGap}
use Rattle.program_image.specs.declared.image.Image.{Image}
use Rattle.run_file.specs.BenchText.{parsed}
use Rattle.run_file.specs.Parts.{BenchParts, BenchStream, IsBench, IsBenchLine, IsBenchStream, events_of}
use Rattle.run_file.specs.Refusals.{bench_of, first_of, most_text, refusal_among, refused_line, stream_refusal, unless, unless_refused}
use Rattle.run_file.specs.declared.fault.BenchWhy.{BenchWhy}
use Rattle.run_file.specs.declared.line.BenchLine.{BenchLine}
use Rattle.spec_run.proofs.EventsJoined.{events_front}
use Rattle.spec_run.specs.RunAfter.{AreEvents, IsEvent, run_after}
use Rattle.spec_run.specs.Runs.{Execution}
use Rattle.spec_run.specs.declared.event.Event.{Event}
use Rattle.spec_run.specs.declared.run_fault.RunFault.{RunFault}
use Rattle.retired_paths.proofs.Refused.{all_lines, dropped_next, events_next, events_whole, not_below}
use Rattle.retired_paths.proofs.RetiredEvents.{Printed, front_are, printed_all, printed_front, printed_more, shown_by_all}
use Rattle.retired_paths.specs.Retired.{IsBadBench, IsRetiredText, RunsSo, TakesBench, retired_text, stream_text, streams_text}
use Rattle.answer_lines.specs.BenchLine.{bench_line}
use Rattle.retired_paths.specs.Retiring.{CanGoOn, IsRetiring, PrintsRetired, events_with, retired_items}
use Rattle.retired_paths.specs.declared.retiring.Retiring.{Retiring}
use Rattle.answer_lines.specs.declared.status.Status.{Status}
use Rattle.answer_lines.specs.declared.status.Status.TheVariants as status
use Rattle.trace_io.specs.State.{IoState}
use Rattle.trace_io.specs.declared.traits.Failed.{Failed}

-- ---- the events of a run file

times_are : (s : Sizes) (n : ℕ) (e : Event) (more : List Event) → IsEvent s e → AreEvents s more → AreEvents s (replicate n e ++ more)
times_are s zero e more is are = are
times_are s (suc n) e more is are = (is, times_are s n e more is are)

pub lines_are : (s : Sizes) (lines : List BenchLine) → All (IsBenchLine s) lines → AreEvents s (events_of lines)
lines_are s [] all = tt
lines_are s (l ∷ lines) all =
    times_are s l.times l.event (events_of lines) (All-head (IsBenchLine s) l lines all).event (lines_are s lines (All-tail (IsBenchLine s) l lines all))

streams_are : (streams : List BenchStream) (k : ℕ) (stream : BenchStream) → All IsBenchStream streams → slice_get streams k ≡ Some stream
    → AreEvents stream.settings (events_of stream.lines)
streams_are [] k stream all e = absurd cc
streams_are (x ∷ streams) zero stream all e =
    let same : x ≡ stream = cc in
    subst (λ (st : BenchStream). AreEvents st.settings (events_of st.lines)) same
    (lines_are x.settings x.lines (All-head IsBenchStream x streams all).lines)
streams_are (x ∷ streams) (suc k) stream all e = streams_are streams k stream (All-tail IsBenchStream x streams all) e

pub both_none : (a b : Option (ℕ × BenchWhy)) → first_of a b ≡ None → (a ≡ None) × (b ≡ None)
both_none None b e = (refl, e)
both_none (Some fault) b e = absurd cc

none_refused : (image : Image) (streams : List BenchStream) (k : ℕ) (stream : BenchStream) → refusal_among image streams ≡ None
    → slice_get streams k ≡ Some stream → stream_refusal image stream ≡ None
none_refused image [] k stream none e = absurd cc
none_refused image (x ∷ streams) zero stream none e =
    let same : x ≡ stream = cc in
    ap (stream_refusal image) (sym same) ∙ (both_none (stream_refusal image x) (refusal_among image streams) none).0
none_refused image (x ∷ streams) (suc k) stream none e =
    none_refused image streams k stream (both_none (stream_refusal image x) (refusal_among image streams) none).1 e

pub accepted_by : (lines : List BenchLine) (outcome : Result Execution (ℕ × RunFault)) → refused_line lines outcome ≡ None
    → (x : Execution) × (outcome ≡ Ok x)
accepted_by lines (Ok x) e = (x, refl)
accepted_by lines (Err refused) e = absurd cc

-- a stream's events can be run from the first on
pub can_begin : (image : Image) (b : BenchParts) (k : ℕ) (stream : BenchStream) (t : Retiring) → HasGap image → IsBench b
    → refusal_among image b.streams ≡ None → slice_get b.streams k ≡ Some stream → IsRetiring image stream.settings t []
    → CanGoOn image stream.settings t [] (events_of stream.lines)
can_begin image b k stream t gap is none e stands =
    let accepted = accepted_by stream.lines (run_after image stream.settings.depth (events_of stream.lines))
    (none_refused image b.streams k stream none e) in
    record {
      gap = gap;
      are = streams_are b.streams k stream is.streams e;
      execution = accepted.0;
      accepted = accepted.1;
      stands = stands;
    }

-- ---- one line of a stream

accepted_line : (image : Image) (s : Sizes) (t : Retiring) (lines : List BenchLine) (k : ℕ) (l : BenchLine) → slice_get lines k ≡ Some l
    → (can : CanGoOn image s t [] (events_of lines))
    → run_after image s.depth (events_with (events_of (take k lines)) l.times l.event ++ events_of (drop (k + 1) lines)) ≡ Ok can.execution
accepted_line image s t lines k l e can = ap (run_after image s.depth) (sym (events_whole lines k l e)) ∙ can.accepted

pub can_line : (image : Image) (s : Sizes) (t t' : Retiring) (lines : List BenchLine) (k : ℕ) (l : BenchLine) → slice_get lines k ≡ Some l
    → CanGoOn image s t [] (events_of lines) → IsRetiring image s t' (events_of (take k lines))
    → CanGoOn image s t' (events_of (take k lines)) (events_with (events_of (take k lines)) l.times l.event)
can_line image s t t' lines k l e can is =
    let events = events_with (events_of (take k lines)) l.times l.event in
    let behind = events_of (drop (k + 1) lines) in
    let front = events_front image s.depth events behind can.execution (accepted_line image s t lines k l e can) in
    record {
      gap = can.gap;
      are = front_are s events behind (subst (AreEvents s) (events_whole lines k l e) can.are);
      execution = front.0;
      accepted = front.1;
      stands = is;
    }

pub line_more : (image : Image) (s : Sizes) (id : ℕ) (t t' t'' : Retiring) (lines : List BenchLine) (k : ℕ) (l : BenchLine) (a b c : IoState) (u : Unit {0})
    → slice_get lines k ≡ Some l → CanGoOn image s t [] (events_of lines) → Printed image s id t [] t' (events_of (take k lines)) a b
    → PrintsRetired image s id t' (events_of (take k lines)) t'' (events_with (events_of (take k lines)) l.times l.event) b c (Ok u)
    → Printed image s id t [] t'' (events_of (take (k + 1) lines)) a c
line_more image s id t t' t'' lines k l a b c u e can p q =
    subst (λ events. Printed image s id t [] t'' events a c) (sym (events_next lines k l e))
    (printed_more image s id t t' t'' [] (events_of (take k lines)) (events_with (events_of (take k lines)) l.times l.event) a b c u can.stands p q)

pub line_fails : (image : Image) (s : Sizes) (id : ℕ) (t t' t'' : Retiring) (lines : List BenchLine) (k : ℕ) (l : BenchLine) (a b c : IoState) (f d : Failed)
    → slice_get lines k ≡ Some l → CanGoOn image s t [] (events_of lines) → Printed image s id t [] t' (events_of (take k lines)) a b
    → PrintsRetired image s id t' (events_of (take k lines)) t'' (events_with (events_of (take k lines)) l.times l.event) b c (Err f)
    → PrintsRetired image s id t [] t'' (events_of lines) a c (Err d)
line_fails image s id t t' t'' lines k l a b c f d e can p q =
    subst (λ events. PrintsRetired image s id t [] t'' events a c (Err d)) (sym (events_whole lines k l e))
    (printed_front image s id t t' t'' [] (events_of (take k lines)) (events_with (events_of (take k lines)) l.times l.event) (events_of (drop (k + 1) lines))
    can.execution a b c f d can.stands (accepted_line image s t lines k l e can) p q)

-- ---- a stream

pub whole_stream : (image : Image) (id : ℕ) (stream : BenchStream) (t t' : Retiring) (a c : IoState) (result : Result (Unit {0}) Failed)
    → id ≡ stream.id → IsRetiring image stream.settings t [] → PrintsRetired image stream.settings id t [] t' (events_of stream.lines) a c result
    → Writes a c result (stream_text image stream)
whole_stream image id stream t t' a c result same is p =
    let items : retired_items image stream.settings (events_of stream.lines) ≡ p.more = p.grows in
    let text : lines_of id t.shown p.more ≡ stream_text image stream =
    ap (λ shown. lines_of id shown p.more) (shown_by_all image stream.settings id t [] is)
    ∙ ap (lines_of id None) (sym items) ∙ ap (λ i. lines_of i None (retired_items image stream.settings (events_of stream.lines))) same in
    subst (Writes a c result) text p.printed

pub stream_done : (image : Image) (id : ℕ) (stream : BenchStream) (t t' : Retiring) (k : ℕ) (a c : IoState) (u : Unit {0})
    → id ≡ stream.id → IsRetiring image stream.settings t [] → slice_get stream.lines k ≡ None → Printed image stream.settings id t [] t' (events_of (take k stream.lines)) a c
    → Writes {E = Failed} a c (Ok u) (stream_text image stream)
stream_done image id stream t t' k a c u same is none p =
    whole_stream image id stream t t' a c (Ok u) same is (printed_all image stream.settings id t t' [] (events_of stream.lines) a c u
    (subst (λ lines. Printed image stream.settings id t [] t' (events_of lines) a c) (all_lines stream.lines k none) p))

pub id_found : (streams : List BenchStream) (k id : ℕ) (stream : BenchStream) → slice_get streams k ≡ Some stream
    → Some id ≡ option_map (λ st. st.id) (slice_get streams k) → id ≡ stream.id
id_found streams k id stream e is = let same = is ∙ ap (option_map (λ (st : BenchStream). st.id)) e in cc

-- ---- all streams

streams_next : (image : Image) (streams : List BenchStream) (k : ℕ) (stream : BenchStream) → slice_get streams k ≡ Some stream
    → streams_text image (drop k streams) ≡ stream_text image stream ++ streams_text image (drop (k + 1) streams)
streams_next image streams k stream e = ap (streams_text image) (dropped_next streams k stream e)

-- the text of a stream stands behind those of the streams before it, and before those of the streams behind it
pub stream_between : (image : Image) (streams : List BenchStream) (k : ℕ) (stream : BenchStream) (text all : List ℕ)
    → slice_get streams k ≡ Some stream → text ++ streams_text image (drop k streams) ≡ all
    → text ++ (stream_text image stream ++ streams_text image (drop (k + 1) streams)) ≡ all
stream_between image streams k stream text all e is = ap (λ l. text ++ l) (sym (streams_next image streams k stream e)) ∙ is

pub stream_behind : (image : Image) (streams : List BenchStream) (k : ℕ) (stream : BenchStream) (text all : List ℕ)
    → slice_get streams k ≡ Some stream → text ++ streams_text image (drop k streams) ≡ all
    → (text ++ stream_text image stream) ++ streams_text image (drop (k + 1) streams) ≡ all
stream_behind image streams k stream text all e is =
    append_assoc text (stream_text image stream) (streams_text image (drop (k + 1) streams))
    ∙ stream_between image streams k stream text all e is

-- ---- the answer

pub bench_refused : (image : Image) (text : List ℕ) (b : BenchParts) (fault : ℕ × BenchWhy) → length text ≤ most_text → parsed text ≡ Ok b
    → refusal_among image b.streams ≡ Some fault → bench_of image text ≡ Err fault
bench_refused image text b fault le e f =
    simp (not_below most_text (length text) le) (ap (unless_refused image) e ∙ ap (λ r. unless r b) f)

pub bench_accepted : (image : Image) (text : List ℕ) (b : BenchParts) → length text ≤ most_text → parsed text ≡ Ok b
    → refusal_among image b.streams ≡ None → bench_of image text ≡ Ok b
bench_accepted image text b le e f =
    simp (not_below most_text (length text) le) (ap (unless_refused image) e ∙ ap (λ r. unless r b) f)

pub refuses_so : (kind : List ℕ → Type 0) (image : Image) (input input' out out' : IoState) (line : ℕ) (reason : BenchWhy) (result : Result Status Failed)
    → IsBadBench image input input' line reason (bench_line line reason) → Writes out out' result (bench_line line reason)
    → IfOk result (λ answer. answer ≡ status.BenchBad line reason) → RunsSo kind image input input' out out' result
refuses_so kind image input input' out out' line reason (Ok answer) bad writes is =
    subst (λ answer. RunsSo kind image input input' out out' (Ok answer)) (sym is) (bench_line line reason, bad, writes.whole)
refuses_so kind image input input' out out' line reason (Err failed) bad writes is = inr (line, reason, (bench_line line reason, bad, writes.front))

pub bad_bench : (image : Image) (input input' : IoState) (b : BenchParts) (line : ℕ) (reason : BenchWhy) → TakesBench input input' b
    → refusal_among image b.streams ≡ Some (line, reason) → IsBadBench image input input' line reason (bench_line line reason)
bad_bench image input input' b line reason taken refused = record {
  run_file = taken.0;
  read = taken.1.0;
  ended = inl taken.1.1;
  refused = bench_refused image taken.0 b (line, reason) taken.2 taken.3 refused;
  printed = refl;
}

pub retired_so : (image : Image) (input input' : IoState) (b : BenchParts) → TakesBench input input' b
    → refusal_among image b.streams ≡ None → IsRetiredText image input input' (retired_text image b)
retired_so image input input' b taken none = record {
  run_file = taken.0;
  read = taken.1;
  bench = b;
  accepted = bench_accepted image taken.0 b taken.2 taken.3 none;
  printed = refl;
}
