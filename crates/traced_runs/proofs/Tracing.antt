-- The traces of a run file's streams, as they are made event by event.
use Rattle.std.proofs.Common.{◌≡◌, ℕ, zero, suc, ◌+◌, ◌<◌, List, [], ◌∷◌, ◌++◌, map, take, drop, Option, Some, None}
use Rattle.std.proofs.Common.{refl, sym, ap, subst, ◌∙◌}
use Rattle.std.proofs.lemmas.List.{map-append}
use Rattle.std.proofs.lemmas.List.Elements.{All-head, All-tail}
use Rattle.std.specs.Option.{option_and_then}
use Rattle.std.specs.Prelude.{All, slice_get}
use Rattle.etm_types.specs.Settings.{Sizes}
use Rattle.program_image.specs.Part.{IsImage}
use Rattle.program_image.specs.declared.image.Image.{Image}
use Rattle.run_file.specs.Parts.{BenchParts, BenchStream, IsBench, IsBenchLine, IsBenchStream, events_of}
use Rattle.run_file.specs.Refusals.{first_of, refusal_among, refused_line, stream_refusal}
use Rattle.run_file.specs.declared.line.BenchLine.{BenchLine}
use Rattle.spec_run.proofs.OneEvent.{refused_behind}
use Rattle.spec_run.specs.Checks.{check}
use Rattle.spec_run.specs.RunAfter.{IsEvent, run_after}
use Rattle.spec_run.specs.declared.event.Event.{Event}
use Rattle.spec_run.specs.declared.run_fault.RunFault.{RunFault}
use Rattle.retired_paths.proofs.Refused.{all_lines, among_next, refuses_line}
use Rattle.retired_paths.proofs.RetiredSteps.{take_one}
use Rattle.retired_paths.proofs.RetiredStreams.{bench_accepted}
use Rattle.traced_runs.proofs.TracedStreams.{traces_are_shown}
use Rattle.retired_paths.specs.Retired.{TakesBench}
use Rattle.retired_paths.specs.Retiring.{RefusesLine, events_with}
use Rattle.traced_runs.specs.Traced.{AreAccepted, IsTracedFrames, trace_frames, traces}
use Rattle.traced_runs.specs.Tracing.{IsTracing, refused_at}
use Rattle.woven_traces.specs.Weaving.{all_left, left_of}
use Rattle.woven_traces.specs.declared.weaving.Trace.{Trace}
use Rattle.trace_io.specs.State.{IoState}
use Rattle.trace_unit.specs.Kept.{Kept, StandsAt}
use Rattle.trace_unit.specs.Written.{settled, written}

-- ---- the lines of a run file

all_at : {X : Type 0} (P : X → Type 0) (xs : List X) (k : ℕ) (x : X) → All P xs → slice_get xs k ≡ Some x → P x
all_at P [] k x all e = absurd cc
all_at P (y ∷ xs) zero x all e = let same : y ≡ x = cc in subst P same (All-head P y xs all)
all_at P (y ∷ xs) (suc k) x all e = all_at P xs k x (All-tail P y xs all) e

line_of : (s : Sizes) (place : Option BenchStream) (streams : List BenchStream) (n k : ℕ) (l : BenchLine) → All IsBenchStream streams
    → slice_get streams n ≡ place → ((stream : BenchStream) → place ≡ Some stream → s ≡ stream.settings)
    → Some l ≡ option_and_then (λ st. slice_get st.lines k) place → IsEvent s l.event
line_of s None streams n k l all there same e = absurd cc
line_of s (Some stream) streams n k l all there same e =
    subst (λ (t : Sizes). IsEvent t l.event) (sym (same stream refl))
    (all_at (IsBenchLine stream.settings) stream.lines k l (all_at IsBenchStream streams n stream all there).lines (sym e)).event

-- the event of a line is one of a trace unit of its stream's sizes
pub line_is : (b : BenchParts) (settings : Sizes) (s k : ℕ) (l : BenchLine) → IsBench b
    → ((stream : BenchStream) → slice_get b.streams s ≡ Some stream → settings ≡ stream.settings)
    → Some l ≡ option_and_then (λ st. slice_get st.lines k) (slice_get b.streams s) → IsEvent settings l.event
line_is b settings s k l is same e = line_of settings (slice_get b.streams s) b.streams s k l is.streams refl same e

-- ---- one event

same_written : (image : Image) (s s' : Sizes) (most most' : ℕ) (events : List Event) → s' ≡ s → most' ≡ most
    → written image s' most' events ≡ written image s most events
same_written image s s' most most' events same also =
    ap (λ (t : Sizes). written image t most' events) same ∙ ap (λ (m : ℕ). written image s m events) also

pub one_traced : (image : Image) (unit unit' : Kept) (bytes bytes' : List ℕ) (events : List Event) (e : Event) → IsTracing image unit bytes events
    → StandsAt image unit' (events ++ e ∷ []) → unit'.settings ≡ unit.settings → unit'.stack_depth ≡ unit.stack_depth
    → (more : List ℕ) × (bytes' ≡ bytes ++ more)
    × (written image unit.settings unit.stack_depth (events ++ e ∷ []) ≡ written image unit.settings unit.stack_depth events ++ more)
    → IsTracing image unit' bytes' (events ++ e ∷ [])
one_traced image unit unit' bytes bytes' events e t stands settings most (more, grew, wrote) = record {
  stands = stands;
  wrote = grew ∙ ap (λ (l : List ℕ). l ++ more) t.wrote ∙ sym wrote
      ∙ sym (same_written image unit.settings unit'.settings unit.stack_depth unit'.stack_depth (events ++ e ∷ []) settings most);
}

-- events of which the trace says nothing
pub more_traced : (image : Image) (unit unit' : Kept) (bytes : List ℕ) (events more : List Event) → IsTracing image unit bytes events
    → StandsAt image unit' (events ++ more) → unit'.settings ≡ unit.settings → unit'.stack_depth ≡ unit.stack_depth
    → written image unit.settings unit.stack_depth (events ++ more) ≡ written image unit.settings unit.stack_depth events
    → IsTracing image unit' bytes (events ++ more)
more_traced image unit unit' bytes events more t stands settings most same = record {
  stands = stands;
  wrote = t.wrote ∙ sym same
      ∙ sym (same_written image unit.settings unit'.settings unit.stack_depth unit'.stack_depth (events ++ more) settings most);
}

pub line_refused : (image : Image) (unit : Kept) (s : Sizes) (events : List Event) (line : BenchLine) (k : ℕ) (fault : RunFault) → k < line.times
    → StandsAt image unit (events_with events k line.event) → unit.settings ≡ s → check image unit.run.depth unit.run.place line.event ≡ Some fault
    → RefusesLine image s events line fault
line_refused image unit s events line k fault lt stands same refused =
    subst (λ (t : Sizes). RefusesLine image t events line fault) same
    (refuses_line image unit.settings events line k fault lt
    (refused_behind image unit.settings unit.run (events_with events k line.event) line.event fault stands.run refused))

-- ---- a stream

pub all_traced : (image : Image) (unit : Kept) (bytes : List ℕ) (stream : BenchStream) (k : ℕ) → slice_get stream.lines k ≡ None
    → unit.settings ≡ stream.settings → IsTracing image unit bytes (events_of (take k stream.lines))
    → IsTracing image unit bytes (events_of stream.lines) × (stream_refusal image stream ≡ None)
all_traced image unit bytes stream k none same t =
    let all = subst (λ (l : List BenchLine). IsTracing image unit bytes (events_of l)) (all_lines stream.lines k none) t in (
      all,
      ap (λ (z : Sizes). refused_line stream.lines (run_after image z.depth (events_of stream.lines))) (sym same)
          ∙ ap (refused_line stream.lines) all.stands.run.after,
    )

-- ---- streams

-- the traces of these streams
abbrev pub traces_of : Image → BenchParts → List BenchStream → List (ℕ × List ℕ)
traces_of image b streams = traces image (record b { streams = streams })

pub trace_more : (image : Image) (b : BenchParts) (made : List Trace) (t : Trace) (k : ℕ) (stream : BenchStream) → slice_get b.streams k ≡ Some stream
    → all_left made ≡ traces_of image b (take k b.streams) → t.id ≡ stream.id
    → (left_of t).1 ≡ settled image stream.settings stream.stack (events_of stream.lines)
    → all_left (made ++ t ∷ []) ≡ traces_of image b (take (k + 1) b.streams)
trace_more image b made t k stream there so_far id bytes =
    let one : BenchStream → ℕ × List ℕ = λ s. (s.id, settled image s.settings s.stack (events_of s.lines)) in
    let last : left_of t ≡ one stream = ap (λ (i : ℕ). (i, (left_of t).1)) id ∙ ap (λ (l : List ℕ). (stream.id, l)) bytes in
    map-append left_of made (t ∷ []) ∙ ap (λ (l : List (ℕ × List ℕ)). l ++ left_of t ∷ []) so_far
    ∙ ap (λ (p : ℕ × List ℕ). map one (take k b.streams) ++ p ∷ []) last
    ∙ sym (map-append one (take k b.streams) (stream ∷ [])) ∙ ap (map one) (sym (take_one b.streams k stream there))

-- what is refused of them is refused behind those that are accepted
pub none_among : (image : Image) (streams : List BenchStream) (k : ℕ) (stream : BenchStream) → slice_get streams k ≡ Some stream
    → refusal_among image streams ≡ refusal_among image (drop k streams) → stream_refusal image stream ≡ None
    → refusal_among image streams ≡ refusal_among image (drop (k + 1) streams)
none_among image streams k stream there so_far none =
    so_far ∙ among_next image streams k stream there ∙ ap (λ r. first_of r (refusal_among image (drop (k + 1) streams))) none

pub one_among : (image : Image) (streams : List BenchStream) (k : ℕ) (stream : BenchStream) (line : ℕ) (fault : RunFault)
    → slice_get streams k ≡ Some stream → refusal_among image streams ≡ refusal_among image (drop k streams)
    → stream_refusal image stream ≡ refused_at line fault → refusal_among image streams ≡ refused_at line fault
one_among image streams k stream line fault there so_far refused =
    so_far ∙ among_next image streams k stream there ∙ ap (λ r. first_of r (refusal_among image (drop (k + 1) streams))) refused

-- ---- the answer

pub traced_so : (image : Image) (input input' : IoState) (b : BenchParts) → TakesBench input input' b → IsImage image → IsBench b → AreAccepted image b
    → IsTracedFrames image input input' (trace_frames image b)
traced_so image input input' b taken is bench none = record {
  run_file = taken.0;
  read = taken.1;
  bench = b;
  accepted = bench_accepted image taken.0 b taken.2 taken.3 none;
  written = refl;
  shown = traces_are_shown image b is bench none;
}
