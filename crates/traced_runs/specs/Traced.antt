-- What `trace` writes of a run file over an image, and what is printed of the paths in that.
use Rattle.std.specs.Prelude.{◌≡◌, ℕ, ◌-◌, ◌≤◌, Bool, true, false, All, List, [], ◌∷◌, ◌++◌, length, drop, map, replicate, slice_set}
use Rattle.std.specs.Prelude.{◌⊎◌, IfOk, Option, Some, None, Result, Ok}
use Rattle.std.specs.List.{concat}
use Rattle.run_file.specs.declared.line.Weave.{Weave}
use Rattle.capture_streams.specs.Laws.{lines_with}
use Rattle.capture_streams.specs.Paths.{paths}
use Rattle.capture_streams.specs.Texts.{IsText, Printed, by_sizes, lines_under, of, text_of}
use Rattle.etm_types.specs.Settings.{Sizes, default_sizes}
use Rattle.etm_types.specs.SettingsTable.{IsTable, sizes_at}
use Rattle.formatter_frames.specs.Framed.{framed}
use Rattle.formatter_frames.specs.Unframed.{begun_frame, unframed}
use Rattle.packet_grammar.specs.declared.end.End.TheVariants as end
use Rattle.path_text.specs.EndLines.{end_line}
use Rattle.path_text.specs.PathLines.{line_list}
use Rattle.path_text.specs.Writing.{Writes}
use Rattle.program_image.specs.declared.image.Image.{Image}
use Rattle.run_file.specs.Parts.{BenchParts, BenchStream, IsBench, events_of, has_stream}
use Rattle.run_file.specs.Refusals.{bench_of, refusal_among}
use Rattle.spec_run.specs.RunAfter.{run_after}
use Rattle.spec_run.specs.declared.event.Event.{Event}
use Rattle.retired_paths.specs.Retired.{RunsSo, items_after, stream_text}
use Rattle.sync_frames.specs.Synced.{synced_every}
use Rattle.woven_traces.specs.Woven.{woven}
use Rattle.answer_lines.specs.declared.status.Status.{Status}
use Rattle.answer_lines.specs.declared.status.Status.TheVariants as status
use Rattle.trace_io.specs.Bytes.{TakesAll}
use Rattle.trace_io.specs.State.{IoState}
use Rattle.trace_io.specs.declared.traits.Failed.{Failed}
use Rattle.trace_unit.specs.Written.{settled}
use Rattle.ring_capture.specs.Rotated.{in_bytes}

-- what the trace unit of each stream writes for its events, with the ID of the stream
abbrev pub traces : Image → BenchParts → List (ℕ × List ℕ)
traces image b = map (λ (s : BenchStream). (s.id, settled image s.settings s.stack (events_of s.lines))) b.streams

-- woven as the run file says
abbrev pub trace_pairs : Image → BenchParts → List (ℕ × ℕ)
trace_pairs image b = woven b.weaves (traces image b)

-- in frames
abbrev pub trace_frames : Image → BenchParts → List ℕ
trace_frames image b = framed (trace_pairs image b)

-- ---- the paths in them

-- a trace has one end, a clean one, where it has an event
abbrev pub end_lines : ℕ → List Event → List (List ℕ)
end_lines id [] = []
end_lines id (e ∷ events) = end_line id end.Clean ∷ []

-- the lines of a stream's trace: those of its retired path, and then of its end
abbrev pub trace_lines : Image → BenchStream → List (List ℕ)
trace_lines image s =
    line_list s.id None (items_after (run_after image s.settings.depth (events_of s.lines))) ++ end_lines s.id (events_of s.lines)

-- the ID is there, and is that of a stream
abbrev pub is_of_one : List BenchStream → Option ℕ → Bool
is_of_one streams None = false
is_of_one streams (Some id) = has_stream id streams

-- Each stream has the lines of its trace. As a text they are what `retired` prints of it, and then its end. Each line is one of a stream.
pub record ShowsTraces (image : Image) (b : BenchParts) (lines : List Printed) : Type 0 where
  pub streams : All (λ (s : BenchStream). lines_with s.id lines ≡ lines_under s.id (trace_lines image s)) b.streams
  pub retired : All (λ (s : BenchStream). text_of (lines_with s.id lines)
      ≡ stream_text image s ++ concat (end_lines s.id (events_of s.lines))) b.streams
  pub alone : All (λ (l : Printed). is_of_one b.streams l.id ≡ true) lines

-- a table of sizes gives the ID of each stream those of its trace unit; of other IDs it says nothing
abbrev pub Suits : BenchParts → List Sizes → Type 0
Suits b table = All (λ (s : BenchStream). sizes_at table s.id ≡ s.settings) b.streams

-- what is printed, under these sizes, of the paths in the frames; faulty says whether one of them has a fault
abbrev pub IsTraceText : Image → List Sizes → BenchParts → List Printed → Bool → Type 0
IsTraceText image table b lines faulty = IsText (by_sizes (paths image) (sizes_at table)) (unframed (trace_frames image b)) 0 lines faulty

-- The frames are whole, and carry each trace. Their paths, under every table that suits, have no fault, and show the traces; nothing else is
-- printed of them.
pub record TracesAreShown (image : Image) (b : BenchParts) : Type 0 where
  pub nothing_left : begun_frame (trace_frames image b) ≡ []
  pub carried : All (λ (t : ℕ × List ℕ). of t.0 (unframed (trace_frames image b)) ≡ t.1) (traces image b)
  pub lines : List Printed
  pub text : (table : List Sizes) → IsTable table → Suits b table → IsTraceText image table b lines false
  pub shows : ShowsTraces image b lines
  pub only : (table : List Sizes) → IsTable table → Suits b table → (others : List Printed) (faulty : Bool) → IsTraceText image table b others faulty
      → (others ≡ lines) × (faulty ≡ false)

-- a table in which these streams are given their sizes
abbrev pub with_streams : List BenchStream → List Sizes → List Sizes
with_streams [] table = table
with_streams (s ∷ streams) table = with_streams streams (slice_set table (s.id - 1) s.settings)

-- a table that suits: IDs without a stream have the default sizes
abbrev pub table_of : BenchParts → List Sizes
table_of b = with_streams b.streams (replicate 111 default_sizes)

abbrev pub SomeTableSuits : Type 0
SomeTableSuits = (b : BenchParts) → IsBench b → IsTable (table_of b) × Suits b (table_of b)

-- a stream without an event has no byte, and no line
abbrev pub NoEventNoLine : Type 0
NoEventNoLine =
    (image : Image) (s : BenchStream) → events_of s.lines ≡ []
    → (settled image s.settings s.stack (events_of s.lines) ≡ []) × (trace_lines image s ≡ [])

-- all events are accepted
abbrev pub AreAccepted : Image → BenchParts → Type 0
AreAccepted image b = refusal_among image b.streams ≡ None

-- ---- what is read of a run file, and written

-- A run file was read to its end, all of whose events are accepted over the image. These are the frames of its traces, and what is printed of
-- the paths in them is what `retired` prints of each stream, and its end.
pub record IsTracedFrames (image : Image) (input input' : IoState) (frames : List ℕ) : Type 0 where
  pub run_file : List ℕ
  pub read : TakesAll input input' run_file
  pub bench : BenchParts
  pub accepted : bench_of image run_file ≡ Ok bench
  pub written : frames ≡ trace_frames image bench
  pub shown : TracesAreShown image bench

-- the last n of these frames, or all where they are no more
abbrev pub last_of : ℕ → List ℕ → List ℕ
last_of n frames = drop (length frames - in_bytes n) frames

-- all frames, or the last ones
abbrev pub kept_frames : Option ℕ → List ℕ → List ℕ
kept_frames None frames = frames
kept_frames (Some n) frames = last_of n frames

-- The last n of the frames, or all where they are no more. Each stream has in them its trace from some byte on.
pub record AreLast (image : Image) (b : BenchParts) (n : ℕ) (frames : List ℕ) : Type 0 where
  pub written : frames ≡ last_of n (trace_frames image b)
  pub carried : All (λ (t : ℕ × List ℕ). (missing : ℕ) × (missing ≤ length t.1) × (of t.0 (unframed frames) ≡ drop missing t.1)) (traces image b)

-- a run file was read in the same way, and these are the last n frames of its traces
pub record IsLastFrames (image : Image) (input input' : IoState) (n : ℕ) (frames : List ℕ) : Type 0 where
  pub run_file : List ℕ
  pub read : TakesAll input input' run_file
  pub bench : BenchParts
  pub accepted : bench_of image run_file ≡ Ok bench
  pub last : AreLast image bench n frames

-- all frames, or the last ones of them
abbrev pub AreTracedFrames : Image → Option ℕ → IoState → IoState → List ℕ → Type 0
AreTracedFrames image None input input' frames = IsTracedFrames image input input' frames
AreTracedFrames image (Some n) input input' frames = IsLastFrames image input input' n frames

-- ---- as they are written

-- frames as they stand, or with a full synchronisation packet before the first of them and before each so-many-th behind it
abbrev pub with_syncs : Option ℕ → List ℕ → List ℕ
with_syncs None frames = frames
with_syncs (Some every) frames = synced_every every frames

-- all frames of its traces, or the last ones, and synchronisation packets among these where they are asked for
pub record AreWritten (image : Image) (last every : Option ℕ) (input input' : IoState) (bytes : List ℕ) : Type 0 where
  pub frames : List ℕ
  pub traced : AreTracedFrames image last input input' frames
  pub synced : bytes ≡ with_syncs every frames

-- the frames of traces are written, woven so: all of them, or the last ones, and synchronisation packets among these; or memory is wanting
abbrev pub WritesTraces : List Weave → List (ℕ × List ℕ) → Option ℕ → Option ℕ → IoState → IoState → Result Status Failed → Type 0
WritesTraces weaves traces last every old new result =
    (result ≡ Ok status.NoMemory)
    ⊎ (Writes old new result (with_syncs every (kept_frames last (framed (woven weaves traces)))) × IfOk result (λ s. s ≡ status.Done))

-- how a run file is answered by its traces
abbrev pub TracesSo : Image → Option ℕ → Option ℕ → IoState → IoState → IoState → IoState → Result Status Failed → Type 0
TracesSo image last every input input' = RunsSo (AreWritten image last every input input') image input input'
