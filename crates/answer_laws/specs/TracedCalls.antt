-- A call of `path`, with `--count` or without, for what `trace` wrote.
use Rattle.std.specs.Prelude.{◌≡◌, ℕ, ◌<◌, All, false, true, List, [], ◌++◌, Option, Some, None, IfSome, ⊤}
use Rattle.capture_streams.specs.Laws.{lines_with}
use Rattle.capture_streams.specs.Texts.{Printed, lines_under, sum_lines, text_of}
use Rattle.command_words.specs.Words.{Intake}
use Rattle.count_streams.specs.Counted.{counted}
use Rattle.count_streams.specs.Pairs.{items_of_stream}
use Rattle.etm_types.specs.Settings.{Sizes, default_sizes}
use Rattle.etm_types.specs.declared.item.Item.{Item}
use Rattle.program_image.specs.declared.image.Image.{Image}
use Rattle.retired_paths.specs.Retired.{items_after}
use Rattle.run_file.specs.Parts.{BenchParts, BenchStream, events_of, has_stream}
use Rattle.spec_run.specs.RunAfter.{run_after}
use Rattle.trace_cmd.specs.Answers.{Call, HasImage, IsCountsUnder, IsPathUnder}
use Rattle.traced_runs.specs.Traced.{ShowsTraces, Suits, end_lines, is_of_one, trace_frames, with_syncs}
use Rattle.answer_lines.specs.declared.status.Status.{Status}
use Rattle.answer_lines.specs.declared.status.Status.TheVariants as status
use Rattle.command_words.specs.declared.words.Layout.{Layout}
use Rattle.command_words.specs.declared.words.Layout.TheVariants.{Frames, Synced}
use Rattle.trace_io.specs.Bytes.{AppendsAll}
use Rattle.trace_io.specs.State.{IoState}

-- frames, or frames among synchronisation packets where such were written
abbrev pub written_layout : Option ℕ → Layout
written_layout None = Frames
written_layout (Some every) = Synced

-- an input of what was written, of trace units of these sizes
abbrev pub written_under : Option ℕ → List Sizes → Intake
written_under every table = record { units = table; layout = written_layout every }

-- The words ask for something of what was written, and give each stream of the run file its sizes. The image is the same. The input is the
-- frames, or these with a synchronisation packet before the first and each so-many-th behind it.
pub record IsOfTrace (asks : Intake → List (List ℕ) → Type 0) (c : Call) (image : Image) (b : BenchParts) : Type 0 where
  pub table : List Sizes
  pub suits : Suits b table
  pub every : Option ℕ
  pub some : IfSome every (λ n. 0 < n)
  pub words : asks (written_under every table) c.words
  pub is_same : HasImage c image
  pub input : c.input.bytes ≡ Some (with_syncs every (trace_frames image b))

-- they ask for paths, or for the counts of paths
abbrev pub IsPathOfTrace : Call → Image → BenchParts → Type 0
IsPathOfTrace c image b = IsOfTrace IsPathUnder c image b

abbrev pub IsCountOfTrace : Call → Image → BenchParts → Type 0
IsCountOfTrace c image b = IsOfTrace IsCountsUnder c image b

-- where the input is read to its end, the traces are printed, and nothing else; no such input has a fault
abbrev pub PrintsTraces : Image → BenchParts → IoState → IoState → Status → Type 0
PrintsTraces image b old new status.Done = (lines : List Printed) × ShowsTraces image b lines × AppendsAll old new (text_of lines)
PrintsTraces image b old new status.Faulted = ⊥
PrintsTraces image b old new other = ⊤

-- the items of one stream among items with IDs, in order, are those of its retired path
abbrev pub HasItems : Image → List (ℕ × Item) → BenchStream → Type 0
HasItems image items s = items_of_stream s.id items ≡ items_after (run_after image s.settings.depth (events_of s.lines))

-- The lines are those of the counts of items, of which each stream has those of its retired path, and no other ID any; and then that of the
-- end of each stream that has an event.
pub record ShowsCounts (image : Image) (b : BenchParts) (lines : List Printed) : Type 0 where
  pub items : List (ℕ × Item)
  pub ends : List Printed
  pub all : lines ≡ sum_lines (counted image default_sizes) items ++ ends
  pub retired : All (HasItems image items) b.streams
  pub others : (id : ℕ) → has_stream id b.streams ≡ false → items_of_stream id items ≡ []
  pub ended : All (λ (s : BenchStream). lines_with s.id ends ≡ lines_under s.id (end_lines s.id (events_of s.lines))) b.streams
  pub alone : All (λ (l : Printed). is_of_one b.streams l.id ≡ true) ends

-- where the input is read to its end, the counts of the traces are printed, and nothing else; no such input has a fault
abbrev pub PrintsCounts : Image → BenchParts → IoState → IoState → Status → Type 0
PrintsCounts image b old new status.Done = (lines : List Printed) × ShowsCounts image b lines × AppendsAll old new (text_of lines)
PrintsCounts image b old new status.Faulted = ⊥
PrintsCounts image b old new other = ⊤
