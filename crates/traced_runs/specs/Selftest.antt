-- What `selftest` prints of a number.
use Rattle.std.specs.Prelude.{◌≡◌, ◌⊎◌, ℕ, ◌+◌, ◌%◌, ◌<◌, ◌≤◌, ◌==◌, Bool, List, [], length, take, count_by, Option, Some, None, Result, Ok, Err}
use Rattle.bench_gen.specs.Bench.{generated}
use Rattle.capture_streams.specs.Paths.{paths}
use Rattle.capture_streams.specs.Texts.{IsText, Printed, by_sizes}
use Rattle.etm_types.specs.SettingsTable.{sizes_at}
use Rattle.formatter_frames.specs.Unframed.{begun_frame, unframed}
use Rattle.program_image.specs.ImageText.{image_of}
use Rattle.program_image.specs.declared.fault.ImageWhy.{ImageWhy}
use Rattle.program_image.specs.declared.image.Image.{Image}
use Rattle.run_file.specs.Parts.{BenchParts}
use Rattle.run_file.specs.Refusals.{bench_of}
use Rattle.run_file.specs.declared.fault.BenchWhy.{BenchWhy}
use Rattle.answer_lines.specs.ImageLine.{image_line}
use Rattle.input_pieces.specs.Listed.{most_input}
use Rattle.answer_lines.specs.Prints.{Prints, PrintsFront}
use Rattle.answer_lines.specs.BenchLine.{bench_line}
use Rattle.answer_lines.specs.SummaryLine.{summary_line}
use Rattle.traced_runs.specs.Traced.{table_of, trace_frames}
use Rattle.answer_lines.specs.declared.status.Status.{Status}
use Rattle.answer_lines.specs.declared.status.Status.TheVariants as status
use Rattle.trace_io.specs.Bytes.{AppendsAll}
use Rattle.trace_io.specs.State.{IoState}
use Rattle.trace_io.specs.declared.traits.Failed.{Failed}

-- ---- the texts of a number

-- they are an image, and a run file whose events are all accepted over it
pub record AreGood (n : ℕ) (image : Image) (bench : BenchParts) : Type 0 where
  pub image_is : image_of (generated n).image ≡ Ok image
  pub bench_is : bench_of image (generated n).bench ≡ Ok bench

-- its image is bad
abbrev pub HasBadImage : ℕ → ℕ → ImageWhy → List ℕ → Type 0
HasBadImage n line why text = (image_of (generated n).image ≡ Err (line, why)) × (text ≡ image_line line why)

-- its run file is bad
abbrev pub HasBadBench : ℕ → ℕ → BenchWhy → List ℕ → Type 0
HasBadBench n line why text =
    ((image : Image) × (image_of (generated n).image ≡ Ok image) × (bench_of image (generated n).bench ≡ Err (line, why)))
    × (text ≡ bench_line line why)

-- ---- what is read of their frames

-- so many bytes of them are read at a time: 1 to 1000
abbrev pub piece_of : ℕ → ℕ
piece_of n = 1 + n % 1000

-- the first bytes, or all
abbrev pub kept_of : Option ℕ → List ℕ → List ℕ
kept_of None frames = frames
kept_of (Some cut) frames = take cut frames

-- these are the lines of the paths in what is read, under the sizes of each stream
abbrev pub HasLines : Image → BenchParts → List ℕ → List Printed → Type 0
HasLines image b bytes lines =
    (faulty : Bool) × IsText (by_sizes (paths image) (sizes_at (table_of b))) (unframed bytes) (length (begun_frame bytes)) lines faulty

-- the number of line feeds
abbrev pub line_feeds : List ℕ → ℕ
line_feeds text = count_by (λ byte. byte == 10) text

-- ---- the summary

-- It counts the lines of the paths in the frames of the number's traces, or in the first bytes of them.
pub record IsSummary (n : ℕ) (cut : Option ℕ) (text : List ℕ) : Type 0 where
  pub image : Image
  pub bench : BenchParts
  pub good : AreGood n image bench
  pub few : length (trace_frames image bench) ≤ most_input
  pub lines : List Printed
  pub shown : HasLines image bench (kept_of cut (trace_frames image bench)) lines
  pub printed : text ≡ summary_line n cut (length lines)

-- the frames of the number's traces are longer than what is read
abbrev pub IsTooLong : ℕ → Type 0
IsTooLong n = (image : Image) × (bench : BenchParts) × AreGood n image bench × (most_input < length (trace_frames image bench))

-- how a number is answered: the summary is printed, or why there is none; where a write failed, a front of that
abbrev pub TestsSo : ℕ → Option ℕ → IoState → IoState → Result Status Failed → Type 0
TestsSo n cut out out' (Ok status.Done) = Prints (IsSummary n cut) out out'
TestsSo n cut out out' (Ok (status.ImageBad line why)) = Prints (HasBadImage n line why) out out'
TestsSo n cut out out' (Ok (status.BenchBad line why)) = Prints (HasBadBench n line why) out out'
TestsSo n cut out out' (Ok status.InputTooLong) = IsTooLong n × AppendsAll out out' []
TestsSo n cut out out' (Ok status.NoMemory) = AppendsAll out out' []
TestsSo n cut out out' (Ok status) = ⊥
TestsSo n cut out out' (Err failed) =
    PrintsFront (IsSummary n cut) out out' ⊎ ((line : ℕ) × (why : ImageWhy) × PrintsFront (HasBadImage n line why) out out')
    ⊎ ((line : ℕ) × (why : BenchWhy) × PrintsFront (HasBadBench n line why) out out')
