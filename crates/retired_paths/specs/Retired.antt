-- What `retired` prints of a run file over an image, and how a bad run file is answered.
use Rattle.std.specs.Prelude.{◌≡◌, ◌⊎◌, ℕ, ◌<◌, ◌≤◌, List, [], ◌∷◌, ◌++◌, length, codes, None, Result, Ok, Err}
use Rattle.std.specs.Io.KnownBytes.{Consumes, IsAtEnd}
use Rattle.run_file.specs.Parts.{BenchParts, BenchStream, events_of}
use Rattle.run_file.specs.BenchText.{parsed}
use Rattle.run_file.specs.Refusals.{bench_of, most_text}
use Rattle.run_file.specs.declared.fault.BenchWhy.{BenchWhy}
use Rattle.etm_types.specs.declared.item.Item.{Item}
use Rattle.path_text.specs.Lines.{decimal, hex}
use Rattle.path_text.specs.PathLines.{lines_of}
use Rattle.program_image.specs.declared.image.Image.{Image}
use Rattle.run_file.specs.declared.fault.BenchWhy.TheVariants as why
use Rattle.spec_run.specs.RetiredItems.{retired_of}
use Rattle.spec_run.specs.RunAfter.{run_after}
use Rattle.spec_run.specs.Runs.{Execution}
use Rattle.spec_run.specs.declared.run_fault.RunFault.{RunFault}
use Rattle.spec_run.specs.declared.run_fault.RunFault.TheVariants as fault
use Rattle.answer_lines.specs.declared.status.Status.{Status}
use Rattle.answer_lines.specs.declared.status.Status.TheVariants as status
use Rattle.trace_io.specs.Bytes.{AppendsAll, AppendsFront, TakesAll}
use Rattle.trace_io.specs.Causes.{Rose}
use Rattle.trace_io.specs.State.{IoState}
use Rattle.trace_io.specs.declared.traits.Failed.{Failed}
use Rattle.answer_lines.specs.BenchLine.{bench_line}
use Rattle.answer_lines.specs.Prints.{Prints, PrintsFront}

-- ---- the retired paths

abbrev pub items_after : Result Execution (ℕ × RunFault) → List Item
items_after (Ok x) = retired_of x
items_after (Err refused) = []

-- the lines of a stream's retired path, where its events are accepted
abbrev pub stream_text : Image → BenchStream → List ℕ
stream_text image s = lines_of s.id None (items_after (run_after image s.settings.depth (events_of s.lines)))

-- those of all streams, in the order of their declaration
abbrev pub streams_text : Image → List BenchStream → List ℕ
streams_text image [] = []
streams_text image (s ∷ streams) = stream_text image s ++ streams_text image streams

abbrev pub retired_text : Image → BenchParts → List ℕ
retired_text image b = streams_text image b.streams

-- ---- what is read of a run file, and printed

-- a run file was read to its end, all of whose events are accepted over the image, and this is the text of its retired paths
pub record IsRetiredText (image : Image) (input input' : IoState) (text : List ℕ) : Type 0 where
  pub run_file : List ℕ
  pub read : TakesAll input input' run_file
  pub bench : BenchParts
  pub accepted : bench_of image run_file ≡ Ok bench
  pub printed : text ≡ retired_text image bench

-- a run file, read to its end or past the most that is read, has this fault first over the image
pub record IsBadBench (image : Image) (input input' : IoState) (line : ℕ) (reason : BenchWhy) (text : List ℕ) : Type 0 where
  pub run_file : List ℕ
  pub read : Consumes input.bytes input'.bytes run_file
  pub ended : IsAtEnd input'.bytes ⊎ (most_text < length run_file)
  pub refused : bench_of image run_file ≡ Err (line, reason)
  pub printed : text ≡ bench_line line reason

-- how a run file is answered: a text of this kind is printed, or why it is bad, or nothing where it can't be read, or memory is wanting; where
-- a write failed, a front of that
abbrev pub RunsSo : (List ℕ → Type 0) → Image → IoState → IoState → IoState → IoState → Result Status Failed → Type 0
RunsSo kind image input input' out out' (Ok status.Done) = Prints kind out out'
RunsSo kind image input input' out out' (Ok (status.BenchBad line reason)) = Prints (IsBadBench image input input' line reason) out out'
RunsSo kind image input input' out out' (Ok status.ReadFault) = Rose input input' × AppendsAll out out' []
RunsSo kind image input input' out out' (Ok status.NoMemory) = AppendsAll out out' []
RunsSo kind image input input' out out' (Ok status) = ⊥
RunsSo kind image input input' out out' (Err failed) =
    PrintsFront kind out out' ⊎ ((line : ℕ) × (reason : BenchWhy) × PrintsFront (IsBadBench image input input' line reason) out out')

-- by its retired paths
abbrev pub RetiresSo : Image → IoState → IoState → IoState → IoState → Result Status Failed → Type 0
RetiresSo image input input' = RunsSo (IsRetiredText image input input') image input input'

-- all of a run file was read, and its lines have no fault of their own
abbrev pub TakesBench : IoState → IoState → BenchParts → Type 0
TakesBench input input' b = (text : List ℕ) × TakesAll input input' text × (length text ≤ most_text) × (parsed text ≡ Ok b)

-- a line of it has this fault, whatever the image
abbrev pub TakesNoBench : IoState → IoState → ℕ → BenchWhy → Type 0
TakesNoBench input input' line reason =
    (text : List ℕ) × Consumes input.bytes input'.bytes text × (IsAtEnd input'.bytes ⊎ (most_text < length text))
    × ((image : Image) → bench_of image text ≡ Err (line, reason))
