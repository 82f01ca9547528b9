-- The first line of a run file whose event is refused, and the first fault of a text over an image.
use Rattle.std.specs.Prelude.{ℕ, ◌-◌, nat_lt, List, [], ◌∷◌, length, Option, Some, None, Result, Ok, Err, if◌then◌else◌}
use Rattle.program_image.specs.declared.image.Image.{Image}
use Rattle.spec_run.specs.RunAfter.{run_after}
use Rattle.spec_run.specs.Runs.{Execution}
use Rattle.spec_run.specs.declared.run_fault.RunFault.{RunFault}
use Rattle.run_file.specs.BenchText.{parsed}
use Rattle.run_file.specs.Parts.{BenchParts, BenchStream, events_of}
use Rattle.run_file.specs.declared.fault.BenchWhy.{BenchWhy}
use Rattle.run_file.specs.declared.fault.BenchWhy.TheVariants.{TooLong, Run}
use Rattle.run_file.specs.declared.line.BenchLine.{BenchLine}

-- the number of the line whose event comes behind so many others, where repeated lines are written out
abbrev pub line_of : ℕ → List BenchLine → ℕ
line_of k [] = 0
line_of k (l ∷ lines) = if nat_lt k l.times then l.line else line_of (k - l.times) lines

abbrev pub refused_line : List BenchLine → Result Execution (ℕ × RunFault) → Option (ℕ × BenchWhy)
refused_line lines (Ok x) = None
refused_line lines (Err refused) = Some (line_of refused.0 lines, Run refused.1)

abbrev pub stream_refusal : Image → BenchStream → Option (ℕ × BenchWhy)
stream_refusal image s = refused_line s.lines (run_after image s.settings.depth (events_of s.lines))

abbrev pub first_of : Option (ℕ × BenchWhy) → Option (ℕ × BenchWhy) → Option (ℕ × BenchWhy)
first_of None other = other
first_of (Some fault) other = Some fault

-- the first refusal of the streams, which stand one behind the other
abbrev pub refusal_among : Image → List BenchStream → Option (ℕ × BenchWhy)
refusal_among image [] = None
refusal_among image (s ∷ streams) = first_of (stream_refusal image s) (refusal_among image streams)

-- 64 MiB
abbrev pub most_text : ℕ
most_text = 67108864

abbrev pub unless : Option (ℕ × BenchWhy) → BenchParts → Result BenchParts (ℕ × BenchWhy)
unless None b = Ok b
unless (Some fault) b = Err fault

abbrev pub unless_refused : Image → Result BenchParts (ℕ × BenchWhy) → Result BenchParts (ℕ × BenchWhy)
unless_refused image (Err fault) = Err fault
unless_refused image (Ok b) = unless (refusal_among image b.streams) b

-- The parts of a run file over an image, whose events are all accepted; or the first fault: the text is too long, or a line of it has a
-- fault of its own, or an event is refused.
abbrev pub bench_of : Image → List ℕ → Result BenchParts (ℕ × BenchWhy)
bench_of image text = if nat_lt most_text (length text) then Err (0, TooLong) else unless_refused image (parsed text)
