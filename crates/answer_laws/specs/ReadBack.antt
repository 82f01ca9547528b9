-- A call of `trace`, and one of `path` over what it appended.
use Rattle.std.specs.Prelude.{◌≡◌, ℕ, ◌≤◌, List, ◌++◌, length, Option, Some, None, Ok}
use Rattle.command_words.specs.declared.words.ProgramForm.{ProgramForm}
use Rattle.etm_types.specs.Settings.{Sizes}
use Rattle.run_file.specs.Parts.{BenchParts}
use Rattle.run_file.specs.Refusals.{bench_of}
use Rattle.capture_streams.specs.Texts.{Printed, text_of}
use Rattle.command_words.specs.Words.{Path, Program, Trace, meaning}
use Rattle.program_image.specs.declared.image.Image.{Image}
use Rattle.trace_cmd.specs.Answers.{Answers, Call}
use Rattle.trace_cmd.specs.Programs.{IsSpelled}
use Rattle.answer_laws.specs.Complete.{IsDone, NothingFailed}
use Rattle.input_pieces.specs.Listed.{most_input}
use Rattle.traced_runs.specs.Traced.{ShowsTraces, Suits}
use Rattle.answer_lines.specs.declared.status.Status.{Status}
use Rattle.answer_lines.specs.declared.status.Status.TheVariants as status
use Rattle.answer_laws.specs.TracedCalls.{written_under}
use Rattle.trace_io.specs.Bytes.{AppendsAll}
use Rattle.trace_io.specs.State.{IoState}

-- `trace`, asked for all frames, with synchronisation packets among them or without, answered Done over a program's file and a run file of
-- these bytes, and appended these bytes
pub record Traces (t : Call) (old new : IoState) (program file written : List ℕ) : Type 0 where
  pub of : Program
  pub every : Option ℕ
  pub words : meaning t.words ≡ Some (Trace of None every)
  pub image_bytes : t.image.bytes ≡ Some program
  pub run_file : t.input.bytes ≡ Some file
  pub answered : Answers t old new status.Done
  pub before : List ℕ
  pub shown : old.bytes ≡ Some before
  pub appended : new.bytes ≡ Some (before ++ written)

-- `path` is asked for the paths in what was written, over the same bytes of a program's file of the same form, by words that give each stream of
-- the run file its sizes, and tell of synchronisation packets where such were written; it is not too much, and no call failed
pub record AsksBack (p : Call) (old new : IoState) (program written : List ℕ) (form : ProgramForm) (every : Option ℕ) (b : BenchParts) : Type 0 where
  pub table : List Sizes
  pub suits : Suits b table
  pub of : Program
  pub same_form : of.form ≡ form
  pub words : meaning p.words ≡ Some (Path of (written_under every table))
  pub image_bytes : p.image.bytes ≡ Some program
  pub input : p.input.bytes ≡ Some written
  pub few : length written ≤ most_input
  pub nothing : NothingFailed p old new

-- it answers Done or NoMemory, and with Done it appended the retired path and the end of each stream, and nothing else
pub record ReadsBack (image : Image) (b : BenchParts) (old new : IoState) (answer : Status) : Type 0 where
  pub done : IsDone answer
  pub printed : answer ≡ status.Done → (lines : List Printed) × ShowsTraces image b lines × AppendsAll old new (text_of lines)

-- Image and run file are good where `trace` answered Done.
abbrev pub PathReadsBack : Type 0
PathReadsBack =
    (t : Call) (old new : IoState) (program file written : List ℕ) (traces : Traces t old new program file written)
    → (image : Image) × (b : BenchParts) × IsSpelled traces.of program image × (bench_of image file ≡ Ok b)
    × ((p : Call) (out out' : IoState) (answer : Status) → AsksBack p out out' program written traces.of.form traces.every b
    → Answers p out out' answer → ReadsBack image b out out' answer)
