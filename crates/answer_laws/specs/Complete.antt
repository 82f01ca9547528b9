-- What is answered where image and input are good, and no call failed.
use Rattle.std.specs.Prelude.{◌≡◌, ◌⊎◌, ℕ, ◌≤◌, List, length, Option, Some, Ok}
use Rattle.program_image.specs.declared.image.Image.{Image}
use Rattle.run_file.specs.Parts.{BenchParts}
use Rattle.run_file.specs.Refusals.{bench_of}
use Rattle.trace_cmd.specs.Answers.{Answers, Call, HasImage, IsBareCall, IsPathCall, IsRunFileCall, IsSelftestOf}
use Rattle.input_pieces.specs.Listed.{most_input}
use Rattle.traced_runs.specs.Selftest.{AreGood}
use Rattle.traced_runs.specs.Traced.{trace_frames}
use Rattle.answer_lines.specs.declared.status.Status.{Status}
use Rattle.answer_lines.specs.declared.status.Status.TheVariants as status
use Rattle.trace_io.specs.Causes.{Rose}
use Rattle.trace_io.specs.State.{IoState}

-- no count of faults rose, and none stands at its last value
pub record NothingFailed (c : Call) (old new : IoState) : Type 0 where
  pub image : Rose c.image c.image' → ⊥
  pub input : Rose c.input c.input' → ⊥
  pub out : Rose old new → ⊥

-- the input is a run file without a bad line
pub record HasRunFile (c : Call) (image : Image) (b : BenchParts) : Type 0 where
  pub file : List ℕ
  pub shows : c.input.bytes ≡ Some file
  pub accepted : bench_of image file ≡ Ok b

-- the input is no longer than what is read
pub record HasInput (c : Call) : Type 0 where
  pub bytes : List ℕ
  pub shows : c.input.bytes ≡ Some bytes
  pub few : length bytes ≤ most_input

abbrev pub IsDone : Status → Type 0
IsDone answer = (answer ≡ status.Done) ⊎ (answer ≡ status.NoMemory)

abbrev pub IsDoneOrFaulted : Status → Type 0
IsDoneOrFaulted answer = (answer ≡ status.Done) ⊎ (answer ≡ status.Faulted) ⊎ (answer ≡ status.NoMemory)

-- a run file's retired paths are printed, or the frames of its traces written
abbrev pub RunFilesAreDone : Type 0
RunFilesAreDone =
    (c : Call) (old new : IoState) (answer : Status) (image : Image) (b : BenchParts) → IsRunFileCall c.words → HasImage c image
    → HasRunFile c image b → NothingFailed c old new → Answers c old new answer → IsDone answer

-- a number has its summary
abbrev pub NumbersAreDone : Type 0
NumbersAreDone =
    (c : Call) (old new : IoState) (answer : Status) (n : ℕ) (cut : Option ℕ) (image : Image) (b : BenchParts) → IsSelftestOf n cut c.words
    → AreGood n image b → length (trace_frames image b) ≤ most_input → NothingFailed c old new → Answers c old new answer → IsDone answer

-- paths are printed to their ends
abbrev pub PathsAreDone : Type 0
PathsAreDone =
    (c : Call) (old new : IoState) (answer : Status) (image : Image) → IsPathCall c.words → HasImage c image → HasInput c
    → NothingFailed c old new → Answers c old new answer → IsDoneOrFaulted answer

-- and so are packets and times, whatever the image
abbrev pub PacketsAreDone : Type 0
PacketsAreDone =
    (c : Call) (old new : IoState) (answer : Status) → IsBareCall c.words → HasInput c → NothingFailed c old new → Answers c old new answer
    → IsDoneOrFaulted answer

-- both show these bytes
abbrev pub ShowAlike : IoState → IoState → List ℕ → Type 0
ShowAlike one other bytes = (one.bytes ≡ Some bytes) × (other.bytes ≡ Some bytes)

-- The words, the input, and the image where one is read alone decide whether there is a fault: two such calls do not differ in that.
pub record AreAlike (c d : Call) : Type 0 where
  pub words : c.words ≡ d.words
  pub images : IsBareCall c.words ⊎ ((bytes : List ℕ) × ShowAlike c.image d.image bytes)
  pub input_bytes : List ℕ
  pub inputs : ShowAlike c.input d.input input_bytes

abbrev pub FaultsAreDecided : Type 0
FaultsAreDecided =
    (c d : Call) (old new old' new' : IoState) → AreAlike c d → Answers c old new status.Done → Answers d old' new' status.Faulted → ⊥
