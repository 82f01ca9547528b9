-- What each answer of a call means, and the text that comes with it.
use Rattle.std.specs.Prelude.{◌≡◌, ◌⊎◌, ℕ, ◌+◌, true, false, List, [], Option, Some, None, Result, Ok, Err, IsErr}
use Rattle.trace_io.specs.State.{IoState}
use Rattle.trace_io.specs.Bytes.{AppendsAll, TakesAtMost}
use Rattle.trace_io.specs.Calls.{Lasts}
use Rattle.trace_io.specs.Causes.{KeepsFaults, Rose}
use Rattle.program_image.specs.declared.image.Image.{Image}
use Rattle.program_image.specs.declared.fault.ImageWhy.{ImageWhy}
use Rattle.elf_image.specs.declared.fault.ElfWhy.{ElfWhy}
use Rattle.answer_lines.specs.declared.status.Status.{Status}
use Rattle.answer_lines.specs.declared.status.Status.TheVariants as status
use Rattle.retired_paths.specs.Retired.{IsBadBench, IsRetiredText}
use Rattle.answer_lines.specs.Prints.{Prints, PrintsFront}
use Rattle.answer_lines.specs.UsageLine.{usage_line}
use Rattle.traced_runs.specs.Selftest.{HasBadBench, HasBadImage, IsSummary, IsTooLong}
use Rattle.traced_runs.specs.Traced.{AreWritten}
use Rattle.command_words.specs.Words.{Command, Counts, Intake, Kind, Program, Path, Packets, Retired, Selftest, Times, Trace}
use Rattle.command_words.specs.Words.{BareKind, NumberKind, PathKind, RunFileKind, kind_of, meaning}
use Rattle.input_pieces.specs.Listed.{Breaks, Completes, Exceeds, Interrupts}
use Rattle.run_file.specs.declared.fault.BenchWhy.{BenchWhy}
use Rattle.trace_cmd.specs.Printing.{What, CountsOf, PathsOf, PacketsOf, TimesOf, laid_of, listing_of}
use Rattle.trace_cmd.specs.Programs.{BadFile, BadText, HasProgram, IsSpelled, NoProgram, TakesNoProgram, TakesProgram, line_of, most_of}
use Rattle.trace_io.specs.declared.traits.Failed.{Failed}

-- ---- a call

-- the words that a call was given, and what image and input showed before and after it
pub record Call : Type 0 where
  pub words : List (List ℕ)
  pub image : IoState
  pub image' : IoState
  pub input : IoState
  pub input' : IoState

abbrev pub call : List (List ℕ) → IoState → IoState → IoState → IoState → Call
call words image image' input input' = record { words = words; image = image; image' = image'; input = input; input' = input' }

-- ---- what the words ask for

-- the path, the counts of paths, the packets, and the times of the P0 elements, of an input that is taken so
abbrev pub IsPathUnder : Intake → List (List ℕ) → Type 0
IsPathUnder r words = (p : Program) × (meaning words ≡ Some (Path p r))

abbrev pub IsCountsUnder : Intake → List (List ℕ) → Type 0
IsCountsUnder r words = (p : Program) × (meaning words ≡ Some (Counts p r))

abbrev pub IsPacketsUnder : Intake → List (List ℕ) → Type 0
IsPacketsUnder r words = meaning words ≡ Some (Packets r)

abbrev pub IsTimesUnder : Intake → List (List ℕ) → Type 0
IsTimesUnder r words = meaning words ≡ Some (Times r)

-- the retired paths of a run file
abbrev pub IsRetiredCall : List (List ℕ) → Type 0
IsRetiredCall words = (p : Program) × (meaning words ≡ Some (Retired p))

-- its traces, all their frames, or so many of the last; and synchronisation packets among these, each behind so many, or none
abbrev pub IsTraceOf : Option ℕ → Option ℕ → List (List ℕ) → Type 0
IsTraceOf last every words = (p : Program) × (meaning words ≡ Some (Trace p last every))

-- both ends tried on the run file of a number, and how many bytes of its frames are read
abbrev pub IsSelftestOf : ℕ → Option ℕ → List (List ℕ) → Type 0
IsSelftestOf n cut words = meaning words ≡ Some (Selftest n cut)

-- a command of this kind
abbrev pub IsOfKind : Kind → List (List ℕ) → Type 0
IsOfKind kind words = kind_of (meaning words) ≡ kind

-- one that reads an input over an image, or without an image
abbrev pub IsPathCall : List (List ℕ) → Type 0
IsPathCall words = IsOfKind PathKind words

abbrev pub IsBareCall : List (List ℕ) → Type 0
IsBareCall words = IsOfKind BareKind words

-- one that reads a run file over an image
abbrev pub IsRunFileCall : List (List ℕ) → Type 0
IsRunFileCall words = IsOfKind RunFileKind words

-- one that reads nothing
abbrev pub IsSelftestCall : List (List ℕ) → Type 0
IsSelftestCall words = IsOfKind NumberKind words

-- one that reads an image
abbrev pub IsImageCall : List (List ℕ) → Type 0
IsImageCall words = (p : Program) × HasProgram p words

abbrev pub IsCall : List (List ℕ) → Type 0
IsCall words = (command : Command) × (meaning words ≡ Some command)

-- ---- what was read

-- the image shows bytes that spell this one
pub record HasImage (c : Call) (image : Image) : Type 0 where
  pub program : Program
  pub named : HasProgram program c.words
  pub bytes : List ℕ
  pub shows : c.image.bytes ≡ Some bytes
  pub spells : IsSpelled program bytes image

-- the image was read to its end, as that of the program that the words name, and it is this one
abbrev pub HasRead : Call → Image → Type 0
HasRead c image = (p : Program) × HasProgram p c.words × TakesProgram p c.image c.image' image

abbrev pub ReadsImage : Call → Type 0
ReadsImage c = (image : Image) × HasRead c image

-- what a command reads before the input: its image, and without one nothing
abbrev pub ReadsFirst : Call → Type 0
ReadsFirst c = ReadsImage c ⊎ IsBareCall c.words

-- no read of image or input failed
abbrev pub NoReadFailed : Call → Type 0
NoReadFailed c = KeepsFaults c.image c.image' × KeepsFaults c.input c.input'

-- ---- its answers

-- Usage: the words mean nothing
pub record IsUsage (c : Call) (text : List ℕ) : Type 0 where
  pub meaningless : meaning c.words ≡ None
  pub printed : text ≡ usage_line

-- ImageBad and ElfBad: the image, read to its end or past the most that is read, spells none, for this first
pub record IsProgramBad (c : Call) (refusal : NoProgram) (text : List ℕ) : Type 0 where
  pub program : Program
  pub named : HasProgram program c.words
  pub refused : TakesNoProgram program c.image c.image' refusal
  pub printed : text ≡ line_of refusal

-- what the words ask to print of the input: for paths and their counts, over the image that was read to its end
abbrev pub Asks : Call → What → Type 0
Asks c (PathsOf image r) = IsPathUnder r c.words × HasRead c image
Asks c (CountsOf image r) = IsCountsUnder r c.words × HasRead c image
Asks c (PacketsOf r) = IsPacketsUnder r c.words
Asks c (TimesOf r) = IsTimesUnder r c.words

-- ReadFault by the image: nothing of the input was taken, and nothing printed
pub record IsImageFault (c : Call) (out out' : IoState) : Type 0 where
  pub command : IsImageCall c.words
  pub rose : Rose c.image c.image'
  pub untouched : c.input' ≡ c.input
  pub printed : AppendsAll out out' []

-- NoMemory, by a command, or while the words were read, before image and input were touched: nothing was printed, and of paths, counts,
-- packets and times nothing of the input taken. Of a run file, for its retired paths or its traces, some of the input may be.
pub record IsNoMemory (c : Call) (out out' : IoState) : Type 0 where
  pub command : IsCall c.words ⊎ ((c.image' ≡ c.image) × (c.input' ≡ c.input))
  pub untouched : (c.input' ≡ c.input) ⊎ IsRunFileCall c.words
  pub printed : AppendsAll out out' []

-- ---- answers of a run file

-- the words ask for this, and that is so over the image, which was read to its end
abbrev pub OverImage : (List (List ℕ) → Type 0) → Call → (Image → Type 0) → Type 0
OverImage Asked c Way = Asked c.words × ((image : Image) × HasRead c image × Way image)

-- the retired paths of a run file
abbrev pub IsRetired : Call → List ℕ → Type 0
IsRetired c text = OverImage IsRetiredCall c (λ image. IsRetiredText image c.input c.input' text)

-- the frames of its traces, or the last of them that the words ask for, and synchronisation packets among these where they do
abbrev pub IsTraced : Call → List ℕ → Type 0
IsTraced c bytes =
    (last : Option ℕ) × (every : Option ℕ) × OverImage (IsTraceOf last every) c (λ image. AreWritten image last every c.input c.input' bytes)

-- BenchBad, of retired paths or of traces: the run file has this fault first
abbrev pub IsBenchBad : Call → ℕ → BenchWhy → List ℕ → Type 0
IsBenchBad c line why text = OverImage IsRunFileCall c (λ image. IsBadBench image c.input c.input' line why text)

-- ReadFault by the run file, of retired paths or of traces: nothing was printed
abbrev pub IsBenchFault : Call → IoState → IoState → Type 0
IsBenchFault c out out' = OverImage IsRunFileCall c (λ image. Rose c.input c.input' × AppendsAll out out' [])

-- ---- answers of a number

-- the words ask for it, and that is so of it
abbrev pub OfNumber : Call → (ℕ → Option ℕ → Type 0) → Type 0
OfNumber c Way = (n : ℕ) × (cut : Option ℕ) × IsSelftestOf n cut c.words × Way n cut

-- the summary of a number
abbrev pub IsTested : Call → List ℕ → Type 0
IsTested c text = OfNumber c (λ n cut. IsSummary n cut text)

-- ImageBad and BenchBad: the image that is made from the number, and its run file, has this fault first
abbrev pub IsOwnImageBad : Call → ℕ → ImageWhy → List ℕ → Type 0
IsOwnImageBad c line why text = OfNumber c (λ n cut. HasBadImage n line why text)

abbrev pub IsOwnBenchBad : Call → ℕ → BenchWhy → List ℕ → Type 0
IsOwnBenchBad c line why text = OfNumber c (λ n cut. HasBadBench n line why text)

-- InputTooLong: its frames are longer than what is read, and nothing was printed
abbrev pub IsOwnTooLong : Call → IoState → IoState → Type 0
IsOwnTooLong c out out' = OfNumber c (λ n cut. IsTooLong n) × AppendsAll out out' []

-- ---- all answers

-- what is asked for is printed of the input in this way
abbrev pub OfInput : Call → (What → Type 0) → Type 0
OfInput c Way = (what : What) × Asks c what × Way what

-- The texts that a call prints whole, or a front of where a write fails.
pub data Text : Type 0 where
  UsageText : Text
  ImageText : NoProgram → Text
  RetiredText : Text
  BenchText : ℕ → BenchWhy → Text
  TraceText : Text
  TestText : Text
  OwnImageText : ℕ → ImageWhy → Text
  OwnBenchText : ℕ → BenchWhy → Text

abbrev pub IsTextOf : Call → Text → List ℕ → Type 0
IsTextOf c UsageText text = IsUsage c text
IsTextOf c (ImageText refusal) text = IsProgramBad c refusal text
IsTextOf c RetiredText text = IsRetired c text
IsTextOf c (BenchText line why) text = IsBenchBad c line why text
IsTextOf c TraceText text = IsTraced c text
IsTextOf c TestText text = IsTested c text
IsTextOf c (OwnImageText line why) text = IsOwnImageBad c line why text
IsTextOf c (OwnBenchText line why) text = IsOwnBenchBad c line why text

-- WriteFault: the count of the output rose. A front of such a text was printed, or of what is asked for of the input; of another answer,
-- nothing.
abbrev pub IsWriteFault : Call → IoState → IoState → Type 0
IsWriteFault c old new =
    ((t : Text) × PrintsFront (IsTextOf c t) old new) ⊎ OfInput c (λ what. Interrupts (laid_of what) (listing_of what) c.input c.input' old new)
    ⊎ IsImageFault c old new ⊎ IsNoMemory c old new ⊎ IsBenchFault c old new ⊎ IsOwnTooLong c old new

-- What each answer means, by what the output showed before and after.
abbrev pub Answers : Call → IoState → IoState → Status → Type 0
Answers c old new status.Done =
    OfInput c (λ what. Completes (laid_of what) (listing_of what) c.input c.input' old new false)
    ⊎ Prints (IsTextOf c RetiredText) old new ⊎ Prints (IsTextOf c TraceText) old new ⊎ Prints (IsTextOf c TestText) old new
Answers c old new status.Faulted = OfInput c (λ what. Completes (laid_of what) (listing_of what) c.input c.input' old new true)
Answers c old new status.Usage = Prints (IsTextOf c UsageText) old new
Answers c old new (status.ImageBad line why) =
    Prints (IsTextOf c (ImageText (BadText line why))) old new ⊎ Prints (IsTextOf c (OwnImageText line why)) old new
Answers c old new (status.BenchBad line why) =
    Prints (IsTextOf c (BenchText line why)) old new ⊎ Prints (IsTextOf c (OwnBenchText line why)) old new
Answers c old new (status.ElfBad why) = Prints (IsTextOf c (ImageText (BadFile why))) old new
Answers c old new status.InputTooLong =
    OfInput c (λ what. Exceeds (laid_of what) (listing_of what) c.input c.input' old new) ⊎ IsOwnTooLong c old new
Answers c old new status.ReadFault =
    IsImageFault c old new ⊎ IsBenchFault c old new ⊎ OfInput c (λ what. Breaks (laid_of what) (listing_of what) c.input c.input' old new)
Answers c old new status.NoMemory = IsNoMemory c old new
Answers c old new status.WriteFault = Rose old new × IsWriteFault c old new

-- ---- the parts of the code

-- the answer before the flush: it stands, or a write failed
abbrev pub AnswersSo : Call → IoState → IoState → Result Status Failed → Type 0
AnswersSo c old new (Ok status) = Answers c old new status
AnswersSo c old new (Err failed) = Rose old new × IsWriteFault c old new

-- What the reading of a program's image tells: it is one, and nothing was printed, or the answer of each command that names the program.
pub record ReadsProgram (p : Program) (image image' : IoState) (Unprinted : Type 0) (out out' : IoState) (result : Result (Result Image Status) Failed)
    : Type 0 where
  pub good : (parts : Image) → result ≡ Ok (Ok parts) → TakesProgram p image image' parts × Unprinted
  pub answered : (s : Status) → result ≡ Ok (Err s) → (words : List (List ℕ)) (input : IoState) → HasProgram p words
      → Answers (call words image image' input input) out out' s
  pub failed : IsErr result → (words : List (List ℕ)) (input : IoState) → HasProgram p words
      → IsWriteFault (call words image image' input input) out out'
  pub taken : TakesAtMost image image' (most_of p + 1)
  pub kept : (result ≡ Ok (Err status.ReadFault)) ⊎ KeepsFaults image image'
  pub lasts : Lasts image image'

-- The image is read first, `most` bytes of it or fewer, and the input is touched only where it is good: `Untouched` says that the input is
-- as it was, and `Good` that the image is a good one.
pub record ImageFirst (most : ℕ) (Good Untouched : Type 0) (image image' input input' : IoState) (result : Result Status Failed) : Type 0 where
  pub image_few : TakesAtMost image image' most
  pub order : Untouched ⊎ Good
  pub image_failed : KeepsFaults image image' ⊎ Untouched
  pub image_first : (line : ℕ) (why : ImageWhy) → result ≡ Ok (status.ImageBad line why) → Untouched
  pub elf_first : (why : ElfWhy) → result ≡ Ok (status.ElfBad why) → Untouched
  pub image_lasts : Lasts image image'
  pub input_lasts : Lasts input input'

-- the same of a program's image
abbrev pub ProgramFirst : Program → Type 0 → IoState → IoState → IoState → IoState → Result Status Failed → Type 0
ProgramFirst p Untouched image image' = ImageFirst (most_of p + 1) ((parts : Image) × TakesProgram p image image' parts) Untouched image image'
