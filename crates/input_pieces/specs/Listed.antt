-- What is answered of an input that is taken by pieces, and what was printed then, for any listing and layout.
use Rattle.std.specs.Prelude.{◌≡◌, ◌⊎◌, ℕ, ◌+◌, ◌-◌, ◌^◌, ◌≤◌, Bool, true, false, List, [], ◌∷◌, ◌++◌, length, take, Result, Ok, Err}
use Rattle.std.specs.Io.KnownBytes.{Consumes, IsAtEnd}
use Rattle.capture_streams.specs.Laid.{Laid}
use Rattle.capture_streams.specs.Texts.{BodyFrom, IsSum, IsText, Listing, Printed, text_of}
use Rattle.path_elements.specs.PathLaws.{BeginsWith}
use Rattle.answer_lines.specs.declared.status.Status.{Status}
use Rattle.answer_lines.specs.declared.status.Status.TheVariants as status
use Rattle.trace_io.specs.Bytes.{AppendsAll, TakesAll}
use Rattle.trace_io.specs.Causes.{Rose}
use Rattle.trace_io.specs.State.{IoState}
use Rattle.trace_io.specs.declared.traits.Failed.{Failed}

-- the most bytes of input
abbrev pub most_input : ℕ
most_input = 2 ^ 30

-- the most bytes that are taken at a time
abbrev pub most_at_once : ℕ
most_at_once = 4096

-- these bytes were taken
abbrev pub Takes : IoState → IoState → List ℕ → Type 0
Takes input input' bytes = Consumes input.bytes input'.bytes bytes

-- the lines that come with the bytes were printed
abbrev pub PrintsBody : (List ℕ → List (ℕ × ℕ)) → Listing → List ℕ → IoState → IoState → Type 0
PrintsBody carried g bytes out out' = (lines : List Printed) × BodyFrom g [] (carried bytes) lines × AppendsAll out out' (text_of lines)

-- what is printed of bytes behind which no more is taken, though more may come: the lines that come with them, and those of their sum
abbrev pub IsTaken : (List ℕ → List (ℕ × ℕ)) → Listing → List ℕ → List Printed → Type 0
IsTaken carried g bytes lines =
    (body : List Printed) × (sums : List Printed) × BodyFrom g [] (carried bytes) body × IsSum g (carried bytes) sums × (lines ≡ body ++ sums)

abbrev pub PrintsTaken : (List ℕ → List (ℕ × ℕ)) → Listing → List ℕ → IoState → IoState → Type 0
PrintsTaken carried g bytes out out' = (lines : List Printed) × IsTaken carried g bytes lines × AppendsAll out out' (text_of lines)

module _ (laid : Laid) (g : Listing) where
  -- The input was read to its end, and all that it shows was printed.
  pub record Completes (input input' out out' : IoState) (faulty : Bool) : Type 0 where
    pub bytes : List ℕ
    pub read : TakesAll input input' bytes
    pub few : length bytes ≤ most_input
    pub lines : List Printed
    pub shown : IsText g (laid.whole bytes) (laid.left bytes) lines faulty
    pub printed : AppendsAll out out' (text_of lines)

  -- A read failed behind some bytes, whose lines were printed, and those of their sum.
  pub record Breaks (input input' out out' : IoState) : Type 0 where
    pub bytes : List ℕ
    pub took : Takes input input' bytes
    pub few : length bytes ≤ most_input
    pub printed : PrintsTaken laid.carried g bytes out out'
    pub rose : Rose input input'

  -- One byte more than the most was taken, and the lines of the others were printed, and those of their sum.
  pub record Exceeds (input input' out out' : IoState) : Type 0 where
    pub bytes : List ℕ
    pub byte : ℕ
    pub took : Takes input input' (bytes ++ byte ∷ [])
    pub many : length bytes ≡ most_input
    pub printed : PrintsTaken laid.carried g bytes out out'

  -- no more than the lines that come with the first of these pairs
  abbrev pub SomeOf : List (ℕ × ℕ) → List ℕ → Type 0
  SomeOf all shown =
      (pairs : List (ℕ × ℕ)) × (lines : List Printed) × BeginsWith pairs all × BodyFrom g [] pairs lines × BeginsWith shown (text_of lines)

  -- or than these and the lines of the sum of all of them
  abbrev pub FrontOfTaken : List ℕ → List ℕ → Type 0
  FrontOfTaken bytes shown = (lines : List Printed) × IsTaken laid.carried g bytes lines × BeginsWith shown (text_of lines)

  -- or than the whole text
  abbrev pub FrontOf : List ℕ → List ℕ → Type 0
  FrontOf bytes shown =
      (lines : List Printed) × (faulty : Bool) × IsText g (laid.whole bytes) (laid.left bytes) lines faulty × BeginsWith shown (text_of lines)

  -- no more was taken behind these bytes, since there were too many, or a read failed
  abbrev pub HasStopped : IoState → IoState → List ℕ → Type 0
  HasStopped input input' bytes = (length bytes ≡ most_input + 1) ⊎ Rose input input'

  -- What is printed where a write fails: no more than the lines that come with some of the pairs; or than the whole text of an input that
  -- was read to its end and is not too long; or, where reading stopped before, than the lines of all bytes and those of their sum. And no
  -- less than the lines that come with all bytes but the last 4096.
  pub record Interrupts (input input' out out' : IoState) : Type 0 where
    pub bytes : List ℕ
    pub took : Takes input input' bytes
    pub few : length bytes ≤ most_input + 1
    pub shown : List ℕ
    pub printed : AppendsAll out out' shown
    pub late : SomeOf (laid.carried (take most_input bytes)) shown
        ⊎ (IsAtEnd input'.bytes × (length bytes ≤ most_input) × (SomeOf (laid.whole bytes) shown ⊎ FrontOf bytes shown))
        ⊎ (HasStopped input input' bytes × FrontOfTaken (take most_input bytes) shown)
    pub early : (lines : List Printed) × BodyFrom g [] (laid.carried (take (length bytes - most_at_once) bytes)) lines
        × BeginsWith (text_of lines) shown

  -- the answer that the input decides, and what was printed with it
  abbrev pub Answered : IoState → IoState → IoState → IoState → Status → Type 0
  Answered input input' out out' status.Done = Completes input input' out out' false
  Answered input input' out out' status.Faulted = Completes input input' out out' true
  Answered input input' out out' status.ReadFault = Breaks input input' out out'
  Answered input input' out out' status.InputTooLong = Exceeds input input' out out'
  Answered input input' out out' status = ⊥

  -- the same, or, where a write failed, what is left of it
  abbrev pub Listed : IoState → IoState → IoState → IoState → Result Status Failed → Type 0
  Listed input input' out out' (Ok status) = Answered input input' out out' status
  Listed input input' out out' (Err failed) = Interrupts input input' out out'
