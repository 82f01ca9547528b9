-- How readers answer for what a text spells, and what a source gave them.
use Rattle.std.specs.Prelude.{◌≡◌, ◌⊎◌, ℕ, ◌<◌, List, length, Result, Ok, Err, ⊤}
use Rattle.std.specs.Io.KnownBytes.{Consumes, IsAtEnd}
use Rattle.trace_io.specs.State.{IoState}
use Rattle.trace_io.specs.Bytes.{TakesAll}
use Rattle.program_image.specs.Part.{Part}
use Rattle.program_image.specs.ImageText.{image_of, most_text}
use Rattle.program_image.specs.declared.fault.ImageFault.{ImageFault}
use Rattle.program_image.specs.declared.fault.ImageFault.TheVariants as image_fault
use Rattle.program_image.specs.declared.fault.ImageWhy.{ImageWhy}
use Rattle.program_image.specs.declared.fault.LineFault.{LineFault}
use Rattle.program_image.specs.declared.fault.LineFault.TheVariants as line_fault

-- the value that a line gives, as view shows it, or its fault; want of memory is free
abbrev pub Answers : {X Y : Type 0} → (X → Y) → Result X LineFault → Result Y ImageWhy → Type 0
Answers view (Ok x) given = given ≡ Ok (view x)
Answers view (Err (line_fault.Bad why)) given = given ≡ Err why
Answers view (Err line_fault.Memory) given = ⊤

-- the same of a text, with the line of the fault
abbrev pub AnswersText : {X Y : Type 0} → (X → Y) → Result X ImageFault → Result Y (ℕ × ImageWhy) → Type 0
AnswersText view (Ok x) given = given ≡ Ok (view x)
AnswersText view (Err (image_fault.Bad line why)) given = given ≡ Err (line, why)
AnswersText view (Err image_fault.ReadFault) given = ⊥
AnswersText view (Err image_fault.Memory) given = ⊤

-- all that was left was taken, and it spells the image
abbrev pub TakesImage : IoState → IoState → List Part → Type 0
TakesImage old new image = (text : List ℕ) × TakesAll old new text × (image_of text ≡ Ok image)

-- what was taken has this fault: all that was left, or more than is read
abbrev pub TakesNoImage : IoState → IoState → ℕ → ImageWhy → Type 0
TakesNoImage old new line why =
    (text : List ℕ) × Consumes old.bytes new.bytes text × (image_of text ≡ Err (line, why)) × (IsAtEnd new.bytes ⊎ (most_text < length text))
