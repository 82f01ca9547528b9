-- The program that the words name: its image is read whole, before the input.
use Rattle.std.specs.Prelude.{◌≡◌, ◌⊎◌, ℕ, ◌+◌, ◌<◌, List, length, Option, Some, Ok, Err}
use Rattle.std.specs.Io.KnownBytes.{Consumes, IsAtEnd}
use Rattle.std.specs.Option.{option_and_then, option_map_or}
use Rattle.answer_lines.specs.ElfLine.{elf_line}
use Rattle.answer_lines.specs.ImageLine.{image_line}
use Rattle.command_words.specs.Words.{Program, meaning, program_of}
use Rattle.command_words.specs.declared.words.ProgramForm.{ProgramForm}
use Rattle.command_words.specs.declared.words.ProgramForm.TheVariants as form
use Rattle.elf_image.specs.ElfText.{elf_text}
use Rattle.elf_image.specs.Refusals.{most_file}
use Rattle.elf_image.specs.declared.fault.ElfWhy.{ElfWhy}
use Rattle.program_image.specs.ImageText.{image_of, most_text}
use Rattle.program_image.specs.declared.fault.ImageWhy.{ImageWhy}
use Rattle.program_image.specs.declared.image.Image.{Image}
use Rattle.trace_io.specs.Bytes.{TakesAll}
use Rattle.trace_io.specs.State.{IoState}

-- ---- what bytes say of it

-- the bytes spell this image, as its text, or as an ELF file whose code is told as such a text
abbrev pub Spells : ProgramForm → List ℕ → Image → Type 0
Spells form.Text bytes image = image_of bytes ≡ Ok image
Spells form.Elf bytes image = (text : List ℕ) × (elf_text bytes ≡ Ok text) × (image_of text ≡ Ok image)

abbrev pub IsSpelled : Program → List ℕ → Image → Type 0
IsSpelled p bytes image = Spells p.form bytes image

-- why they spell none
pub data NoProgram : Type 0 where
  -- a text has a fault, this one first, at this line
  BadText : ℕ → ImageWhy → NoProgram
  -- an ELF file has a refusal, this one first
  BadFile : ElfWhy → NoProgram

abbrev pub Refuses : ProgramForm → List ℕ → NoProgram → Type 0
Refuses form.Text bytes (BadText line why) = image_of bytes ≡ Err (line, why)
Refuses form.Text bytes (BadFile why) = ⊥
Refuses form.Elf bytes (BadText line why) = ⊥
Refuses form.Elf bytes (BadFile why) = elf_text bytes ≡ Err why

abbrev pub IsRefused : Program → List ℕ → NoProgram → Type 0
IsRefused p bytes refusal = Refuses p.form bytes refusal

-- the line that says so
abbrev pub line_of : NoProgram → List ℕ
line_of (BadText line why) = image_line line why
line_of (BadFile why) = elf_line why

-- the most bytes that it may have
abbrev pub most_by : ProgramForm → ℕ
most_by form.Text = most_text
most_by form.Elf = most_file

abbrev pub most_of : Program → ℕ
most_of p = most_by p.form

-- ---- what is read of it

-- it was read to its end, and its bytes spell this image
abbrev pub TakesProgram : Program → IoState → IoState → Image → Type 0
TakesProgram p old new image = (bytes : List ℕ) × TakesAll old new bytes × IsSpelled p bytes image

-- it is refused for this, read to its end or past the most that it may have
abbrev pub TakesNoProgram : Program → IoState → IoState → NoProgram → Type 0
TakesNoProgram p old new refusal =
    (bytes : List ℕ) × Consumes old.bytes new.bytes bytes × IsRefused p bytes refusal × (IsAtEnd new.bytes ⊎ (most_of p < length bytes))

-- ---- whether there is one

-- the program that the words name, where they name one
abbrev pub program_named : List (List ℕ) → Option Program
program_named words = option_and_then program_of (meaning words)

abbrev pub HasProgram : Program → List (List ℕ) → Type 0
HasProgram p words = program_named words ≡ Some p

-- the most bytes that are taken of it: those that tell that it has too many, and of no program none
abbrev pub most_taken : List (List ℕ) → ℕ
most_taken words = option_map_or (λ p. most_of p + 1) (program_named words) 0
