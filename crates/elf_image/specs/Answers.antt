-- How calls answer for what a file spells, and what a source gave them.
use Rattle.std.specs.Prelude.{◌≡◌, ◌⊎◌, ℕ, ◌<◌, List, length, Option, Some, None, Result, Ok, Err, ⊤}
use Rattle.std.specs.Io.KnownBytes.{Consumes, IsAtEnd}
use Rattle.trace_io.specs.State.{IoState}
use Rattle.trace_io.specs.Bytes.{TakesAll}
use Rattle.program_image.specs.Part.{Part}
use Rattle.program_image.specs.ImageText.{image_of}
use Rattle.elf_image.specs.ElfText.{elf_text}
use Rattle.elf_image.specs.Refusals.{most_file}
use Rattle.elf_image.specs.declared.fault.ElfFault.{ElfFault}
use Rattle.elf_image.specs.declared.fault.ElfFault.TheVariants as elf_fault
use Rattle.elf_image.specs.declared.fault.ElfWhy.{ElfWhy}

-- what a test finds: no refusal, or this one; want of memory is free
abbrev pub Finds : {X : Type 0} → Result X ElfFault → Option ElfWhy → Type 0
Finds (Ok x) refusal = refusal ≡ None
Finds (Err (elf_fault.Bad why)) refusal = refusal ≡ Some why
Finds (Err elf_fault.Memory) refusal = ⊤

-- the file spells a text, and the text this image
abbrev pub SpellsImage : List ℕ → List Part → Type 0
SpellsImage file image = (text : List ℕ) × (elf_text file ≡ Ok text) × (image_of text ≡ Ok image)

-- all that was left was taken, and it spells the image
abbrev pub TakesElf : IoState → IoState → List Part → Type 0
TakesElf old new image = (file : List ℕ) × TakesAll old new file × SpellsImage file image

-- what was taken is refused for this: all that was left, or more than is read
abbrev pub TakesNoElf : IoState → IoState → ElfWhy → Type 0
TakesNoElf old new why =
    (file : List ℕ) × Consumes old.bytes new.bytes file × (elf_text file ≡ Err why) × (IsAtEnd new.bytes ⊎ (most_file < length file))
