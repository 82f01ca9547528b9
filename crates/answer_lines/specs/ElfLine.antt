-- The line of an ELF file that can't be used.
use Rattle.std.specs.Prelude.{ℕ, List, [], ◌∷◌, ◌++◌, codes, Option, Some, None}
use Rattle.elf_image.specs.Faults.{header_of, why_word}
use Rattle.elf_image.specs.declared.fault.ElfWhy.{ElfWhy}
use Rattle.path_text.specs.Lines.{decimal}

-- the number of the program header that the reason is about, where it is about one
abbrev pub header_text : Option ℕ → List ℕ
header_text None = []
header_text (Some k) = codes " " ++ decimal k

abbrev pub elf_line : ElfWhy → List ℕ
elf_line why = codes "elf: " ++ why_word why ++ header_text (header_of why) ++ 10 ∷ []
