-- A refusal is the first that there is: none of what is tested before it refuses the file.
use Rattle.std.specs.Prelude.{◌≡◌, ℕ, ◌<◌, ◌≤◌, true, false, List, ◌∷◌, ◌++◌, length, Some, None}
use Rattle.elf_image.specs.Fields.{has_headers, is_header, program_headers}
use Rattle.elf_image.specs.Segments.{chosen}
use Rattle.elf_image.specs.Refusals.{are_too_large, header_refusal, most_file}
use Rattle.elf_image.specs.declared.fault.ElfWhy.{ElfWhy}
use Rattle.elf_image.specs.declared.fault.ElfWhy.TheVariants.{TooLong, Header, Table, TooLarge}
use Rattle.elf_image.specs.declared.header.ProgramHeader.{ProgramHeader}

-- the file is short enough, and has its headers
pub record HasHeaders (file : List ℕ) : Type 0 where
  pub short : length file ≤ most_file
  pub header : is_header file ≡ true
  pub headers : has_headers file ≡ true

-- none of these program headers is refused, wherever it stands
abbrev pub NoneRefused : List ℕ → List ProgramHeader → Type 0
NoneRefused file headers = (before : List ProgramHeader) (h : ProgramHeader) (behind : List ProgramHeader) → headers ≡ before ++ h ∷ behind
    → header_refusal file before h ≡ None

-- a program header is refused, and none before it
pub record RefusesHeader (file : List ℕ) (why : ElfWhy) : Type 0 where
  pub has : HasHeaders file
  pub before : List ProgramHeader
  pub refused : ProgramHeader
  pub behind : List ProgramHeader
  pub headers_are : program_headers file ≡ before ++ refused ∷ behind
  pub none_before : NoneRefused file before
  pub why_is : header_refusal file before refused ≡ Some why

-- no refusal at all
pub record NotRefused (file : List ℕ) : Type 0 where
  pub has : HasHeaders file
  pub none : NoneRefused file (program_headers file)
  pub small : are_too_large (chosen (program_headers file)) ≡ false

abbrev pub IsFirstRefusal : List ℕ → ElfWhy → Type 0
IsFirstRefusal file TooLong = most_file < length file
IsFirstRefusal file Header = (length file ≤ most_file) × (is_header file ≡ false)
IsFirstRefusal file Table = (length file ≤ most_file) × (is_header file ≡ true) × (has_headers file ≡ false)
IsFirstRefusal file TooLarge =
    HasHeaders file × NoneRefused file (program_headers file) × (are_too_large (chosen (program_headers file)) ≡ true)
IsFirstRefusal file why = RefusesHeader file why
