-- The text of an image that a program spells.
use Rattle.std.specs.Prelude.{ℕ, List, [], ◌∷◌, ◌++◌, flat_map, Option, Some, None, Result, Ok, Err}
use Rattle.hex.specs.Hex.{encode_lower}
use Rattle.program_image.specs.Part.{Part}
use Rattle.program_image.specs.Spelling.{address_line}
use Rattle.elf_image.specs.Fields.{program_headers}
use Rattle.elf_image.specs.Segments.{segments_of}
use Rattle.elf_image.specs.Refusals.{elf_refusal}
use Rattle.elf_image.specs.declared.fault.ElfWhy.{ElfWhy}

-- the line of a word: the digits of its bytes, as they stand in the file
abbrev pub word_line : List ℕ → List ℕ
word_line word = encode_lower word ++ 10 ∷ []

-- a line for each four bytes
abbrev pub word_lines : List ℕ → List ℕ
word_lines (a ∷ b ∷ c ∷ d ∷ bytes) = word_line (a ∷ b ∷ c ∷ d ∷ []) ++ word_lines bytes
word_lines _ = []

-- the line of its address, and those of its words
abbrev pub segment_text : Part → List ℕ
segment_text segment = (address_line segment ++ 10 ∷ []) ++ word_lines segment.bytes

abbrev pub segments_text : List Part → List ℕ
segments_text segments = flat_map segment_text segments

-- the text, unless there is a refusal
abbrev pub unless : Option ElfWhy → List ℕ → Result (List ℕ) ElfWhy
unless None text = Ok text
unless (Some why) text = Err why

-- what a file spells: its chosen segments in the order of their headers
unfoldable pub elf_text : List ℕ → Result (List ℕ) ElfWhy
elf_text file = unless (elf_refusal file) (segments_text (segments_of file (program_headers file)))
