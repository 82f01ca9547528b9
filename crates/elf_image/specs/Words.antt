-- The instruction words that a program puts at addresses.
use Rattle.std.specs.Prelude.{ℕ, ◌+◌, ◌-◌, ◌%◌, ◌≡◌, ◌==◌, ◌&&◌, nat_le, nat_lt, if◌then◌else◌, List, [], ◌∷◌, Option, Some, None, Ok}
use Rattle.std.specs.Option.{option_or}
use Rattle.program_image.specs.ImageText.{image_of}
use Rattle.program_image.specs.Part.{Part, word_of}
use Rattle.elf_image.specs.Fields.{number_at, program_headers}
use Rattle.elf_image.specs.Segments.{chosen, segment_end}
use Rattle.elf_image.specs.declared.header.ProgramHeader.{ProgramHeader}

-- the word that a segment puts at the address a: the four bytes of the file that stand as far behind the segment's first one
abbrev pub word_put : List ℕ → ProgramHeader → ℕ → Option ℕ
word_put file h a =
    if (a % 4 == 0) && (nat_le h.vaddr a && nat_lt a (segment_end h)) then Some (number_at 4 (h.offset + (a - h.vaddr)) file) else None

-- the word of the first of these that puts one there
abbrev pub word_of_segments : List ℕ → List ProgramHeader → ℕ → Option ℕ
word_of_segments file [] a = None
word_of_segments file (h ∷ headers) a = option_or (word_put file h a) (word_of_segments file headers a)

abbrev pub word_in_file : List ℕ → ℕ → Option ℕ
word_in_file file a = word_of_segments file (chosen (program_headers file)) a

-- the text has no fault, and its image has the words of the file
abbrev pub IsTextOf : List ℕ → List ℕ → Type 0
IsTextOf file text = (image : List Part) × (image_of text ≡ Ok image) × ((a : ℕ) → word_of image a ≡ word_in_file file a)
