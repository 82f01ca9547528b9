-- The number and the word of each reason for which a file is refused, and the program header that it is about.
use Rattle.std.specs.Prelude.{ℕ, List, [], ◌∷◌, ◌++◌, codes, decimal, Option, Some, None}
use Rattle.elf_image.specs.declared.fault.ElfWhy.{ElfWhy}
use Rattle.elf_image.specs.declared.fault.ElfWhy.TheVariants.{TooLong, Header, Table, Segment, Unaligned, Wraps, Overlap, TooLarge}

abbrev pub why_number : ElfWhy → ℕ
why_number TooLong = 1
why_number Header = 2
why_number Table = 3
why_number (Segment k) = 4
why_number (Unaligned k) = 5
why_number (Wraps k) = 6
why_number (Overlap k) = 7
why_number TooLarge = 8

abbrev pub why_word : ElfWhy → List ℕ
why_word TooLong = codes "too-long"
why_word Header = codes "header"
why_word Table = codes "table"
why_word (Segment k) = codes "segment"
why_word (Unaligned k) = codes "unaligned"
why_word (Wraps k) = codes "wraps"
why_word (Overlap k) = codes "overlap"
why_word TooLarge = codes "too-large"

-- headers count from 0, those of segments that are not chosen too
abbrev pub header_of : ElfWhy → Option ℕ
header_of TooLong = None
header_of Header = None
header_of Table = None
header_of (Segment k) = Some k
header_of (Unaligned k) = Some k
header_of (Wraps k) = Some k
header_of (Overlap k) = Some k
header_of TooLarge = None

-- behind a space
abbrev pub number_text : Option ℕ → List ℕ
number_text None = []
number_text (Some k) = 32 ∷ decimal k

-- the word, and the number of the program header where there is one
abbrev pub why_text : ElfWhy → List ℕ
why_text why = why_word why ++ number_text (header_of why)
