-- The number and the word of each reason for which no image was read.
use Rattle.std.specs.Prelude.{ℕ, List, codes}
use Rattle.program_image.specs.declared.fault.ImageFault.{ImageFault}
use Rattle.program_image.specs.declared.fault.ImageFault.TheVariants.{Bad, ReadFault, Memory}
use Rattle.program_image.specs.declared.fault.ImageWhy.{ImageWhy}
use Rattle.program_image.specs.declared.fault.ImageWhy.TheVariants.{Syntax, Unaligned, Overlap, Wraps, TooLarge, TooLong}

abbrev pub why_number : ImageWhy → ℕ
why_number Syntax = 1
why_number Unaligned = 2
why_number Overlap = 3
why_number Wraps = 4
why_number TooLarge = 5
why_number TooLong = 6

abbrev pub fault_number : ImageFault → ℕ
fault_number (Bad line why) = why_number why
fault_number ReadFault = 7
fault_number Memory = 8

abbrev pub why_text : ImageWhy → List ℕ
why_text Syntax = codes "syntax"
why_text Unaligned = codes "unaligned"
why_text Overlap = codes "overlap"
why_text Wraps = codes "wraps"
why_text TooLarge = codes "too-large"
why_text TooLong = codes "too-long"
