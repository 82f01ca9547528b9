-- Program headers of large programs, worked out by hand: more than the image has room for.
use Rattle.std.proofs.Common.{◌≡◌, ℕ, ◌*◌, ◌^◌, List, [], ◌∷◌, ◌++◌, Option, Some, None, true, false, refl, sym}
use Rattle.std.specs.Prelude.{map, replicate}
use Rattle.std.proofs.lemmas.Option.{none-some}
use Rattle.std.specs.List.{range_with_len}
use Rattle.std.specs.Option.{option_or}
use Rattle.elf_image.specs.FirstRefusal.{NoneRefused}
use Rattle.elf_image.specs.Refusals.{first_refusal, most_file, overlap, size_refusal}
use Rattle.elf_image.specs.Segments.{addresses_of, chosen}
use Rattle.elf_image.specs.declared.fault.ElfWhy.{ElfWhy}
use Rattle.elf_image.specs.declared.fault.ElfWhy.TheVariants.{Overlap, Unaligned, TooLarge}
use Rattle.elf_image.specs.declared.header.ProgramHeader.{ProgramHeader}
use Rattle.elf_image.specs.declared.segment.Addresses.{Addresses}
use Rattle.elf_image.proofs.First.{none_refused}

-- a segment of the first bytes of the file
abbrev segment : ℕ → ℕ → ProgramHeader
segment vaddr filesz = record { kind = 1; flags = 5; offset = 0; vaddr = vaddr; filesz = filesz }

-- so many segments of one instruction
abbrev segments : ℕ → List ProgramHeader
segments n = map (λ k. segment (16 * k) 4) (range_with_len 0 n)

abbrev file : List ℕ
file = replicate 16 0

-- the first refusal of headers, and that of their number and size
abbrev refusal : List ProgramHeader → Option ElfWhy
refusal headers = option_or (first_refusal file [] headers) (size_refusal (chosen headers))

most_segments : refusal (segments 64) ≡ None
most_segments = refl

too_many_segments : refusal (segments 65) ≡ Some TooLarge
too_many_segments = refl

-- a header behind them is refused first
each_header_first : refusal (segments 64 ++ segment 9002 16 ∷ []) ≡ Some (Unaligned 64)
each_header_first = refl

-- 16 MiB in all
most_bytes_in_all : size_refusal (segment 0 0xffffff ∷ segment 0x2000000 4 ∷ []) ≡ None
most_bytes_in_all = refl

too_many_bytes : size_refusal (segment 0 0x1000000 ∷ segment 0x2000000 4 ∷ []) ≡ Some TooLarge
too_many_bytes = refl

-- the limit of a file is 256 MiB
longest_file : most_file ≡ 2 ^ 28
longest_file = refl

-- ---- none of some headers is refused

two_passed : NoneRefused file (segments 2)
two_passed = none_refused file (segments 2) refl

-- the first one, and one at whose address there is another
not_the_first : NoneRefused file (segment 2 4 ∷ segments 1) → ⊥
not_the_first none = absurd (none-some (Unaligned 0) (sym (none [] (segment 2 4) (segments 1) refl)))

not_twice : NoneRefused file (segments 2 ++ segment 16 4 ∷ []) → ⊥
not_twice none = absurd (none-some (Overlap 2) (sym (none (segments 2) (segment 16 4) [] refl)))

-- one that is not chosen is passed over, and its address is free
abbrev passed : ProgramHeader
passed = record { kind = 4; flags = 5; offset = 0; vaddr = 16; filesz = 4 }

address_is_free : NoneRefused file (passed ∷ segments 2)
address_is_free = none_refused file (passed ∷ segments 2) refl

-- ---- addresses

-- 15 bytes are three words
addresses_of_words : (addresses_of (segment 0x1000 16) ≡ record { first = 0x1000; last = 0x100f })
    × (addresses_of (segment 0x1000 15) ≡ record { first = 0x1000; last = 0x100b })
addresses_of_words = (refl, refl)

-- there is an address of both, or none
abbrev from_to : ℕ → ℕ → Addresses
from_to first last = record { first = first; last = last }

overlaps : (overlap (from_to 3 8) (from_to 8 9) ≡ true) × (overlap (from_to 8 9) (from_to 3 8) ≡ true)
    × (overlap (from_to 3 7) (from_to 8 9) ≡ false) × (overlap (from_to 8 9) (from_to 3 7) ≡ false)
overlaps = (refl, refl, refl, refl)
