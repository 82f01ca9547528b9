-- Why a file is refused: the first reason that there is.
use Rattle.std.specs.Prelude.{ℕ, ◌+◌, ◌%◌, ◌^◌, ◌==◌, ◌&&◌, ◌||◌, not, Bool, nat_le, nat_lt, if◌then◌else◌}
use Rattle.std.specs.Prelude.{List, [], ◌∷◌, ◌++◌, length, map, sum_by, Option, Some, None}
use Rattle.std.specs.List.{list_any}
use Rattle.std.specs.Option.{option_or}
use Rattle.program_image.specs.Part.{most_bytes, most_parts}
use Rattle.elf_image.specs.Fields.{has_headers, is_header, program_headers}
use Rattle.elf_image.specs.Segments.{addresses_of, chosen, is_chosen, segment_end, segment_size}
use Rattle.elf_image.specs.declared.fault.ElfWhy.{ElfWhy}
use Rattle.elf_image.specs.declared.fault.ElfWhy.TheVariants.{TooLong, Header, Table, Segment, Unaligned, Wraps, Overlap, TooLarge}
use Rattle.elf_image.specs.declared.header.ProgramHeader.{ProgramHeader}
use Rattle.elf_image.specs.declared.segment.Addresses.{Addresses}

-- 256 MiB
abbrev pub most_file : ℕ
most_file = 268435456

-- ---- the file, its header and its program headers as a whole

abbrev pub file_refusal : List ℕ → Option ElfWhy
file_refusal file =
    if nat_lt most_file (length file) then Some TooLong
    else if not (is_header file) then Some Header
    else if not (has_headers file) then Some Table
    else None

-- ---- the segments, one after another

-- there is an address of both
abbrev pub overlap : Addresses → Addresses → Bool
overlap a b = nat_le a.first b.last && nat_le b.first a.last

-- why the segment of header k is refused, where these addresses are taken
abbrev pub segment_refusal : List ℕ → List Addresses → ℕ → ProgramHeader → Option ElfWhy
segment_refusal file taken k h =
    if nat_lt (length file) (h.offset + h.filesz) then Some (Segment k)
    else if not (h.vaddr % 4 == 0) then Some (Unaligned k)
    else if nat_lt (2 ^ 64) (segment_end h) then Some (Wraps k)
    else if list_any (overlap (addresses_of h)) taken then Some (Overlap k)
    else None

-- why a header is refused that stands behind these; a segment that is not chosen is passed over
abbrev pub header_refusal : List ℕ → List ProgramHeader → ProgramHeader → Option ElfWhy
header_refusal file before h = if is_chosen h then segment_refusal file (map addresses_of (chosen before)) (length before) h else None

-- the first refusal of headers that stand behind these
abbrev pub first_refusal : List ℕ → List ProgramHeader → List ProgramHeader → Option ElfWhy
first_refusal file before [] = None
first_refusal file before (h ∷ headers) = option_or (header_refusal file before h) (first_refusal file (before ++ h ∷ []) headers)

-- ---- all segments together

-- more than 64, or more than 16 MiB
abbrev pub are_too_large : List ProgramHeader → Bool
are_too_large segments = nat_lt most_parts (length segments) || nat_lt most_bytes (sum_by segment_size segments)

abbrev pub size_refusal : List ProgramHeader → Option ElfWhy
size_refusal segments = if are_too_large segments then Some TooLarge else None

-- ---- the whole file

-- each header is tested before the size of all segments
abbrev pub segments_refusal : List ℕ → Option ElfWhy
segments_refusal file = option_or (first_refusal file [] (program_headers file)) (size_refusal (chosen (program_headers file)))

abbrev pub elf_refusal : List ℕ → Option ElfWhy
elf_refusal file = option_or (file_refusal file) (segments_refusal file)
