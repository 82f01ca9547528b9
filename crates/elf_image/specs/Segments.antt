-- The segments of a file that are part of the image: what is loaded of it and executed (System V ABI, "Program Header").
use Rattle.std.specs.Prelude.{ℕ, ◌+◌, ◌-◌, ◌*◌, ◌/◌, ◌%◌, ◌==◌, ◌&&◌, Bool, nat_le, List, filter, map, slice_range}
use Rattle.program_image.specs.Part.{Part}
use Rattle.elf_image.specs.declared.header.ProgramHeader.{ProgramHeader}
use Rattle.elf_image.specs.declared.segment.Addresses.{Addresses}

-- PT_LOAD (1), with PF_X (bit 0), and at least one instruction in the file
abbrev pub is_chosen : ProgramHeader → Bool
is_chosen h = h.kind == 1 && (h.flags % 2 == 1 && nat_le 4 h.filesz)

abbrev pub chosen : List ProgramHeader → List ProgramHeader
chosen headers = filter is_chosen headers

-- how many bytes it has: whole instructions of those that stand in the file
abbrev pub segment_size : ProgramHeader → ℕ
segment_size h = h.filesz / 4 * 4

-- the address after the last one
abbrev pub segment_end : ProgramHeader → ℕ
segment_end h = h.vaddr + segment_size h

-- the addresses of its bytes
abbrev pub addresses_of : ProgramHeader → Addresses
addresses_of h = record { first = h.vaddr; last = segment_end h - 1 }

-- its bytes at its addresses
abbrev pub segment_of : List ℕ → ProgramHeader → Part
segment_of file h = record { start = h.vaddr; bytes = slice_range file h.offset (h.offset + segment_size h) }

-- those of headers, in their order
abbrev pub segments_of : List ℕ → List ProgramHeader → List Part
segments_of file headers = map (segment_of file) (chosen headers)
