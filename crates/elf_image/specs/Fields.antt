-- The fields of an ELF64 file that count (System V ABI, "ELF Header" and "Program Header").
use Rattle.std.specs.Prelude.{ℕ, zero, suc, ◌+◌, ◌*◌, ◌==◌, ◌&&◌, ◌||◌, Bool, nat_eq, nat_le, List, [], ◌∷◌, length, slice_range}
use Rattle.std.specs.List.{starts_with}
use Rattle.byteorder.specs.Endian.{little_number}
use Rattle.elf_image.specs.declared.header.ProgramHeader.{ProgramHeader}

-- the number in so many bytes from an offset on, the lowest byte first
unfoldable pub number_at : ℕ → ℕ → List ℕ → ℕ
number_at size offset file = little_number size (slice_range file offset (offset + size))

-- ---- the file header

-- the magic number, ELFCLASS64 and ELFDATA2LSB
abbrev pub identification : List ℕ
identification = 0x7f ∷ 0x45 ∷ 0x4c ∷ 0x46 ∷ 2 ∷ 1 ∷ []

abbrev pub e_machine : List ℕ → ℕ
e_machine file = number_at 2 18 file

-- where the program headers begin
abbrev pub e_phoff : List ℕ → ℕ
e_phoff file = number_at 8 32 file

-- how many bytes each has
abbrev pub e_phentsize : List ℕ → ℕ
e_phentsize file = number_at 2 54 file

-- how many there are
abbrev pub e_phnum : List ℕ → ℕ
e_phnum file = number_at 2 56 file

-- the header of a 64-bit file for EM_AARCH64 (183) with the lowest byte first, whose program headers, where it has any, have 56 bytes
abbrev pub is_header : List ℕ → Bool
is_header file =
    nat_le 64 (length file)
    && (starts_with nat_eq file identification && (e_machine file == 183 && (e_phnum file == 0 || e_phentsize file == 56)))

-- ---- the program headers

-- they end within the file, where there are any
abbrev pub has_headers : List ℕ → Bool
has_headers file = e_phnum file == 0 || nat_le (e_phoff file + 56 * e_phnum file) (length file)

-- p_type, p_flags, p_offset, p_vaddr and p_filesz of the header at an offset
abbrev pub program_header : List ℕ → ℕ → ProgramHeader
program_header file at = record {
  kind = number_at 4 at file;
  flags = number_at 4 (at + 4) file;
  offset = number_at 8 (at + 8) file;
  vaddr = number_at 8 (at + 16) file;
  filesz = number_at 8 (at + 32) file;
}

-- so many from an offset on
abbrev pub headers_from : List ℕ → ℕ → ℕ → List ProgramHeader
headers_from file at zero = []
headers_from file at (suc count) = program_header file at ∷ headers_from file (at + 56) count

abbrev pub program_headers : List ℕ → List ProgramHeader
program_headers file = headers_from file (e_phoff file) (e_phnum file)
