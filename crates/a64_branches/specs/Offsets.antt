-- The offsets of branches (Arm DDI 0487, "Branches, Exception Generating and System instructions"), and where they lead.
use Rattle.std.specs.Prelude.{◌≡◌, ℕ, ◌+◌, ◌-◌, ◌/◌, ◌%◌, ◌^◌, ℤ, pos, ◌+ℤ◌, ◌-ℤ◌, ◌*ℤ◌, nat_lt, unsigned_abs, if◌then◌else◌}
use Rattle.std.specs.Int.{int_rem_euclid}

-- the number in bits high to low of a word
abbrev pub field : ℕ → ℕ → ℕ → ℕ
field high low word = word / 2 ^ low % 2 ^ (high + 1 - low)

-- a number of so many bits, read in two's complement
abbrev pub signed : ℕ → ℕ → ℤ
signed size number = if nat_lt number (2 ^ (size - 1)) then pos number else pos number -ℤ pos (2 ^ size)

-- An immediate counts instructions of 4 bytes. An offset counts bytes.
abbrev pub bytes : ℤ → ℤ
bytes instructions = instructions *ℤ pos 4

-- an offset of whole instructions
abbrev pub IsWhole : ℤ → Type 0
IsWhole offset = (instructions : ℤ) × (offset ≡ bytes instructions)

abbrev pub imm26 : ℕ → ℤ
imm26 word = bytes (signed 26 (field 25 0 word))

abbrev pub imm19 : ℕ → ℤ
imm19 word = bytes (signed 19 (field 23 5 word))

abbrev pub imm14 : ℕ → ℤ
imm14 word = bytes (signed 14 (field 18 5 word))

-- the address so many bytes on, modulo 2^64
abbrev pub target : ℕ → ℤ → ℕ
target address offset = unsigned_abs (int_rem_euclid (pos address +ℤ offset) (pos (2 ^ 64)))
