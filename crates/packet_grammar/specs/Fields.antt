-- Fields of a byte, and the places of numbers in a value, as the figures of the standard show them (Arm IHI 0064, "Descriptions
-- of Trace Packets").
use Rattle.std.specs.Prelude.{ℕ, ◌+◌, ◌-◌, ◌*◌, ◌/◌, ◌%◌, ◌^◌, ◌==◌, Bool, nat_lt}

-- whether the bit at a place of a byte is 1
abbrev pub bit : ℕ → ℕ → Bool
bit place byte = byte / 2 ^ place % 2 == 1

-- the number in bits high to low of a byte
abbrev pub field : ℕ → ℕ → ℕ → ℕ
field high low byte = byte / 2 ^ low % 2 ^ (high + 1 - low)

-- the number in the lowest so many bits of a byte
abbrev pub lowest : ℕ → ℕ → ℕ
lowest count byte = byte % 2 ^ count

-- a number whose bit 0 is at this place of a value
abbrev pub from_bit : ℕ → ℕ → ℕ
from_bit place number = number * 2 ^ place

-- the continuation bit, bit 7: where it is 1 another byte follows
abbrev pub continues : ℕ
continues = 0x80

-- a byte whose continuation bit is 0
abbrev pub is_last : ℕ → Bool
is_last byte = nat_lt byte continues
