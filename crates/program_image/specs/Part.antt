-- The parts of a core's memory that an image has, and the instruction word at an address.
use Rattle.std.specs.Prelude.{◌≡◌, ℕ, ◌+◌, ◌-◌, ◌%◌, ◌^◌, ◌<◌, ◌≤◌, ◌==◌, ◌&&◌, nat_le}
use Rattle.std.specs.Prelude.{nat_lt, List, [], ◌∷◌, length, All, Option, Some, None, slice_range, ⊤, if◌then◌else◌}
use Rattle.std.specs.Option.{option_or}
use Rattle.byteorder.specs.Endian.{little_number}

-- the address of the first byte, and the bytes from there on
pub record Part : Type 0 where
  pub start : ℕ
  pub bytes : List ℕ

-- the address after the last byte
abbrev pub end_of : Part → ℕ
end_of part = part.start + length part.bytes

-- how many bytes the parts have
abbrev pub total : List Part → ℕ
total [] = 0
total (part ∷ parts) = length part.bytes + total parts

-- the word of a part at the address a: its four bytes stand lowest first
abbrev pub word_in : Part → ℕ → Option ℕ
word_in part a =
    if (a % 4 == 0) && (nat_le part.start a && nat_lt a (end_of part))
    then Some (little_number 4 (slice_range part.bytes (a - part.start) (a - part.start + 4)))
    else None

-- the word at the address a: that of the part that has this address
abbrev pub word_of : List Part → ℕ → Option ℕ
word_of [] a = None
word_of (part ∷ parts) a = option_or (word_in part a) (word_of parts a)

abbrev pub most_parts : ℕ
most_parts = 64

-- 16 MiB
abbrev pub most_bytes : ℕ
most_bytes = 16777216

-- whole words at multiples of 4, within the addresses of 64 bits
pub record IsPart (part : Part) : Type 0 where
  pub aligned : part.start % 4 ≡ 0
  pub whole : length part.bytes % 4 ≡ 0
  pub some : 0 < length part.bytes
  pub within : end_of part ≤ 2 ^ 64
  pub bytes : All (λ byte. byte < 256) part.bytes

-- each part ends before the next begins
abbrev pub InOrder : List Part → Type 0
InOrder [] = ⊤
InOrder (part ∷ parts) = All (λ next. end_of part ≤ next.start) parts × InOrder parts

-- the parts of an image
pub record IsImage (image : List Part) : Type 0 where
  pub parts : All IsPart image
  pub order : InOrder image
  pub few : length image ≤ most_parts
  pub small : total image ≤ most_bytes
