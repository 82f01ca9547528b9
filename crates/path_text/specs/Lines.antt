-- Numbers as they are printed, and how a line begins and ends.
use Rattle.std.specs.Prelude.{◌≡◌, ◌≢◌, All, ℕ, ◌+◌, ◌/◌, ◌%◌, ◌≤◌, Bool, if◌then◌else◌, nat_lt, ◌==◌, List, [], ◌∷◌, ◌++◌, length, map, codes}
use Rattle.std.specs.Prelude.{Option, Some, None}
use Rattle.std.specs.Int.Digits.{digits_of}

-- a digit: 0 to 9, then a to f
abbrev pub digit : ℕ → ℕ
digit d = if nat_lt d 10 then 48 + d else 87 + d

-- a number without leading zeros
unfoldable pub in_base : ℕ → ℕ → List ℕ
in_base base n = if n == 0 then 48 ∷ [] else map digit (digits_of base n)

abbrev pub hex : ℕ → List ℕ
hex n = in_base 16 n

-- its last four digits, where it has as many
abbrev pub last_four_hex : ℕ → List ℕ
last_four_hex n = digit (n / 4096 % 16) ∷ digit (n / 256 % 16) ∷ digit (n / 16 % 16) ∷ digit (n % 16) ∷ []

abbrev pub decimal : ℕ → List ℕ
decimal n = in_base 10 n

-- a byte: two hex digits
abbrev pub byte_text : ℕ → List ℕ
byte_text byte = digit (byte / 16) ∷ digit (byte % 16) ∷ []

-- a number where it is there, and else a dash
abbrev pub number_or_dash : (ℕ → List ℕ) → Option ℕ → List ℕ
number_or_dash text None = codes "-"
number_or_dash text (Some n) = text n

abbrev pub security : Bool → List ℕ
security ns = if ns then codes " ns " else codes " s "

-- a line begins with the ID of its stream in two hex digits and a space
abbrev pub line_start : ℕ → List ℕ
line_start id = byte_text id ++ 32 ∷ []

-- and ends with LF
abbrev pub line_of : ℕ → List ℕ → List ℕ
line_of id text = line_start id ++ text ++ 10 ∷ []

-- it has no other LF
abbrev pub IsLine : List ℕ → Type 0
IsLine line = (text : List ℕ) × (line ≡ text ++ 10 ∷ []) × All (λ b. b ≢ 10) text

-- no line is longer
abbrev pub longest_line : ℕ
longest_line = 96

-- a line has room for so many bytes more
abbrev pub HasRoom : ℕ → List ℕ → Type 0
HasRoom count line = length line + count ≤ longest_line

-- so many bytes are added to a line, or fewer
abbrev pub AddsAtMost : ℕ → List ℕ → List ℕ → Type 0
AddsAtMost count old new = length new ≤ length old + count

-- the line of an instruction: its address
abbrev pub address_line : ℕ → ℕ → List ℕ
address_line id address = line_of id (hex address)

-- what is seen of a line of an instruction
pub record AtAddress : Type 0 where
  pub id : ℕ
  pub address : ℕ
