-- The lines of the instructions of a page of 64 KiB, in three parts: all but their last four digits, the first of these, and the others with LF.
use Rattle.std.specs.Prelude.{◌≡◌, ℕ, ◌*◌, ◌/◌, ◌%◌, ◌<◌, List, [], ◌∷◌, ◌++◌, map, take, drop}
use Rattle.std.specs.Int.Digits.{digits_of}
use Rattle.path_text.specs.Lines.{digit, line_start}

-- the digits of an address but for the last four, if it has more
abbrev pub upper_digits : ℕ → List ℕ
upper_digits address = map digit (digits_of 16 (address / 65536))

-- its line up to the last four
abbrev pub line_head : ℕ → ℕ → List ℕ
line_head id address = line_start id ++ upper_digits address

-- the last three digits of the instruction of a place in 4 KiB, and LF
abbrev pub line_end : ℕ → List ℕ
line_end place = digit (place / 64) ∷ digit (place / 4 % 16) ∷ digit (place % 4 * 4) ∷ 10 ∷ []

-- the ends of so many places, one behind the other
pub record HoldsEnds (ends : List ℕ) (count : ℕ) : Type 0 where
  pub each : (place : ℕ) → place < count → take 4 (drop (4 * place) ends) ≡ line_end place
