-- A line of a text: its words, and the numbers that they spell. A blank is a space (32) or a tab (9).
use Rattle.std.specs.Prelude.{ℕ, ◌-◌, ◌==◌, ◌&&◌, ◌||◌, nat_le, nat_lt, Bool, codes, List}
use Rattle.std.specs.Prelude.{◌++◌, length, take, Option, Some, None, filter, if◌then◌else◌}
use Rattle.std.specs.Char.{is_ascii_digit}
use Rattle.std.specs.List.{list_all, slice_split}
use Rattle.std.specs.Str.Parse.{digits_value}
use Rattle.std.specs.Option.{option_map}
use Rattle.std.specs.Result.{result_ok}
use Rattle.hex.specs.Hex.{decode_sized}
use Rattle.byteorder.specs.Endian.{big_number}

abbrev pub is_blank : ℕ → Bool
is_blank byte = (byte == 32) || (byte == 9)

-- the words of a line, parted by spaces or tabs
abbrev pub words_in : List ℕ → List (List ℕ)
words_in line = filter (λ word. nat_lt 0 (length word)) (slice_split is_blank line)

-- zeros in front of the digits, up to sixteen digits
abbrev pub padded : List ℕ → List ℕ
padded digits = take (16 - length digits) (codes "0000000000000000") ++ digits

-- the number that 1 to 16 hex digits spell, the highest first
abbrev pub number_of : List ℕ → Option ℕ
number_of digits =
    if nat_le 1 (length digits) && nat_le (length digits) 16 then option_map (big_number 8) (result_ok (decode_sized (padded digits) 8)) else None

-- the number of 1 to 10 decimal digits, the highest first; zeros may lead
abbrev pub decimal_of : List ℕ → Option ℕ
decimal_of digits =
    if nat_le 1 (length digits) && nat_le (length digits) 10 && list_all is_ascii_digit digits then Some (digits_value 10 digits) else None

-- 1 to 8 hex digits
abbrev pub short_number_of : List ℕ → Option ℕ
short_number_of word = if nat_le (length word) 8 then number_of word else None

-- two hex digits
abbrev pub two_digits_of : List ℕ → Option ℕ
two_digits_of word = if length word == 2 then number_of word else None
