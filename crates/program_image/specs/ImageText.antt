-- The text of a program image: lines that begin a part at an address, and lines of its bytes.
use Rattle.std.specs.Prelude.{ℕ, ◌+◌, ◌%◌, ◌^◌, ◌==◌, nat_le, nat_lt, min, max, not, Bool, List, []}
use Rattle.std.specs.Prelude.{◌∷◌, ◌++◌, length, drop, fold, Option, Some, None, Result, Ok, Err, slice_index, if◌then◌else◌}
use Rattle.std.specs.List.{insert, list_any, position_or_len}
use Rattle.std.specs.Option.{ok_or, option_and_then, option_map}
use Rattle.std.specs.Result.{result_ok}
use Rattle.std.specs.Str.{is_utf8}
use Rattle.std.specs.Str.Lines.{lines}
use Rattle.program_image.specs.Part.{Part, end_of, total, most_bytes, most_parts}
use Rattle.hex.specs.Hex.{decode_of}
use Rattle.line_words.specs.Line.{number_of, words_in}
use Rattle.program_image.specs.declared.fault.ImageWhy.{ImageWhy}
use Rattle.program_image.specs.declared.fault.ImageWhy.TheVariants.{Syntax, Unaligned, Overlap, Wraps, TooLarge, TooLong}

-- 64 MiB
abbrev pub most_text : ℕ
most_text = 67108864

-- the second step, if the first gave a value
infixl 10 ◌>>=◌
abbrev pub ◌>>=◌ : {A B : Type 0} → Result A ImageWhy → (A → Result B ImageWhy) → Result B ImageWhy
Ok x >>= f = f x
Err why >>= f = Err why

-- the bytes that words of an even number of hex digits spell, two digits a byte
abbrev pub bytes_of : List (List ℕ) → Option (List ℕ)
bytes_of [] = Some []
bytes_of (word ∷ words) = option_and_then (λ front. option_map (λ bytes. front ++ bytes) (bytes_of words)) (result_ok (decode_of word))

-- The parts that lines began so far stand last first: bytes belong to the first of them.

-- a part that begins at an address
abbrev pub begin_part : List Part → ℕ → Result (List Part) ImageWhy
begin_part parts start =
    if not (start % 4 == 0) then Err Unaligned
    else if nat_le most_parts (length parts) then Err TooLarge
    else Ok (record { start = start; bytes = [] } ∷ parts)

-- whether the part has a byte at an address from `from` on and before `to`
abbrev pub has_between : ℕ → ℕ → Part → Bool
has_between from to part = nat_lt (max from part.start) (min to (end_of part))

-- why the part can't go on with so many bytes, beside the others
abbrev pub growth_fault : List Part → Part → ℕ → Option ImageWhy
growth_fault others part count =
    if not (count % 4 == 0) then Some Unaligned
    else if nat_lt (2 ^ 64) (end_of part + count) then Some Wraps
    else if list_any (has_between (end_of part) (end_of part + count)) others then Some Overlap
    else if nat_lt most_bytes (total (part ∷ others) + count) then Some TooLarge
    else None

-- the value, unless there is a fault
abbrev pub unless : {A : Type 0} → Option ImageWhy → A → Result A ImageWhy
unless None value = Ok value
unless (Some why) value = Err why

-- bytes at the end of the part that was begun last
abbrev pub add_bytes : List Part → List ℕ → Result (List Part) ImageWhy
add_bytes [] bytes = Err Syntax
add_bytes (part ∷ others) bytes = unless (growth_fault others part (length bytes)) (record { start = part.start; bytes = part.bytes ++ bytes } ∷ others)

-- the address in the words after `@`: digits alone
abbrev pub address_of : List ℕ → List (List ℕ) → Result ℕ ImageWhy
address_of digits [] = ok_or (number_of digits) Syntax
address_of digits (word ∷ words) = Err Syntax

-- A line without words, or whose first word begins with `#`, changes nothing. One that begins with `@` begins a part, and any
-- other has bytes.
abbrev pub add_words : List Part → List (List ℕ) → Result (List Part) ImageWhy
add_words parts [] = Ok parts
add_words parts (word ∷ words) =
    if slice_index word 0 == 35 then Ok parts
    else if slice_index word 0 == 64 then (address_of (drop 1 word) words >>= begin_part parts)
    else (ok_or (bytes_of (word ∷ words)) Syntax >>= add_bytes parts)

abbrev pub add_line : List Part → List ℕ → Result (List Part) ImageWhy
add_line parts line = if is_utf8 line then add_words parts (words_in line) else Err Syntax

-- the same with the number of the line, and the lines after it
abbrev pub then_lines : ℕ → Result (List Part) ImageWhy → (List Part → Result (List Part) (ℕ × ImageWhy)) → Result (List Part) (ℕ × ImageWhy)
then_lines number (Ok parts) more = more parts
then_lines number (Err why) more = Err (number, why)

-- the parts after lines, which are numbered; or the first line that has a fault, and its fault
abbrev pub add_lines : ℕ → List Part → List (List ℕ) → Result (List Part) (ℕ × ImageWhy)
add_lines number parts [] = Ok parts
add_lines number parts (line ∷ lines) = then_lines number (add_line parts line) (λ next. add_lines (number + 1) next lines)

-- a part put among others that stand by their addresses; one without bytes is left out
abbrev pub placed : List Part → Part → List Part
placed sorted part =
    if length part.bytes == 0 then sorted else insert sorted (position_or_len (λ other. nat_lt part.start other.start) sorted) part

abbrev pub by_address : List Part → List Part
by_address parts = fold placed [] parts

abbrev pub sorted : Result (List Part) (ℕ × ImageWhy) → Result (List Part) (ℕ × ImageWhy)
sorted (Ok parts) = Ok (by_address parts)
sorted (Err fault) = Err fault

-- The image that a text spells: its parts that have bytes, by their addresses. Lines end with LF, the last may lack it, and
-- a CR just before an LF is no part of its line. They count from 1; line 0 stands for the whole text.
unfoldable pub image_of : List ℕ → Result (List Part) (ℕ × ImageWhy)
image_of text = if nat_lt most_text (length text) then Err (0, TooLong) else sorted (add_lines 1 [] (lines text))
