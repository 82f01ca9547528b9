-- How parts are spelled as the text of an image.
use Rattle.std.specs.Prelude.{ℕ, List, [], ◌∷◌, ◌++◌}
use Rattle.hex.specs.Hex.{encode_lower}
use Rattle.byteorder.specs.Endian.{big_bytes}
use Rattle.program_image.specs.Part.{Part}

-- `@` (64) and sixteen digits of the address
abbrev pub address_line : Part → List ℕ
address_line part = 64 ∷ encode_lower (big_bytes 8 part.start)

-- the bytes as one word, two digits a byte
abbrev pub bytes_line : Part → List ℕ
bytes_line part = encode_lower part.bytes

-- two lines a part, each with its end (10)
abbrev pub text_of : List Part → List ℕ
text_of [] = []
text_of (part ∷ parts) = address_line part ++ 10 ∷ (bytes_line part ++ 10 ∷ text_of parts)
