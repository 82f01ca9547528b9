-- The sixteen bytes of a frame: eight mixed-use bytes and seven data bytes in turn, and the auxiliary byte, whose bit n
-- belongs to the mixed-use byte n (Arm CoreSight architecture, IHI 0029, the trace formatter).
use Rattle.std.specs.Prelude.{ℕ, ◌+◌, ◌-◌, ◌*◌, ◌/◌, ◌%◌, ◌^◌, List, [], ◌∷◌, ◌++◌, flat_map, slice_index, ◌&&◌, if◌then◌else◌, ◌==◌}
use Rattle.std.specs.List.{range_with_len}
use Rattle.formatter_frames.specs.declared.symbol.Symbol.{Symbol}
use Rattle.formatter_frames.specs.declared.symbol.Symbol.TheVariants.{NewId, Data}
use Rattle.formatter_frames.specs.declared.frame.BytePair.{BytePair}

-- bit n of the auxiliary byte, which is byte 15
abbrev pub auxiliary_bit_at : List ℕ → ℕ → ℕ
auxiliary_bit_at frame n = slice_index frame 15 / 2 ^ n % 2

-- the mixed-use byte 2n, the data byte after it, and their auxiliary bit
abbrev pub pair_at : List ℕ → ℕ → BytePair
pair_at frame n = record { mixed = slice_index frame (2 * n); «data» = slice_index frame (2 * n + 1); bit = auxiliary_bit_at frame n }

-- A mixed-use byte whose bit 0 is 1 is an ID byte, with the ID in its bits 7 to 1. Another is a data byte, whose bit 0 is
-- the auxiliary bit.
abbrev pub mixed_symbol : ℕ → ℕ → Symbol
mixed_symbol mixed bit = if mixed % 2 == 0 then Data (mixed + bit) else NewId (mixed / 2)

-- The auxiliary bit of an ID byte tells when the new ID holds: 0, from the next byte on; 1, from the byte after it on.
abbrev pub pair_symbols : BytePair → Symbol × Symbol
pair_symbols pair =
    if (pair.mixed % 2 == 1) && (pair.bit == 1) then (Data pair.data, NewId (pair.mixed / 2))
    else (mixed_symbol pair.mixed pair.bit, Data pair.data)

abbrev pub symbols_of_pair : BytePair → List Symbol
symbols_of_pair pair = let symbols = pair_symbols pair in symbols.0 ∷ symbols.1 ∷ []

-- The fifteen symbols of a frame: those of its seven pairs, and that of byte 14, which no data byte follows.
abbrev pub symbols_in : List ℕ → List Symbol
symbols_in frame =
    flat_map (λ n. symbols_of_pair (pair_at frame n)) (range_with_len 0 7)
    ++ mixed_symbol (slice_index frame 14) (auxiliary_bit_at frame 7) ∷ []

-- a symbol as a mixed-use byte, and its auxiliary bit
abbrev pub mixed_byte : Symbol → ℕ
mixed_byte (NewId id) = 2 * id + 1
mixed_byte (Data byte) = byte - byte % 2

abbrev pub auxiliary_bit : Symbol → ℕ
auxiliary_bit (NewId id) = 0
auxiliary_bit (Data byte) = byte % 2

-- a symbol as a data byte
abbrev pub data_byte : Symbol → ℕ
data_byte (NewId id) = 0
data_byte (Data byte) = byte

-- Two symbols as a pair of bytes. An ID has no place among the data bytes: it takes the place before, and the byte that
-- stood there comes after it, with the auxiliary bit 1. An ID never follows an ID directly.
abbrev pub pair_of : Symbol → Symbol → BytePair
pair_of first (Data byte) = record { mixed = mixed_byte first; «data» = byte; bit = auxiliary_bit first }
pair_of first (NewId id) = record { mixed = 2 * id + 1; «data» = data_byte first; bit = 1 }

-- the mixed-use and data bytes of symbols
abbrev pub bytes_of : List Symbol → List ℕ
bytes_of [] = []
bytes_of (first ∷ []) = mixed_byte first ∷ []
bytes_of (first ∷ second ∷ symbols) = let pair = pair_of first second in pair.mixed ∷ pair.data ∷ bytes_of symbols

-- their auxiliary bits, lowest first
abbrev pub bits_of : List Symbol → ℕ
bits_of [] = 0
bits_of (first ∷ []) = auxiliary_bit first
bits_of (first ∷ second ∷ symbols) = (pair_of first second).bit + 2 * bits_of symbols

-- the frame of fifteen symbols
abbrev pub frame_of : List Symbol → List ℕ
frame_of symbols = bytes_of symbols ++ bits_of symbols ∷ []
