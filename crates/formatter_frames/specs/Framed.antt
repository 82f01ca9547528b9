-- The frames of a list of pairs of ID and byte (Arm CoreSight architecture, IHI 0029, the trace formatter). Where an ID is told,
-- and how the last frame is filled, is this project's own choice.
use Rattle.std.specs.Prelude.{ℕ, ◌-◌, ◌<◌, List, [], ◌∷◌, ◌++◌, length, replicate, None, flat_map}
use Rattle.formatter_frames.specs.declared.symbol.Symbol.{Symbol}
use Rattle.formatter_frames.specs.declared.symbol.Symbol.TheVariants.{NewId, Data}
use Rattle.formatter_frames.specs.Sizes.{frame_symbols}
use Rattle.formatter_frames.specs.Symbols.{symbols_of}
use Rattle.formatter_frames.specs.Frame.{frame_of}
use Rattle.formatter_frames.specs.Pieces.{whole_pieces, left_over}

-- the frames that symbols fill, fifteen to a frame
abbrev pub frames_of : List Symbol → List ℕ
frames_of symbols = flat_map frame_of (whole_pieces frame_symbols symbols)

abbrev pub whole_frames : List (ℕ × ℕ) → List ℕ
whole_frames pairs = frames_of (symbols_of None pairs)

-- the symbols of the frame that was begun and is not full
abbrev pub begun : List (ℕ × ℕ) → List Symbol
begun pairs = left_over frame_symbols (symbols_of None pairs)

-- what fills a frame that has so many symbols: the null ID, and zeros of it
abbrev pub filling : ℕ → List Symbol
filling count = NewId 0 ∷ replicate (frame_symbols - 1 - count) (Data 0)

-- the last frame, filled, where one was begun
abbrev pub filled : List Symbol → List ℕ
filled [] = []
filled (symbol ∷ symbols) = frame_of ((symbol ∷ symbols) ++ filling (length (symbol ∷ symbols)))

abbrev pub framed : List (ℕ × ℕ) → List ℕ
framed pairs = whole_frames pairs ++ filled (begun pairs)

-- a byte and its ID, which has seven bits
abbrev pub IsPair : ℕ × ℕ → Type 0
IsPair pair = (pair.0 < 128) × (pair.1 < 256)

abbrev pub IsByte : ℕ → Type 0
IsByte byte = byte < 256
