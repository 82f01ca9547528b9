-- What the frames of a list of bytes carry (Arm CoreSight architecture, IHI 0029, the trace formatter). Bytes that are left over,
-- fewer than sixteen, carry nothing.
use Rattle.std.specs.Prelude.{ℕ, List, Option, None, flat_map}
use Rattle.formatter_frames.specs.declared.symbol.Symbol.{Symbol}
use Rattle.formatter_frames.specs.Sizes.{frame_bytes}
use Rattle.formatter_frames.specs.Symbols.{pairs_of, id_after}
use Rattle.formatter_frames.specs.Frame.{symbols_in}
use Rattle.formatter_frames.specs.Pieces.{whole_pieces, left_over}

abbrev pub symbols_of_frames : List ℕ → List Symbol
symbols_of_frames bytes = flat_map symbols_in (whole_pieces frame_bytes bytes)

-- The pairs of ID and byte. No ID holds at first, and the one that holds goes on from frame to frame.
abbrev pub unframed : List ℕ → List (ℕ × ℕ)
unframed bytes = pairs_of None (symbols_of_frames bytes)

-- the ID that holds after the frames
abbrev pub id_after_frames : List ℕ → Option ℕ
id_after_frames bytes = id_after None (symbols_of_frames bytes)

-- the bytes of a frame that was begun: those that are left over
abbrev pub begun_frame : List ℕ → List ℕ
begun_frame bytes = left_over frame_bytes bytes
