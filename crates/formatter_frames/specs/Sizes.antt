-- The sizes of a frame (Arm CoreSight architecture, IHI 0029, the trace formatter).
use Rattle.std.specs.Prelude.{ℕ}

abbrev pub frame_bytes : ℕ
frame_bytes = 16

-- a symbol for each byte before the auxiliary byte
abbrev pub frame_symbols : ℕ
frame_symbols = 15
