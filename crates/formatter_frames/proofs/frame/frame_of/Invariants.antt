use Rattle.std.proofs.Common.{◌≡◌, ◌*◌, [], ◌∷◌, ◌++◌, length, drop}
use Rattle.formatter_frames.specs.Frame.{bytes_of, bits_of}
use Rattle.formatter_frames.proofs.frame.frame_of.Given as goal

-- what was laid out, from the end
abbrev pub invariant-loop-n : goal.invariant-loop-n
invariant-loop-n l = record {
  size : length l.frame ≡ 16;
  bytes : drop (2 * l.n) l.frame ≡ bytes_of (drop (2 * l.n) l.symbols) ++ 0 ∷ [];
  bits : l.auxiliary ≡ bits_of (drop (2 * l.n) l.symbols);
}
