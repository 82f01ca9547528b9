use Rattle.std.proofs.Common.{◌≡◌, ◌*◌, ◌≤◌, ◌++◌, length, take, drop, IfSome}
use Rattle.formatter_frames.specs.Symbols.{pairs_of, id_after}
use Rattle.formatter_frames.specs.Frame.{symbols_in}
use Rattle.formatter_frames.proofs.Places.{symbols_at}
use Rattle.formatter_frames.proofs.unpacked.unpack.Given as goal

-- what was taken, and what is left of the frame
abbrev pub invariant-loop-n : goal.invariant-loop-n
invariant-loop-n l = record {
  few : length l.unpacked ≤ 2 * l.n;
  pairs : pairs_of l.initial.current (symbols_in l.frame) ≡ l.unpacked ++ pairs_of l.current (symbols_at l.auxiliary (drop (2 * l.n) (take 15 l.frame)));
  current : id_after l.initial.current (symbols_in l.frame) ≡ id_after l.current (symbols_at l.auxiliary (drop (2 * l.n) (take 15 l.frame)));
  within : IfSome l.current (λ id. id ≤ 127);
}
