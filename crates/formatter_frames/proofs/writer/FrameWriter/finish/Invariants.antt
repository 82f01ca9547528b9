use Rattle.std.proofs.Common.{◌≡◌, ◌+◌, ◌-◌, ◌∷◌, ◌++◌, length, take}
use Rattle.std.specs.Prelude.{replicate}
use Rattle.formatter_frames.specs.declared.symbol.Symbol.TheVariants.{NewId, Data}
use Rattle.formatter_frames.proofs.writer.FrameWriter.finish.Given as goal

-- the places that are filled
abbrev pub invariant-loop-place : goal.invariant-loop-place
invariant-loop-place g l = record {
  size : length l.symbols ≡ 15;
  filled : take l.place l.symbols ≡ l.fn.self.symbols ++ NewId 0 ∷ replicate (l.place - (length l.fn.self.symbols + 1)) (Data 0);
}
