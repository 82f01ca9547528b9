use Rattle.std.proofs.Common.{◌≡◌, ◌+◌, ◌++◌, ◌≤◌, length, take, drop}
use Rattle.path_text.specs.Lines.{hex}
use Rattle.path_text.proofs.digits.put_hex.Given as goal

abbrev pub invariant-loop-rest : goal.invariant-loop-rest
invariant-loop-rest l = record {
  len : length l.text ≡ length l.fn.text;
  within : l.at ≤ l.end;
  place : l.at + length (hex l.n) ≡ length (hex l.rest) + l.end;
  before : take l.at l.text ≡ take l.at l.fn.text;
  so_far : hex l.rest ++ drop l.at l.text ≡ hex l.n ++ drop l.end l.fn.text;
}

abbrev pub decreases-loop-rest : goal.decreases-loop-rest
decreases-loop-rest l = l.rest
