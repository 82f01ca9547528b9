use Rattle.std.proofs.Common.{◌≡◌, ◌+◌, length}
use Rattle.path_text.specs.Lines.{decimal}
use Rattle.path_text.proofs.digits.decimal_count.Given as goal

abbrev pub invariant-loop-rest : goal.invariant-loop-rest
invariant-loop-rest l = l.count + length (decimal l.rest) ≡ length (decimal l.n)

abbrev pub decreases-loop-rest : goal.decreases-loop-rest
decreases-loop-rest l = l.rest
