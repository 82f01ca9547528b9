use Rattle.std.proofs.Common.{◌≤◌, IfSome, length}
use Rattle.frame_cases.proofs.main.Given as goal

abbrev pub invariant-loop-rest : goal.invariant-loop-rest
invariant-loop-rest l = IfSome l.current (λ id. id ≤ 127)

abbrev pub decreases-loop-rest : goal.decreases-loop-rest
decreases-loop-rest l = length l.rest
