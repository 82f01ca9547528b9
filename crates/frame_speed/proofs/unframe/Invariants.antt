use Rattle.std.proofs.Common.{◌≤◌, IfSome}
use Rattle.frame_speed.proofs.unframe.Given as goal

abbrev pub invariant-loop : goal.invariant-loop
invariant-loop l = IfSome l.current (λ id. id ≤ 127)
