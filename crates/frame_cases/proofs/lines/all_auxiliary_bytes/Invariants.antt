use Rattle.std.proofs.Common.{◌*◌, ◌≤◌}
use Rattle.frame_cases.proofs.lines.all_auxiliary_bytes.Given as goal

abbrev pub invariant-loop-auxiliary : goal.invariant-loop-auxiliary
invariant-loop-auxiliary l = l.count ≤ 15 * l.auxiliary
