use Rattle.std.proofs.Common.{◌≡◌, false}
use Rattle.frame_speed.proofs.frame.Given as goal

abbrev pub invariant-loop-number : goal.invariant-loop-number
invariant-loop-number l = l.writer.failed ≡ false
