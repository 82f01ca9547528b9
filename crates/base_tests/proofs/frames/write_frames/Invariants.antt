use Rattle.std.proofs.Common.{◌≡◌, false}
use Rattle.base_tests.proofs.frames.write_frames.Given as goal

abbrev pub invariant-loop-id : goal.invariant-loop-id
invariant-loop-id l = l.writer.failed ≡ false
