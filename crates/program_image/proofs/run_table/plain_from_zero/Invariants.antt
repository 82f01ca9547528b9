use Rattle.std.proofs.Common.{◌-◌}
use Rattle.program_image.specs.Blocks.{IsPlainRun}
use Rattle.program_image.specs.Part.{total}
use Rattle.program_image.proofs.run_table.plain_from_zero.Given as goal

abbrev pub invariant-loop-run : goal.invariant-loop-run
invariant-loop-run l = IsPlainRun l.parts 0 l.run

abbrev pub decreases-loop-run : goal.decreases-loop-run
decreases-loop-run l = total l.parts - l.run
