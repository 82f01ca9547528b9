use Rattle.std.proofs.Common.{length}
use Rattle.program_image.proofs.Tables.{Tabled}
use Rattle.program_image.proofs.run_table.table.Given as goal

abbrev pub invariant-loop-part : goal.invariant-loop-part
invariant-loop-part l = Tabled l.parts l.rest l.table.items l.start l.run

abbrev pub decreases-loop-part : goal.decreases-loop-part
decreases-loop-part l = length l.rest
