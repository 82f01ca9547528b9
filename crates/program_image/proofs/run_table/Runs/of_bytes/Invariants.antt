use Rattle.std.proofs.Common.{length}
use Rattle.program_image.proofs.Tables.{Counted}
use Rattle.program_image.proofs.run_table.Runs.of_bytes.Given as goal

abbrev pub invariant-loop-before : goal.invariant-loop-before
invariant-loop-before l = Counted l.bytes l.rest l.of_words.items l.fn.next l.run

abbrev pub decreases-loop-before : goal.decreases-loop-before
decreases-loop-before l = length l.rest
