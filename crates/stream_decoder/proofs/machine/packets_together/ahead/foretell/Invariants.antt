use Rattle.std.proofs.Common.{length}
use Rattle.stream_decoder.proofs.AheadMoves.{IsTried}
use Rattle.stream_decoder.proofs.machine.packets_together.ahead.foretell.Given as goal

abbrev pub invariant-loop-outlook : goal.invariant-loop-outlook
invariant-loop-outlook l = IsTried l.fn.outlook l.bytes l.most l.outlook l.last l.rest

abbrev pub decreases-loop-outlook : goal.decreases-loop-outlook
decreases-loop-outlook l = length l.rest
