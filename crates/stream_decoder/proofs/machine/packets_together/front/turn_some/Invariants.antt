use Rattle.std.proofs.Common.{◌≤◌, ◌-◌}
use Rattle.stream_decoder.proofs.Turning.{IsTurned}
use Rattle.stream_decoder.proofs.machine.packets_together.front.turn_some.Given as goal

abbrev pub invariant-loop-n : goal.invariant-loop-n
invariant-loop-n g l =
    record {
      turned : IsTurned (g.T.StretchTaker.adds l.image l.id l.fn.walker.ctx) l.image l.fn.waiting l.fn.walker l.fn.front.elements l.fn.taker l.n l.waiting
          l.walker l.taker l.front.elements;
      within : l.n ≤ l.most;
    }

abbrev pub decreases-loop-n : goal.decreases-loop-n
decreases-loop-n g l = l.most - l.n
