use Rattle.std.proofs.Common.{◌≡◌, length}
use Rattle.stream_decoder.proofs.JoinedRuns.{RunsMaybe}
use Rattle.stream_decoder.specs.AtomPackets.{PassesAtoms}
use Rattle.stream_decoder.specs.Decoding.{IsDecoding}
use Rattle.stream_decoder.proofs.machine.Decoding.run_addressed.Given as goal

abbrev pub invariant-loop-behind : goal.invariant-loop-behind
invariant-loop-behind g l =
    record {
      runs : RunsMaybe (g.T.StretchTaker.adds l.image l.id (l.fn.self.walk).ctx) l.image l.fn.self l.fn.taker l.bytes l.self l.taker l.rest;
      passes : PassesAtoms l.self;
      holds : IsDecoding l.self;
      context : (l.self.walk).ctx ≡ (l.fn.self.walk).ctx;
    }

abbrev pub decreases-loop-behind : goal.decreases-loop-behind
decreases-loop-behind g l = length l.rest
