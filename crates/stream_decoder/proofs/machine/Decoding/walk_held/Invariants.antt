use Rattle.stream_decoder.specs.Decoding.{IsDecoding}
use Rattle.stream_decoder.specs.Yields.{WalksOn, left}
use Rattle.stream_decoder.proofs.machine.Decoding.walk_held.Given as goal

abbrev pub decreases-loop-id : goal.decreases-loop-id
decreases-loop-id g l = left l.self

abbrev pub invariant-loop-id : goal.invariant-loop-id
invariant-loop-id g l =
    record {
      walks : WalksOn (g.T.StretchTaker.adds l.image l.id l.fn.self.walk.ctx) l.image l.fn.self l.fn.taker l.self l.taker;
      holds : IsDecoding l.self;
    }
