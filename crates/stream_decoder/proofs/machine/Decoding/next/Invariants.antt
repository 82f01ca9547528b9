use Rattle.std.proofs.Common.{◌≡◌, ◌≤◌, []}
use Rattle.stream_decoder.specs.Decoding.{AtRest}
use Rattle.stream_decoder.specs.Yields.{Goes, left}
use Rattle.stream_decoder.proofs.machine.Decoding.next.Given as goal

abbrev pub decreases-loop-self : goal.decreases-loop-self
decreases-loop-self l = left l.self

abbrev pub invariant-loop-self : goal.invariant-loop-self
invariant-loop-self l =
    record {
      goes : Goes l.image l.fn.self [] l.self;
      fewer : left l.self ≤ left l.fn.self;
      rest : AtRest l.fn.self → l.self ≡ l.fn.self;
    }
