use Rattle.std.proofs.Common.{◌≡◌}
use Rattle.stream_decoder.specs.Decoding.{AtRest, IsDecoding}
use Rattle.stream_decoder.specs.Follows.{Follows}
use Rattle.stream_decoder.specs.Yields.{left}
use Rattle.stream_decoder.proofs.follower.follow_rest.Given as goal

abbrev pub decreases-loop-id : goal.decreases-loop-id
decreases-loop-id g l = left l.decoding

abbrev pub invariant-loop-id : goal.invariant-loop-id
invariant-loop-id g l = record {
  follows : Follows (g.F.Follower.takes l.image l.id) l.image l.fn.decoding l.decoding l.fn.follower l.follower;
  stopped : AtRest l.fn.decoding → (l.decoding ≡ l.fn.decoding) × (l.follower ≡ l.fn.follower);
  holds : IsDecoding l.decoding;
}
