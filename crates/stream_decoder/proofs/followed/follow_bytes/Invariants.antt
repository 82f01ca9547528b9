use Rattle.std.proofs.Common.{◌≡◌, ◌≢◌, None, length}
use Rattle.stream_decoder.proofs.FollowedRuns.{FollowedFront}
use Rattle.stream_decoder.specs.Decoding.{AtRest, IsDecoding}
use Rattle.stream_decoder.proofs.followed.follow_bytes.Given as goal

abbrev pub invariant-loop-behind : goal.invariant-loop-behind
invariant-loop-behind g l = record {
  follows : FollowedFront (g.F.Follower.takes l.image l.id) (g.met.F.Follower.takes_none l.image l.id) (g.met.F.Follower.takes_joined l.image l.id) l.image l.fn.decoding l.run l.rest l.decoding l.fn.follower l.follower;
  stopped : l.fn.decoding.fault ≢ None → (l.decoding ≡ record (l.fn.decoding) { reader = l.decoding.reader }) × (l.follower ≡ l.fn.follower);
  rest : AtRest l.decoding;
  holds : IsDecoding l.decoding;
}

abbrev pub decreases-loop-behind : goal.decreases-loop-behind
decreases-loop-behind g l = length l.rest
