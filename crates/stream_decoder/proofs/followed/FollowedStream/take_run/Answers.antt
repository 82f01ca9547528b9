use Rattle.std.proofs.Common.{subst}
use Rattle.etm_types.specs.Settings.{AreSettings}
use Rattle.stream_decoder.specs.Decoding.{Decoding}
use Rattle.stream_decoder.specs.Follows.{FollowsRun}
use Rattle.stream_decoder.proofs.FollowedRuns.{run_grows, run_stands}
use Rattle.stream_decoder.proofs.followed.FollowedStream.take_run.Goals as goal

pub returns-clause-stands : goal.returns-clause-stands
returns-clause-stands g c bytes came =
    let image = c.args.image.now in let takes = g.F.Follower.takes image c.args.id in let none = g.met.F.Follower.takes_none image c.args.id in
    let joins = g.met.F.Follower.takes_joined image c.args.id in let run = c.args.run.now in let d' = c.follow_bytes.new.decoding in
    let old = c.args.follower.now in let new = c.follow_bytes.new.follower in
    let follows = subst (λ (d : Decoding). FollowsRun takes image d run d' old new) c.self.view_is c.follow_bytes.ensures.follows in
    run_stands takes none joins image c.args.self.now d' run old new follows bytes came

pub returns-clause-grows : goal.returns-clause-grows
returns-clause-grows g c bytes came =
    let image = c.args.image.now in let takes = g.F.Follower.takes image c.args.id in let none = g.met.F.Follower.takes_none image c.args.id in
    let joins = g.met.F.Follower.takes_joined image c.args.id in let run = c.args.run.now in let d' = c.follow_bytes.new.decoding in
    let old = c.args.follower.now in let new = c.follow_bytes.new.follower in
    let follows = subst (λ (d : Decoding). FollowsRun takes image d run d' old new) c.self.view_is c.follow_bytes.ensures.follows in
    let are = subst (λ (d : Decoding). AreSettings d.reader.settings) c.self.view_is c.self.invariant.0.reads.settings in
    run_grows takes none joins image c.args.self.now d' run old new follows bytes came are
