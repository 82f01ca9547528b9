use Rattle.std.proofs.Common.{refl, arith, ◌∙◌}
use Rattle.stream_decoder.proofs.Along.{still_met, stopped_more}
use Rattle.stream_decoder.proofs.FollowedRuns.{front_all, front_first, front_on, front_taken, less_behind}
use Rattle.stream_decoder.proofs.followed.follow_bytes.Goals as goal

pub loop-behind-init : goal.loop-behind-init
loop-behind-init g c = record {
  follows = front_first (g.F.Follower.takes c.args.image.now c.args.id) (g.met.F.Follower.takes_none c.args.image.now c.args.id)
      (g.met.F.Follower.takes_joined c.args.image.now c.args.id) c.args.image.now c.args.decoding.now c.args.run.now c.args.follower.now;
  stopped = λ met. (refl, refl);
  rest = c.requires.rest;
  holds = c.requires.holds;
}

pub follow_front-requires-clause-few : goal.follow_front-requires-clause-few
follow_front-requires-clause-few g c =
    let image = c.args.image.now in let l = c.loop-behind in
    omega (
      arith,
      c.requires.few,
      front_taken (g.F.Follower.takes image c.args.id) (g.met.F.Follower.takes_none image c.args.id)
          (g.met.F.Follower.takes_joined image c.args.id) image c.args.decoding.now l.decoding c.args.run.now l.rest.now c.args.follower.now l.follower
          l.invariant.follows,
    )

pub follow_front-requires-clause-rest : goal.follow_front-requires-clause-rest
follow_front-requires-clause-rest g c = c.loop-behind.invariant.rest

pub follow_front-requires-clause-holds : goal.follow_front-requires-clause-holds
follow_front-requires-clause-holds g c = c.loop-behind.invariant.holds

pub loop-behind-smaller : goal.loop-behind-smaller
loop-behind-smaller g c =
    let image = c.args.image.now in let l = c.loop-behind in
    less_behind (g.F.Follower.takes image c.args.id) (g.met.F.Follower.takes_none image c.args.id)
    (g.met.F.Follower.takes_joined image c.args.id) image l.decoding c.follow_front.new.decoding l.rest.now c.in-Some.behind.now l.follower
    c.follow_front.new.follower c.in-Some.ensures.follows

pub loop-behind-preserved : goal.loop-behind-preserved
loop-behind-preserved g c =
    let image = c.args.image.now in let d = c.args.decoding.now in let l = c.loop-behind in let i = l.invariant in
    let n = c.follow_front.new.decoding in let f = c.in-Some.ensures in
    record {
      follows = front_on (g.F.Follower.takes image c.args.id) (g.met.F.Follower.takes_none image c.args.id)
          (g.met.F.Follower.takes_joined image c.args.id) image d l.decoding c.args.run.now l.rest.now c.args.follower.now l.follower i.follows n
          c.in-Some.behind.now c.follow_front.new.follower f.follows;
      stopped = λ met.
          let before = i.stopped met in let now = f.stopped (still_met d l.decoding before.0 met) in
          (stopped_more d l.decoding n n before.0 now.0 refl, now.1 ∙ before.1);
      rest = f.rest;
      holds = f.holds;
    }

pub returns-clause-follows : goal.returns-clause-follows
returns-clause-follows g c =
    let image = c.args.image.now in let l = c.loop-behind in let none = c.in_default.ensures.none refl in
    rw none.1 (front_all (g.F.Follower.takes image c.args.id) (g.met.F.Follower.takes_none image c.args.id)
    (g.met.F.Follower.takes_joined image c.args.id) image c.args.decoding.now l.decoding c.args.run.now l.rest.now c.args.follower.now
    l.follower l.invariant.follows none.0 c.follow_front.new.follower none.2)

pub returns-clause-stopped : goal.returns-clause-stopped
returns-clause-stopped g c met =
    let d = c.args.decoding.now in let l = c.loop-behind in let before = l.invariant.stopped met in let n = c.follow_front.new.decoding in
    let now = c.in_default.ensures.stopped (still_met d l.decoding before.0 met) in
    (stopped_more d l.decoding n n before.0 now.0 refl, now.1 ∙ before.1)
