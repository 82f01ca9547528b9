use Rattle.std.proofs.Common.{◌≡◌, None, refl, sym, ap, subst, ◌∙◌}
use Rattle.stream_decoder.specs.Decoding.{AtRest, Decoding}
use Rattle.stream_decoder.specs.Follows.{Follows}
use Rattle.stream_decoder.specs.Yields.{items_of_found}
use Rattle.stream_decoder.proofs.Coming.{none_due}
use Rattle.stream_decoder.proofs.Following.{follows_all, follows_first, follows_on}
use Rattle.stream_decoder.proofs.Stepping.{nothing_left}
use Rattle.stream_decoder.proofs.Yielding.{ends_at_rest}
use Rattle.stream_decoder.proofs.follower.follow_rest.Given.{Over}
use Rattle.stream_decoder.proofs.follower.follow_rest.Goals.{After-follow_atoms}
use Rattle.stream_decoder.proofs.follower.follow_rest.Goals as goal

pub loop-id-init : goal.loop-id-init
loop-id-init g c =
    let image = c.args.image.now in let takes = g.F.Follower.takes image c.args.id in
    record {
      follows = follows_first takes (g.met.F.Follower.takes_none image c.args.id) (g.met.F.Follower.takes_joined image c.args.id) image
          c.args.decoding.now c.args.follower.now;
      stopped = λ done. (refl, refl);
      holds = c.requires.holds;
    }

-- what was followed so far, with what went the fast way
so_far : (g : Over) (c : After-follow_atoms g)
    → Follows (g.F.Follower.takes c.args.image.now c.args.id) c.args.image.now c.args.decoding.now c.follow_atoms.new.decoding
    c.args.follower.now c.follow_atoms.new.follower
so_far g c =
    let image = c.args.image.now in let id = c.args.id in
    follows_on (g.F.Follower.takes image id) (g.met.F.Follower.takes_none image id) (g.met.F.Follower.takes_joined image id) image
    c.args.decoding.now c.loop-id.decoding c.follow_atoms.new.decoding c.args.follower.now c.loop-id.follower c.follow_atoms.new.follower
    c.loop-id.invariant.follows c.follow_atoms.ensures.follows

pub returns-then-is_at_rest-clause-follows : goal.returns-then-is_at_rest-clause-follows
returns-then-is_at_rest-clause-follows g c unmet =
    let image = c.args.image.now in let id = c.args.id in let m = c.follow_atoms.new.decoding in
    let before = so_far g (goal.at.returns-then-is_at_rest-clause-follows g c).After-follow_atoms in
    let done = c.is_at_rest-in-loop-id.ensures.rest.0 c.if-is_at_rest.true in
    let whole : m.fault ≡ None = ap (λ (x : Decoding). x.fault) before.goes.rest ∙ unmet in
    follows_all (g.F.Follower.takes image id) (g.met.F.Follower.takes_none image id) (g.met.F.Follower.takes_joined image id) image
    c.args.decoding.now m m c.args.follower.now c.follow_atoms.new.follower before
    (ends_at_rest image m whole (sym (none_due m done.due c.is_at_rest-in-loop-id.ensures.holds.range.committed)) done)

-- behind what is at rest nothing was done
pub returns-then-is_at_rest-clause-stopped : goal.returns-then-is_at_rest-clause-stopped
returns-then-is_at_rest-clause-stopped g c done =
    let was = (c.loop-id.invariant.stopped done).0 in
    absurd (nothing_left c.loop-id.decoding (subst AtRest (sym was) done) (c.is_at_rest.ensures.left c.loop-id-test.true))

pub returns-then-is_at_rest-clause-reader : goal.returns-then-is_at_rest-clause-reader
returns-then-is_at_rest-clause-reader g c =
    ap (λ (d : Decoding). d.reader) (so_far g (goal.at.returns-then-is_at_rest-clause-reader g c).After-follow_atoms).goes.rest

pub returns-in_default-clause-follows : goal.returns-in_default-clause-follows
returns-in_default-clause-follows g c unmet =
    let image = c.args.image.now in let id = c.args.id in let m = c.follow_atoms.new.decoding in
    let before = so_far g (goal.at.returns-in_default-clause-follows g c).After-follow_atoms in
    let whole : m.fault ≡ None = ap (λ (x : Decoding). x.fault) before.goes.rest ∙ unmet in
    follows_all (g.F.Follower.takes image id) (g.met.F.Follower.takes_none image id) (g.met.F.Follower.takes_joined image id) image
    c.args.decoding.now m c.next.new.self c.args.follower.now c.follow_atoms.new.follower before (c.next.ensures.ends c.in_default.is whole)

pub returns-in_default-clause-stopped : goal.returns-in_default-clause-stopped
returns-in_default-clause-stopped g c done =
    let was = (c.loop-id.invariant.stopped done).0 in
    absurd (nothing_left c.loop-id.decoding (subst AtRest (sym was) done) (c.is_at_rest.ensures.left c.loop-id-test.true))

pub returns-in_default-clause-reader : goal.returns-in_default-clause-reader
returns-in_default-clause-reader g c =
    c.next.ensures.reader ∙ ap (λ (d : Decoding). d.reader) (so_far g (goal.at.returns-in_default-clause-reader g c).After-follow_atoms).goes.rest

pub loop-id-preserved : goal.loop-id-preserved
loop-id-preserved g c =
    let image = c.args.image.now in let id = c.args.id in let m = c.follow_atoms.new.decoding in
    let before = so_far g (goal.at.loop-id-preserved g c).After-follow_atoms in
    record {
      follows = follows_on (g.F.Follower.takes image id) (g.met.F.Follower.takes_none image id) (g.met.F.Follower.takes_joined image id) image
          c.args.decoding.now m c.next.new.self c.args.follower.now c.follow_atoms.new.follower c.follow_found.new.follower before (record {
            items = items_of_found c.in-Some.found;
            goes = c.next.ensures.found c.in-Some.found c.in-Some.is;
            takes = c.follow_found.ensures.takes;
          });
      stopped = λ done.
          let was = (c.loop-id.invariant.stopped done).0 in
          absurd (nothing_left c.loop-id.decoding (subst AtRest (sym was) done) (c.is_at_rest.ensures.left c.loop-id-test.true));
      holds = c.next.ensures.holds;
    }

pub returns-clause-follows : goal.returns-clause-follows
returns-clause-follows g c unmet =
    let image = c.args.image.now in let id = c.args.id in let here = c.loop-id.decoding in
    let done = c.is_at_rest.ensures.rest.0 c.loop-id-test.false in
    let whole : here.fault ≡ None = ap (λ (x : Decoding). x.fault) c.loop-id.invariant.follows.goes.rest ∙ unmet in
    follows_all (g.F.Follower.takes image id) (g.met.F.Follower.takes_none image id) (g.met.F.Follower.takes_joined image id) image
    c.args.decoding.now here here c.args.follower.now c.loop-id.follower c.loop-id.invariant.follows
    (ends_at_rest image here whole (sym (none_due here done.due c.is_at_rest.ensures.holds.range.committed)) done)

pub returns-clause-reader : goal.returns-clause-reader
returns-clause-reader g c = ap (λ (d : Decoding). d.reader) c.loop-id.invariant.follows.goes.rest
