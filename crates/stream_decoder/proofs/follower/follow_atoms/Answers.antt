use Rattle.path_walker.specs.Walk.{items_in}
use Rattle.stream_decoder.proofs.follower.follow_atoms.Goals as goal

pub returns-clause-follows : goal.returns-clause-follows
returns-clause-follows g c =
    let image = c.args.image.now in let d = c.args.decoding.now in let walks = c.next_run.ensures.walks in
    record {
      items = items_in d.walk.ctx walks.added;
      goes = walks.goes;
      takes = g.met.F.Follower.shows image c.args.id d.walk.ctx c.args.follower.now c.next_run.new.taker walks.added walks.takes;
    }
