use Rattle.stream_decoder.specs.Yields.{WalksOn}
use Rattle.stream_decoder.proofs.LettingGo.{walks_nowhere, walks_on}
use Rattle.stream_decoder.proofs.machine.Decoding.walk_held.Given.{Over}
use Rattle.stream_decoder.proofs.machine.Decoding.walk_held.Goals.{After-walk_some}
use Rattle.stream_decoder.proofs.machine.Decoding.walk_held.Goals as goal

pub loop-id-init : goal.loop-id-init
loop-id-init g c =
    let d = c.args.self.now in let image = c.args.image.now in
    record {
      walks = walks_nowhere (g.T.StretchTaker.adds image c.args.id d.walk.ctx) image d c.args.taker.now
          (g.met.T.StretchTaker.none image c.args.id d.walk.ctx c.args.taker.now);
      holds = c.requires.holds;
    }

-- what was walked so far, and now
more : (g : Over) (c : After-walk_some g)
    → WalksOn (g.T.StretchTaker.adds c.args.image.now c.args.id c.args.self.now.walk.ctx) c.args.image.now c.args.self.now c.args.taker.now
    c.walk_some.new.self c.walk_some.new.taker
more g c =
    let image = c.args.image.now in let id = c.args.id in
    walks_on (g.T.StretchTaker.adds image id) (g.met.T.StretchTaker.joins image id) image c.args.self.now c.loop-id.self c.walk_some.new.self
    c.args.taker.now c.loop-id.taker c.walk_some.new.taker c.loop-id.invariant.walks c.walk_some.ensures.walks

pub loop-id-preserved : goal.loop-id-preserved
loop-id-preserved g c =
    record { walks = more g (goal.at.loop-id-preserved g c).After-walk_some; holds = c.walk_some.ensures.holds }

pub returns-clause-walks : goal.returns-clause-walks
returns-clause-walks g c = more g (goal.at.returns-clause-walks g c).After-walk_some

pub returns-clause-holds : goal.returns-clause-holds
returns-clause-holds g c = c.walk_some.ensures.holds
