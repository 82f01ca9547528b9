use Rattle.stream_decoder.proofs.LettingGo.{walks_nowhere}
use Rattle.stream_decoder.proofs.machine.Decoding.walk_some.Goals as goal

pub returns-clause-walks : goal.returns-clause-walks
returns-clause-walks g c =
    let image = c.args.image.now in let d = c.args.self.now in
    walks_nowhere (g.T.StretchTaker.adds image c.args.id d.walk.ctx) image d c.args.taker.now
    (g.met.T.StretchTaker.none image c.args.id d.walk.ctx c.args.taker.now)
