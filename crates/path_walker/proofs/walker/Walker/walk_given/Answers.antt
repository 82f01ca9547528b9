use Rattle.std.proofs.Common.{◌≤◌, arith, refl}
use Rattle.path_walker.proofs.Together.{into_more}
use Rattle.path_walker.proofs.walker.Walker.walk_given.Goals as goal

pub returns-clause-walks : goal.returns-clause-walks
returns-clause-walks g c =
    let taker = g.T.StretchTaker in let law = g.met.T.StretchTaker in let image = c.args.image.now in let id = c.args.id in
    let some : 1 ≤ c.args.most = omega (arith, c.if-most-eq0.false) in
    into_more (taker.adds image id) (law.none image id) (law.joins image id) taker.space taker.begun image c.args.self.now c.walk_other.new.self
    c.args.given 1 c.args.most c.args.bits 1 c.args.taker.now c.walk_other.new.taker some
    (c.if-not-walk_other.ensures.walks.walks refl)
