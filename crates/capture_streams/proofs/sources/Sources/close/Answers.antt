use Rattle.std.proofs.Common.{sym, subst}
use Rattle.capture_streams.specs.Streams.{AllStand}
use Rattle.capture_streams.proofs.Sums.{sum_written}
use Rattle.capture_streams.proofs.sources.Sources.close.Goals as goal

pub returns-clause-sum : goal.returns-clause-sum
returns-clause-sum g c t pairs given =
    let state = g.K.Sink.state in let shared = c.args.shared.now in let sums = g.S.Stream.sums shared in let listing = g.S.Stream.listing shared in
    let all = subst (λ w. AllStand (g.S.Stream.stands shared) g.S.Stream.sizes sums listing t w pairs) (sym c.self.view_is) given in
    sum_written sums listing t c.self.inside.sum pairs (state c.args.sink.now) (state c.write_sum.new.sink) c.write_sum.result all.sum
    c.write_sum.ensures.lines
