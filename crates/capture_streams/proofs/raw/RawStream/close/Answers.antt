use Rattle.std.proofs.Common.{sym, subst}
use Rattle.capture_streams.specs.Demuxed.{RawStandsAt, raw_pairs}
use Rattle.capture_streams.proofs.Sums.{sum_written}
use Rattle.capture_streams.proofs.raw.RawStream.close.Goals as goal

pub returns-clause-sum : goal.returns-clause-sum
returns-clause-sum g c t bytes given =
    let state = g.K.Sink.state in let shared = c.args.shared.now in let sums = g.S.Stream.sums shared in let listing = g.S.Stream.listing shared in
    let stands = subst (λ r. RawStandsAt (g.S.Stream.stands shared) g.S.Stream.sizes g.S.Stream.broken g.S.Stream.offset sums listing t r bytes)
    (sym c.self.view_is) given in
    sum_written sums listing t c.self.inside.sum (raw_pairs bytes) (state c.args.sink.now) (state c.write_sum.new.sink) c.write_sum.result stands.sum
    c.write_sum.ensures.lines
