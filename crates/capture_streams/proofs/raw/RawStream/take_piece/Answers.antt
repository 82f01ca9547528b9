use Rattle.std.proofs.Common.{◌≡◌, ◌+◌, ◌++◌, length, sym, subst, ◌∙◌, arith, length-append}
use Rattle.capture_streams.specs.Demuxed.{RawStandsAt}
use Rattle.capture_streams.proofs.RawStreams.{raw_run, raw_sums}
use Rattle.capture_streams.proofs.Standing.{whole_where_ok}
use Rattle.capture_streams.proofs.raw.RawStream.take_piece.Goals as goal

pub returns-clause-stands : goal.returns-clause-stands
returns-clause-stands g c t bytes stands ok =
    let shared = c.args.shared.now in let sizes = g.S.Stream.sizes in let sums = g.S.Stream.sums shared in let listing = g.S.Stream.listing shared in
    let stand_at = RawStandsAt (g.S.Stream.stands shared) sizes g.S.Stream.broken g.S.Stream.offset sums listing in
    let there = subst (λ r. stand_at t r bytes) (sym c.self.view_is) stands in
    record {
      whole = whole_where_ok (g.S.Stream.broken c.take_run.new.self) c.take_run.result ok c.take_run.ensures.broken;
      count = c.take_run.ensures.offset ok ∙ omega (arith, there.count, length-append bytes c.args.piece.now);
      stand = c.take_run.ensures.stands ok bytes there.stand;
      same = c.take_run.ensures.sizes ∙ there.same;
      sum = raw_sums sums listing (sizes c.self.inside.stream) t c.raw_id.result bytes c.args.piece.now c.self.inside.sum c.take_run.new.sum
          c.raw_id.ensures there.same (c.take_run.ensures.adds ok bytes there.stand) there.sum;
    }

pub returns-clause-gains : goal.returns-clause-gains
returns-clause-gains g c t bytes stands =
    let state = g.K.Sink.state in let shared = c.args.shared.now in
    let stand_at = RawStandsAt (g.S.Stream.stands shared) g.S.Stream.sizes g.S.Stream.broken g.S.Stream.offset (g.S.Stream.sums shared) (g.S.Stream.listing shared) in
    let there = subst (λ r. stand_at t r bytes) (sym c.self.view_is) stands in
    raw_run (g.S.Stream.listing shared) (g.S.Stream.sizes c.self.inside.stream) t c.raw_id.result bytes c.args.piece.now
    (state c.args.sink.now) (state c.take_run.new.sink) c.take_run.result c.raw_id.ensures there.same (c.take_run.ensures.gains bytes there.stand)
