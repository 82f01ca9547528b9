use Rattle.std.proofs.Common.{refl, sym, subst}
use Rattle.capture_streams.specs.Demuxed.{RawStandsAt, raw_pairs}
use Rattle.capture_streams.specs.Texts.{text_of}
use Rattle.path_text.proofs.Wrote.{wrote_by}
use Rattle.capture_streams.proofs.RawStreams.{raw_ends, raw_sum_fails}
use Rattle.capture_streams.proofs.Sums.{sum_written}
use Rattle.capture_streams.proofs.raw.RawStream.finish.Goals as goal

pub returns-in-Err-clause-ending : goal.returns-in-Err-clause-ending
returns-in-Err-clause-ending g c t bytes given =
    let state = g.K.Sink.state in let shared = c.args.shared.now in let sizes = g.S.Stream.sizes in
    let sums = g.S.Stream.sums shared in let listing = g.S.Stream.listing shared in
    let stands = subst (λ r. RawStandsAt (g.S.Stream.stands shared) sizes g.S.Stream.broken g.S.Stream.offset sums listing t r bytes)
    (sym c.self.view_is) given in
    let (lines, summed, writes) = sum_written sums listing t c.self.inside.sum (raw_pairs bytes) (state c.args.sink.now) (state c.write_sum.new.sink) _
    stands.sum c.in-Err.ensures.lines in
    let ends = c.abandon.ensures.ends shared 1 bytes stands.stand in
    raw_sum_fails listing (sizes c.self.inside.stream) t 1 bytes lines ends.0 ends.1 (state c.args.sink.now) (state c.write_sum.new.sink) c.in-Err.failed
    refl stands.same summed writes ends.2

pub returns-clause-ending : goal.returns-clause-ending
returns-clause-ending g c t bytes given =
    let state = g.K.Sink.state in let shared = c.args.shared.now in let sizes = g.S.Stream.sizes in
    let sums = g.S.Stream.sums shared in let listing = g.S.Stream.listing shared in
    let stands = subst (λ r. RawStandsAt (g.S.Stream.stands shared) sizes g.S.Stream.broken g.S.Stream.offset sums listing t r bytes)
    (sym c.self.view_is) given in
    let (lines, summed, writes) = sum_written sums listing t c.self.inside.sum (raw_pairs bytes) (state c.args.sink.now) (state c.write_sum.new.sink) _
    stands.sum c.in_default.ensures.lines in
    let ends = c.finish.ensures.ends shared bytes stands.stand in
    raw_ends listing (sizes c.self.inside.stream) t c.raw_id.result bytes lines ends.0 ends.1 (state c.args.sink.now) (state c.write_sum.new.sink)
    (state c.finish.new.sink) c.finish.result c.raw_id.ensures stands.same summed
    (wrote_by (state c.args.sink.now) (state c.write_sum.new.sink) tt (text_of lines) writes) ends.2 ends.3 ends.4
