use Rattle.std.proofs.Common.{◌++◌, sym, ap, subst, ◌∙◌}
use Rattle.std.specs.Prelude.{All}
use Rattle.std.specs.List.{range_with_len}
use Rattle.capture_streams.specs.Streams.{AllStand, IsReady, Summed}
use Rattle.capture_streams.specs.Texts.{EndsOf, by_sizes, text_of}
use Rattle.path_text.proofs.Wrote.{fails_first, then_writes, wrote_by}
use Rattle.capture_streams.proofs.Bodies.{text_of-append}
use Rattle.capture_streams.proofs.Ending.{all_sources}
use Rattle.capture_streams.proofs.Sums.{sum_written}
use Rattle.capture_streams.proofs.sources.Sources.finish.Goals as goal

pub returns-in-Err-clause-ends : goal.returns-in-Err-clause-ends
returns-in-Err-clause-ends g c t pairs given =
    let state = g.K.Sink.state in let shared = c.args.shared.now in let sums = g.S.Stream.sums shared in let listing = g.S.Stream.listing shared in
    let all = subst (λ w. AllStand (g.S.Stream.stands shared) g.S.Stream.sizes sums listing t w pairs) (sym c.self.view_is) given in
    let (lines, summed, writes) = sum_written sums listing t c.self.inside.sum pairs (state c.args.sink.now) (state c.write_sum.new.sink) _ all.sum
    c.in-Err.ensures.lines in
    let (ends, faulty, others) = c.abandon_all.ensures.ends shared t pairs 1 all.each in (
      lines,
      summed,
      ends,
      faulty,
      all_sources (by_sizes listing t) pairs c.self.inside.ring.items ends faulty all.count others,
      fails_first (state c.args.sink.now) (state c.write_sum.new.sink) c.in-Err.failed c.in-Err.failed (text_of lines) (text_of ends)
          (text_of (lines ++ ends)) (sym (text_of-append lines ends)) writes,
      tt,
    )

pub returns-clause-ends : goal.returns-clause-ends
returns-clause-ends g c t pairs given =
    let state = g.K.Sink.state in let shared = c.args.shared.now in let sums = g.S.Stream.sums shared in let listing = g.S.Stream.listing shared in
    let all = subst (λ w. AllStand (g.S.Stream.stands shared) g.S.Stream.sizes sums listing t w pairs) (sym c.self.view_is) given in
    let (lines, summed, writes) = sum_written sums listing t c.self.inside.sum pairs (state c.args.sink.now) (state c.write_sum.new.sink) _ all.sum
    c.in_default.ensures.lines in
    let (ends, faulty, others, written, whole) = c.finish_all.ensures.ends shared t pairs all.each in (
      lines,
      summed,
      ends,
      faulty,
      others,
      then_writes (state c.args.sink.now) (state c.write_sum.new.sink) (state c.finish_all.new.sink) c.finish_all.result (text_of lines) (text_of ends)
          (text_of (lines ++ ends)) (sym (text_of-append lines ends))
          (wrote_by (state c.args.sink.now) (state c.write_sum.new.sink) tt (text_of lines) writes) written,
      whole,
    )

pub finish_all-requires-clause-ready : goal.finish_all-requires-clause-ready
finish_all-requires-clause-ready g c = (
  c.requires.0,
  subst (λ (w : Summed g.row.S.Denot g.row.S-Sum.Denot). All (IsReady g.S.Stream.broken g.S.Stream.offset c.requires.0) w.streams)
      (sym c.self.view_is) c.requires.1,
)
