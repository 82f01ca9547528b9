use Rattle.std.proofs.Common.{[], sym, ap, subst}
use Rattle.capture_streams.proofs.Runs.{run_added}
use Rattle.etm_types.specs.Settings.{Sizes}
use Rattle.path_text.proofs.Wrote.{wrote_nothing}
use Rattle.stream_decoder.specs.Decoding.{Decoding}
use Rattle.stream_decoder.specs.Follows.{CameTo, GrowsByEach}
use Rattle.count_streams.proofs.RunsOfBytes.{items_added, no_lines}
use Rattle.count_streams.specs.Counted.{counted}
use Rattle.count_streams.proofs.count_stream.CountStreamStream.take_run.Goals as goal

pub returns-clause-gains : goal.returns-clause-gains
returns-clause-gains g c bytes came =
    let image = c.args.image.now in let s = c.args.self.now.reader.settings in let run = c.args.run.now in let here = g.K.Sink.state c.args._sink.now in
    run_added (counted image s) c.args.id bytes run here here tt
    (record { lines = []; body = no_lines image s c.args.id bytes run; wrote = wrote_nothing here })

pub returns-clause-adds : goal.returns-clause-adds
returns-clause-adds g c ok bytes came =
    let image = c.args.image.now in let run = c.args.run.now in
    let there = subst (λ (d : Decoding). CameTo image d bytes) (sym c.self.view_is) came in
    let grows = c.take_run.ensures.grows bytes there in
    let same = ap (λ (d : Decoding). d.reader.settings) c.self.view_is in (
      grows.0,
      items_added image c.args.self.now.reader.settings c.args.id bytes run grows.0
          (subst (λ (s : Sizes). GrowsByEach image s bytes run grows.0) same grows.1),
      grows.2,
    )
