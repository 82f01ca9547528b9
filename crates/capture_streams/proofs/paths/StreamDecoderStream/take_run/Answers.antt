use Rattle.std.proofs.Common.{[], refl}
use Rattle.capture_streams.proofs.PathStreams.{path_adds}
use Rattle.capture_streams.proofs.Sums.{no_stream_items}
use Rattle.capture_streams.specs.Paths.{paths}
use Rattle.capture_streams.proofs.paths.StreamDecoderStream.take_run.Goals as goal

pub returns-clause-gains : goal.returns-clause-gains
returns-clause-gains g c bytes stands =
    let d = c.args.self.now in
    path_adds c.args.image.now d.decoding.reader.settings c.args.id bytes c.args.run.now d.shown (g.K.Sink.state c.args.sink.now)
    (g.K.Sink.state c.take_run.new.sink) c.take_run.result (c.take_run.ensures.grows bytes stands)

pub returns-clause-adds : goal.returns-clause-adds
returns-clause-adds g c ok bytes stands =
    let d = c.args.self.now in (
      [],
      no_stream_items (paths c.args.image.now d.decoding.reader.settings) (λ id before byte. refl) c.args.id bytes c.args.run.now,
      λ items has. tt,
    )
