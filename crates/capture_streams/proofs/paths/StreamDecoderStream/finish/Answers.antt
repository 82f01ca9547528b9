use Rattle.std.proofs.Common.{sym, ◌∙◌}
use Rattle.capture_streams.proofs.PathStreams.{path_finished, stands_path}
use Rattle.capture_streams.proofs.paths.StreamDecoderStream.finish.Goals as goal

pub returns-clause-ends : goal.returns-clause-ends
returns-clause-ends g c image bytes stands =
    let path = stands_path image c.args.self bytes stands in
    let line = c.finish.ensures.line image bytes path.0 path.1 stands path.2 in
    path_finished image c.args.self c.args.id bytes c.finish.result (g.K.Sink.state c.args.sink.now) (g.K.Sink.state c.finish.new.sink) path.0 path.1 path.2
    line.0 line.1 (λ none. c.finish.ensures.nothing (sym stands.came.reads.0 ∙ none))
