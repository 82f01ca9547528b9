use Rattle.capture_streams.proofs.PathStreams.{path_ends, stands_path}
use Rattle.capture_streams.proofs.paths.StreamDecoderStream.abandon.Goals as goal

pub returns-clause-ends : goal.returns-clause-ends
returns-clause-ends c image id bytes stands =
    let path = stands_path image c.args.self bytes stands in path_ends image c.args.self id bytes path.0 path.1 path.2
