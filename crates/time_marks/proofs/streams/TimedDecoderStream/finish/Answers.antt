use Rattle.time_marks.proofs.Ends.{times_finished, times_there}
use Rattle.time_marks.proofs.streams.TimedDecoderStream.finish.Goals as goal

pub returns-clause-ends : goal.returns-clause-ends
returns-clause-ends g c shared bytes stands =
    let there = times_there c.args.self bytes stands in
    let line = c.finish.ensures.line bytes there.0 there.1 stands there.2 in
    times_finished c.args.self c.args.id bytes stands c.finish.result (g.K.Sink.state c.args.sink.now) (g.K.Sink.state c.finish.new.sink) line.0 line.1
