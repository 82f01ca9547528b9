use Rattle.time_marks.proofs.Ends.{times_end}
use Rattle.time_marks.proofs.streams.TimedDecoderStream.abandon.Goals as goal

pub returns-clause-ends : goal.returns-clause-ends
returns-clause-ends c shared id bytes stands = times_end c.args.self id bytes stands
