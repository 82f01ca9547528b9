use Rattle.count_streams.proofs.Ending.{counted_ends}
use Rattle.count_streams.proofs.count_stream.CountStreamStream.abandon.Goals as goal

pub returns-clause-ends : goal.returns-clause-ends
returns-clause-ends c image id bytes came = counted_ends image c.args.self id bytes came
