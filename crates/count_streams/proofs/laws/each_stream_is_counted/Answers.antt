use Rattle.count_streams.proofs.EachStream.{each_stream_is_counted}
use Rattle.count_streams.proofs.SumsOfStreams.{counts_are_sums}
use Rattle.count_streams.proofs.laws.each_stream_is_counted.Goals as goal

pub returns-clause-path : goal.returns-clause-path
returns-clause-path c = each_stream_is_counted

pub returns-clause-sums : goal.returns-clause-sums
returns-clause-sums c = counts_are_sums
