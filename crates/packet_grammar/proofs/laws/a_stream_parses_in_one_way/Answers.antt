use Rattle.packet_grammar.proofs.Streams.{each_is_a_stream, one_stream, starts_with_sync}
use Rattle.packet_grammar.proofs.laws.a_stream_parses_in_one_way.Goals as goal

pub returns-clause-each : goal.returns-clause-each
returns-clause-each c = each_is_a_stream

pub returns-clause-one_way : goal.returns-clause-one_way
returns-clause-one_way c = one_stream

pub returns-clause-starts : goal.returns-clause-starts
returns-clause-starts c = starts_with_sync
