use Rattle.capture_streams.proofs.Alone.{others_do_not_count, others_have_none, source_is_alone}
use Rattle.capture_streams.specs.Texts.{by_sizes}
use Rattle.capture_streams.proofs.laws.a_stream_is_alone.Goals as goal

pub returns-clause-source : goal.returns-clause-source
returns-clause-source g c shared t = source_is_alone (by_sizes (g.S.Stream.listing shared) t)

pub returns-clause-none : goal.returns-clause-none
returns-clause-none g c shared t = others_have_none (by_sizes (g.S.Stream.listing shared) t)

pub returns-clause-others : goal.returns-clause-others
returns-clause-others g c shared = others_do_not_count (g.S.Stream.listing shared)
