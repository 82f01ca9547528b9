use Rattle.trace_unit.proofs.TraceShown.{trace_shows}
use Rattle.trace_unit.proofs.laws.a_trace_shows_the_retired_path.Goals as goal

pub returns : goal.returns
returns c = trace_shows
