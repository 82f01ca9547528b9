use Rattle.std.proofs.Common.{[], refl, sym}
use Rattle.count_streams.proofs.count_stream.CountStreamStream.new.Goals as goal

pub returns-clause-ready : goal.returns-clause-ready
returns-clause-ready c = (refl, sym (c.in_ok-new.ensures.stands []).1.reads.0)
