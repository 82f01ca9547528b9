use Rattle.capture_streams.proofs.PathStreams.{fresh, fresh_holds}
use Rattle.capture_streams.proofs.paths.StreamDecoderStream.new.Goals as goal

pub returns-clause-ready : goal.returns-clause-ready
returns-clause-ready c = fresh c.new.result c.new.ensures.stands

pub returns-clause-most : goal.returns-clause-most
returns-clause-most c = fresh_holds c.new.result c.new.ensures.stands c.new.ensures.none
