use Rattle.trace_io.proofs.Buffer.{passed}
use Rattle.trace_io.proofs.buffered_sink.BufferedSink.pass_on.Goals as goal

pub returns-then-self-clause-bytes : goal.returns-then-self-clause-bytes
returns-then-self-clause-bytes g c =
    let s = c.self.inside in
    rw (← c.self.view_is) (passed _ _ s.buffer.items s.start s.end c.write_out.result c.self.invariant.1 (rw (← c.deref.ensures.value) c.write_out.ensures.bytes))

pub returns-clause-bytes : goal.returns-clause-bytes
returns-clause-bytes g c =
    let s = c.self.inside in
    rw (← c.self.view_is) (passed _ _ s.buffer.items s.start s.end c.write_out.result c.self.invariant.1 (rw (← c.deref.ensures.value) c.write_out.ensures.bytes))
