use Rattle.std.proofs.Common.{arith}
use Rattle.std.proofs.KnownBytes.{Appends-kept}
use Rattle.trace_io.proofs.Known.{taken_more}
use Rattle.trace_io.proofs.buffered_sink.write_out.Goals as goal
use Rattle.trace_io.proofs.buffered_sink.write_out.Goals.{in-Ok, in-Err}

pub loop-preserved : goal.loop-preserved
loop-preserved g c = elim c.match-write.branch [
  | in-Ok w ↦
      rw w.done-is (
        omega (arith, w.in-Ok.ensures.bound, c.loop.invariant),
        taken_more _ _ _ _ _ _ c.loop.invariant.1 w.in-Ok.ensures.bytes,
      )
  | in-Err w ↦ rw w.done-is (c.loop.invariant.0, Appends-kept _ _ _ _ c.loop.invariant.1 w.in-Err.ensures.bytes)
]
