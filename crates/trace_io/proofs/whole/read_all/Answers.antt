-- A read whose bytes find no room in memory has taken them off the source nevertheless.
use Rattle.std.proofs.Common.{rules}
use Rattle.trace_io.proofs.Known.{taken_within}
use Rattle.trace_io.proofs.whole.read_all.Goals as goal

pub returns-then-is_err-clause-taken : goal.returns-then-is_err-clause-taken
returns-then-is_err-clause-taken g c =
    let e = c.in-Ok.ensures in
    taken_within _ _ _ _ _ _ c.loop-buf.invariant.taken e.bytes.0 (search rules)
