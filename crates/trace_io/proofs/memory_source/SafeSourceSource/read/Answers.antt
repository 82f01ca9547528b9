-- What is left is the piece that was given and what is left then.
use Rattle.trace_io.proofs.Known.{given}
use Rattle.trace_io.proofs.memory_source.SafeSourceSource.read.Goals as goal

pub returns-clause-bytes : goal.returns-clause-bytes
returns-clause-bytes c =
    let e = c.copy_piece-count.ensures in
    rw (← c.self.view_is) (given _ _ _ _ _ c.deref.ensures.value e.front e.none)
