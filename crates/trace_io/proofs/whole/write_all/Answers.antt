use Rattle.std.proofs.lemmas.Result.{on_err_weaker}
use Rattle.trace_io.proofs.Known.{shorter_after}
use Rattle.trace_io.proofs.whole.write_all.Goals as goal

pub returns-clause-failed : goal.returns-clause-failed
returns-clause-failed g c = on_err_weaker c.write_rest.result (shorter_after _ _ _ _ _ c.in_ok-count.ensures.bytes) c.write_rest.ensures.failed
