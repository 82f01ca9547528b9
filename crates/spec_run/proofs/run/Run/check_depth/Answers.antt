use Rattle.std.proofs.Common.{arith}
use Rattle.spec_run.proofs.Held.{p0s_within}
use Rattle.spec_run.proofs.run.Run.check_depth.Goals as goal

pub overflow_add-result : goal.overflow_add-result
overflow_add-result c =
    let i = c.self.invariant in let few = p0s_within c.self.inside.held.items in omega (arith, i.counted, i.within, few)
