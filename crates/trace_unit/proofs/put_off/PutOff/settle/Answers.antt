use Rattle.std.proofs.Common.{◌≤◌, sym, subst}
use Rattle.trace_unit.proofs.WaitingOut.{out_holds}
use Rattle.trace_unit.specs.Whole.{PutOff}
use Rattle.trace_unit.proofs.put_off.PutOff.settle.Goals as goal

pub commit_out-requires-clause-commits : goal.commit_out-requires-clause-commits
commit_out-requires-clause-commits c =
    subst (λ (w : PutOff). w.commits ≤ w.held) (sym c.write_out.ensures.waiting)
    (out_holds c.args.settings.now.depth c.args.self.now c.requires.affords c.requires.commits)
