use Rattle.std.proofs.Common.{◌-◌, ◌<◌, ◌≤◌, length, ◌∙◌, arith}
use Rattle.trace_unit.proofs.WaitingOut.{one_placed, wrote_more}
use Rattle.trace_unit.proofs.put_off.PutOff.count_atoms.Goals as goal

pub loop-preserved : goal.loop-preserved
loop-preserved c =
    let u = c.args.self.now in
    let depth = c.args.settings.now.depth in
    let invariant = c.loop.invariant in
    let less : c.loop.counter < length u.atoms = omega (arith, c.loop-test.true, c.requires.within) in
    let some : 1 ≤ c.args.count - c.loop.counter = omega (arith, c.loop-test.true) in
    let after = one_placed depth (c.args.count - c.loop.counter) c.loop.self c.count_written.new.self invariant.held invariant.place some
    c.count_written.ensures in
    record {
      is = c.count_written.ensures ∙ wrote_more depth c.loop.counter u.atoms u c.loop.self less invariant.is;
      held = after.0;
      place = omega (arith, after.1);
    }
