use Rattle.std.proofs.Common.{◌∙◌, ap, length, arith}
use Rattle.trace_io.proofs.Known.{taken_more}
use Rattle.trace_io.proofs.whole.write_rest.Goals as goal

pub loop-done-preserved : goal.loop-done-preserved
loop-done-preserved g c =
    let e = c.in_ok-done.ensures in
    let i = c.loop-done.invariant in
    record {
      within = omega (arith, e.bound);
      front = taken_more _ _ _ _ _ _ i.front e.bytes;
      shows = e.serves.shows ∙ i.shows;
      kept = e.serves.cause.kept ∙ i.kept;
      untouched = λ none. absurd (omega (arith, c.loop-done-test.true, ap length none));
    }
