use Rattle.std.proofs.Common.{arith}
use Rattle.sync_frames.proofs.Plain.{end_stops, ff_stops, pair_plain}
use Rattle.sync_frames.proofs.unsync.plain_front.Goals as goal

pub loop-count-preserved : goal.loop-count-preserved
loop-count-preserved c =
    let i = c.loop-count.invariant in
    record {
      within = omega (arith, c.loop-count-test.true);
      plain = omega (arith, i.plain, pair_plain c.loop-count.count c.args.bytes.now c.loop-count-test.true c.if-bytes-count.true);
    }

pub returns-else-bytes-count-clause-value : goal.returns-else-bytes-count-clause-value
returns-else-bytes-count-clause-value c =
    omega (arith, c.loop-count.invariant.plain, ff_stops c.loop-count.count c.args.bytes.now c.if-bytes-count.false)

pub returns-after-loop-count-clause-value : goal.returns-after-loop-count-clause-value
returns-after-loop-count-clause-value c =
    omega (arith, c.loop-count.invariant.plain, end_stops c.loop-count.count c.args.bytes.now (omega (arith, c.loop-count-test.false)))
