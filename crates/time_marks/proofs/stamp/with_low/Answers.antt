use Rattle.std.proofs.Common.{arith}
use Rattle.time_marks.proofs.StampFits.{stamp_fits}
use Rattle.time_marks.proofs.stamp.with_low.Goals as goal

pub overflow_add-result : goal.overflow_add-result
overflow_add-result c =
    let fits = stamp_fits c.args.known c.args.bits c.args.low c.requires.size c.if-bits-eq-STAMP_BITS.false c.ranges.known.fits c.requires.low in
    omega (arith, fits)
