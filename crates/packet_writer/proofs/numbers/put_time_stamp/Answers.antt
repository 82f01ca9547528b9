use Rattle.std.proofs.Common.{◌+◌, ◌-◌, ◌/◌, arith}
use Rattle.packet_writer.proofs.Digits.{stamping_on}
use Rattle.packet_writer.proofs.numbers.put_time_stamp.Goals as goal

pub loop-preserved : goal.loop-preserved
loop-preserved c =
    let next = c.args.bits / 7 - (c.loop.counter + 1) in
    rw (c.from-rest.ensures) (rw (c.put.ensures) (rw (c.from.ensures)
    (stamping_on c.args.out.now c.loop.out (c.args.bits / 7 - 1) c.args.low (c.args.bits / 7 - c.loop.counter) next c.loop.rest
    (omega (arith, c.loop-test.true)) c.loop.invariant)))
