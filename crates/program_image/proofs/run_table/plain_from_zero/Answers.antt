use Rattle.std.proofs.Common.{◌*◌, ap, arith}
use Rattle.program_image.proofs.Runs.{zero_run_more, zero_run_short}
use Rattle.program_image.proofs.run_table.plain_from_zero.Goals as goal

pub overflow_add-run : goal.overflow_add-run
overflow_add-run c =
    let plain = c.is_plain.ensures.0 c.loop-run-test.true in
    let more = zero_run_more c.args.parts.now c.loop-run.run (c.from.result * 4) c.requires c.loop-run.invariant (ap (λ n. n * 4) c.from.ensures) plain in
    omega (arith, more.1, c.requires.small)

pub loop-run-smaller : goal.loop-run-smaller
loop-run-smaller c =
    let plain = c.is_plain.ensures.0 c.loop-run-test.true in
    let more = zero_run_more c.args.parts.now c.loop-run.run (c.from.result * 4) c.requires c.loop-run.invariant (ap (λ n. n * 4) c.from.ensures) plain in
    omega (arith, more.1)

pub returns-clause-small : goal.returns-clause-small
returns-clause-small c = zero_run_short c.args.parts.now c.loop-run.run c.requires c.loop-run.invariant
