use Rattle.std.proofs.Common.{arith}
use Rattle.path_text.proofs.DigitLemmas.{few_decimal_64, eight_more_digits}
use Rattle.path_text.proofs.digits.decimal_count.Goals as goal

pub overflow_add-count : goal.overflow_add-count
overflow_add-count c = omega (arith, c.loop-rest.invariant, few_decimal_64 c.args.n (omega arith))

pub loop-rest-preserved : goal.loop-rest-preserved
loop-rest-preserved c = omega (arith, c.loop-rest.invariant, eight_more_digits c.loop-rest.rest c.loop-rest-test.true)

pub overflow_add-result : goal.overflow_add-result
overflow_add-result c = omega (arith, c.loop-rest.invariant, c.middle_count.ensures, few_decimal_64 c.args.n (omega arith))
