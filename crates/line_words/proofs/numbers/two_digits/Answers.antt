use Rattle.std.proofs.Common.{◌∙◌, arith, sym}
use Rattle.line_words.proofs.Small.{number_small}
use Rattle.line_words.proofs.numbers.two_digits.Goals as goal

pub overflow_cast-result : goal.overflow_cast-result
overflow_cast-result c =
    omega (arith, number_small c.args.word.now c.in_ok-number.number 1 (sym c.number.ensures ∙ c.in_ok-number.was) (omega arith) (omega arith))
