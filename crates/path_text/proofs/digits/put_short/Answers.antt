use Rattle.std.proofs.Common.{◌-◌, ◌≤◌, ◌∙◌, ap, set, arith}
use Rattle.path_text.proofs.DigitLemmas.{one_digit, two_digits, put_one, put_both}
use Rattle.path_text.proofs.digits.put_short.Goals as goal

pub overflow_sub-text : goal.overflow_sub-text
overflow_sub-text c = omega (arith, c.requires.room, one_digit c.args.n c.if-n-lt10.true)

pub bounds-text-end : goal.bounds-text-end
bounds-text-end c = omega (arith, c.requires.room, c.requires.within, one_digit c.args.n c.if-n-lt10.true)

pub overflow_sub-end : goal.overflow_sub-end
overflow_sub-end c = omega (arith, c.requires.room, two_digits c.args.n (omega (arith, c.if-n-lt10.false)) c.requires.short)

pub put_pair-requires-clause-within : goal.put_pair-requires-clause-within
put_pair-requires-clause-within c =
    omega (arith, c.requires.room, c.requires.within, two_digits c.args.n (omega (arith, c.if-n-lt10.false)) c.requires.short)

pub returns-then-n-lt10 : goal.returns-then-n-lt10
returns-then-n-lt10 c =
    let end = c.args.end in let text = c.args.text.now in
    ap (λ d. set text (end - 1) d) c.digit.ensures
    ∙ put_one c.args.n end text c.if-n-lt10.true (omega (arith, c.requires.room, one_digit c.args.n c.if-n-lt10.true)) c.requires.within

pub returns-else-n-lt10 : goal.returns-else-n-lt10
returns-else-n-lt10 c =
    let n = c.args.n in let above : 10 ≤ n = omega (arith, c.if-n-lt10.false) in
    c.put_pair.ensures
    ∙ put_both n c.args.end c.args.text.now above c.requires.short (omega (arith, c.requires.room, two_digits n above c.requires.short))
