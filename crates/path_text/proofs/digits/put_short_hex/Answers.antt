use Rattle.std.proofs.Common.{◌-◌, ◌≤◌, ◌∙◌, ap, set, arith}
use Rattle.path_text.proofs.HexLemmas.{one_hex_digit, two_hex_digits, put_one_hex, put_both_hex}
use Rattle.path_text.proofs.digits.put_short_hex.Goals as goal

pub overflow_sub-text : goal.overflow_sub-text
overflow_sub-text c = omega (arith, c.requires.room, one_hex_digit c.args.n c.if-n-lt16.true)

pub bounds-text-end : goal.bounds-text-end
bounds-text-end c = omega (arith, c.requires.room, c.requires.within, one_hex_digit c.args.n c.if-n-lt16.true)

pub overflow_sub-end : goal.overflow_sub-end
overflow_sub-end c = omega (arith, c.requires.room, two_hex_digits c.args.n (omega (arith, c.if-n-lt16.false)) (omega arith))

pub put_byte-requires : goal.put_byte-requires
put_byte-requires c =
    omega (arith, c.requires.room, c.requires.within, two_hex_digits c.args.n (omega (arith, c.if-n-lt16.false)) (omega arith))

pub returns-then-n-lt16 : goal.returns-then-n-lt16
returns-then-n-lt16 c =
    let end = c.args.end in let text = c.args.text.now in
    ap (λ d. set text (end - 1) d) c.digit.ensures
    ∙ put_one_hex c.args.n end text c.if-n-lt16.true (omega (arith, c.requires.room, one_hex_digit c.args.n c.if-n-lt16.true)) c.requires.within

pub returns-else-n-lt16 : goal.returns-else-n-lt16
returns-else-n-lt16 c =
    let n = c.args.n in let above : 16 ≤ n = omega (arith, c.if-n-lt16.false) in
    c.put_byte.ensures
    ∙ put_both_hex n c.args.end c.args.text.now above (omega arith) (omega (arith, c.requires.room, two_hex_digits n above (omega arith)))
