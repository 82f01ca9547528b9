use Rattle.std.proofs.Common.{◌≡◌, ◌+◌, ◌-◌, ◌/◌, ◌++◌, length, take, drop, ap, ◌∙◌, arith}
use Rattle.path_text.specs.Lines.{hex}
use Rattle.path_text.proofs.DigitLemmas.{above_zero}
use Rattle.path_text.proofs.PageLemmas.{few_upper, head_put}
use Rattle.path_text.proofs.page_lines.move_head.Goals as goal

pub overflow_add-end : goal.overflow_add-end
overflow_add-end c = omega (arith, c.hex_count-end.ensures, few_upper c.args.address (omega arith))

pub put_hex-requires-clause-within : goal.put_hex-requires-clause-within
put_hex-requires-clause-within c = omega (arith, c.hex_count-end.ensures, few_upper c.args.address (omega arith), c.told-head)

pub returns-clause-whole : goal.returns-clause-whole
returns-clause-whole c =
    let upper = c.args.address / 65536 in let head = c.args.head.now in let end = 3 + c.hex_count-end.result in
    let start : end - length (hex upper) ≡ 3 = omega (arith, c.hex_count-end.ensures) in
    ap (take end) c.put_hex.ensures ∙ ap (λ n. take end (take n head ++ (hex upper ++ drop end head))) start
    ∙ head_put head (hex upper) end (omega (arith, c.told-head)) (omega (arith, c.hex_count-end.ensures))
    ∙ ap (λ t. take 3 head ++ t) (above_zero 16 upper (omega arith))

pub returns-clause-few : goal.returns-clause-few
returns-clause-few c = omega (arith, c.hex_count-end.ensures, few_upper c.args.address (omega arith))
