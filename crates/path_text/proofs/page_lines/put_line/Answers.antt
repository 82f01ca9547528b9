use Rattle.std.proofs.Common.{◌+◌, ◌∷◌, ◌++◌, take, ap, ◌∙◌, arith, append_assoc}
use Rattle.path_text.proofs.PageLemmas.{front_of_head}
use Rattle.path_text.proofs.page_lines.put_line.Goals as goal

pub returns : goal.returns
returns c =
    let at = c.args.at in let len = c.args.len in let block = c.args.block.now in let head = c.args.head.now in
    let last = c.args.fourth ∷ c.args.end in
    c.put_last.ensures ∙ ap (λ t. t ++ last)
    (front_of_head at len block c.put_head.new.block head (omega (arith, c.requires.within)) (omega (arith, c.requires.len, c.told-head))
    (omega (arith, c.requires.len)) c.put_head.ensures)
    ∙ append_assoc (take at block) (take len head) last
