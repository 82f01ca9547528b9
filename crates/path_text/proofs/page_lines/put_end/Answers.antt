use Rattle.std.proofs.Common.{◌+◌, ◌*◌, ◌/◌, ◌%◌, ◌∷◌, ◌++◌, take, drop, ap, ◌∙◌}
use Rattle.path_text.specs.Lines.{digit}
use Rattle.path_text.proofs.Fours.{set_four}
use Rattle.path_text.proofs.page_lines.put_end.Goals as goal

pub returns : goal.returns
returns c =
    let place = c.args.place in let at = 4 * place in let ends = c.args.ends.now in let rest = drop (at + 4) ends in
    let second = c.digit-2.result in let third = c.digit-3.result in
    set_four at ends c.digit.result second third 10 c.requires.within
    ∙ ap (λ d. take at ends ++ (d ∷ second ∷ third ∷ 10 ∷ rest)) c.digit.ensures
    ∙ ap (λ d. take at ends ++ (digit (place / 64) ∷ d ∷ third ∷ 10 ∷ rest)) c.digit-2.ensures
    ∙ ap (λ d. take at ends ++ (digit (place / 64) ∷ digit (place / 4 % 16) ∷ d ∷ 10 ∷ rest)) c.digit-3.ensures
