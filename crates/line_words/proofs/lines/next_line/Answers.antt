use Rattle.std.proofs.Common.{◌∙◌, ◌∷◌, ◌+◌, List, ℕ, ap, sym, drop}
use Rattle.std.proofs.lemmas.List.{take_rest}
use Rattle.std.specs.Str.Lines.{lines}
use Rattle.line_words.proofs.Cuts.{line_found, one_line}
use Rattle.line_words.proofs.lines.next_line.Goals as goal

pub returns-in-Some-clause-lines : goal.returns-in-Some-clause-lines
returns-in-Some-clause-lines c =
    let text = c.args.text.now in
    let end = c.in-Some.end in
    line_found text end (sym c.in-Some.ensures)
    ∙ ap (λ (line : List ℕ). line ∷ lines (drop (end + 1) text)) (sym c.without_return.ensures)
    ∙ ap (λ (rest : List ℕ). c.without_return.result.now ∷ lines rest) (sym (take_rest text (end + 1)))

pub returns-in-None-clause-lines : goal.returns-in-None-clause-lines
returns-in-None-clause-lines c = one_line c.args.text.now c.requires (sym c.in-None.ensures)
