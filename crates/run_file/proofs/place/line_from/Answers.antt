use Rattle.std.proofs.Common.{◌≡◌, ◌∙◌, ◌∷◌, ◌+◌, ◌-◌, ◌<◌, List, ℕ, ap, arith, drop, length, sym, take}
use Rattle.std.proofs.lemmas.List.{drop-drop, drop_all, length-drop, take_rest}
use Rattle.std.specs.Str.Lines.{lines}
use Rattle.line_words.proofs.Cuts.{line_found, one_line}
use Rattle.run_file.proofs.place.line_from.Goals as goal

pub returns-in-Some-clause-line : goal.returns-in-Some-clause-line
returns-in-Some-clause-line c =
    let text = c.args.text.now in
    let start = c.args.start in
    let end = c.in-Some.end in
    let line = c.without_return.result.now in
    let rest = take (length text - start) (drop start text) in
    let same : rest ≡ drop start text = take_rest text start in
    let place : start + (end + 1) ≡ start + end + 1 = omega arith in
    ap lines (sym same)
    ∙ line_found rest end (sym c.in-Some.ensures.value)
    ∙ ap (λ (l : List ℕ). l ∷ lines (drop (end + 1) rest)) (sym c.without_return.ensures)
    ∙ ap (λ (l : List ℕ). line ∷ lines (drop (end + 1) l)) same
    ∙ ap (λ (l : List ℕ). line ∷ lines l) (drop-drop (end + 1) start text)
    ∙ ap (λ (n : ℕ). line ∷ lines (drop n text)) place

pub returns-in-None-clause-line : goal.returns-in-None-clause-line
returns-in-None-clause-line c =
    let text = c.args.text.now in
    let start = c.args.start in
    let rest = take (length text - start) (drop start text) in
    let same : rest ≡ drop start text = take_rest text start in
    let some : 0 < length rest = omega (arith, ap length same, length-drop start text, c.requires) in
    ap lines (sym same)
    ∙ one_line rest some (sym c.in-None.ensures.value)
    ∙ ap (λ (l : List ℕ). rest ∷ lines l) (sym (drop_all (length text) text (omega arith)))
