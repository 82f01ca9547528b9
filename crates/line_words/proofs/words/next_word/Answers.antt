use Rattle.std.proofs.Common.{◌-◌, List, ℕ, length, sym, take, drop, subst}
use Rattle.std.proofs.lemmas.List.{take_rest}
use Rattle.line_words.proofs.Cuts.{WordAt, no_word, word_cut, word_found}
use Rattle.line_words.proofs.words.next_word.Goals as goal

pub returns-in_err-line-clause-words : goal.returns-in_err-line-clause-words
returns-in_err-line-clause-words c = rw c.from_residual.ensures (no_word c.args.line.now (sym c.in_err-line.ensures))

pub returns-clause-words : goal.returns-clause-words
returns-clause-words c =
    let line = c.args.line.now in
    let start = c.in_ok-line.field-0 in
    let at = subst (λ (rest : List ℕ). WordAt line rest) (sym (take_rest line start)) (word_found line start (sym c.in_ok-line.ensures)) in
    word_cut line (take (length line - start) (drop start line)) c.split_at.result.0.now c.split_at.result.1.now c.word_end.result at
    c.word_end.ensures.value c.split_at.ensures.front c.split_at.ensures.back
