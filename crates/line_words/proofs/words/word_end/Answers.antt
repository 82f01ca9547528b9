use Rattle.std.proofs.Common.{◌∙◌, ap, arith, not, length}
use Rattle.std.specs.Option.{unwrap_or}
use Rattle.std.proofs.lemmas.List.Sums.{prefix_len-le-length}
use Rattle.line_words.specs.Line.{is_blank}
use Rattle.line_words.proofs.Cuts.{position_or_end}
use Rattle.line_words.proofs.words.word_end.Goals as goal

pub returns-clause-value : goal.returns-clause-value
returns-clause-value c =
    c.unwrap_or.ensures ∙ ap (λ o. unwrap_or o (length c.args.line.now)) c.first_blank.ensures ∙ position_or_end is_blank c.args.line.now

pub returns-clause-within : goal.returns-clause-within
returns-clause-within c = omega (arith, returns-clause-value c, prefix_len-le-length (λ x. not (is_blank x)) c.args.line.now)
