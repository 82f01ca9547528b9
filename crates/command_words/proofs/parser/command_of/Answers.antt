use Rattle.std.proofs.Common.{sym, ◌∙◌}
use Rattle.command_words.proofs.WordMeaning.{none_means, some_means}
use Rattle.command_words.proofs.parser.command_of.Goals as goal

pub returns-in_default-clause-value : goal.returns-in_default-clause-value
returns-in_default-clause-value c = sym (none_means c.args.words.now c.in_ok-matches.field-0 c.in_default.is c.in_ok-matches.ensures.taken)

pub returns-clause-value : goal.returns-clause-value
returns-clause-value c =
    c.command_in.ensures.value
    ∙ some_means c.args.words.now c.in_ok-matches.field-0 c.in-Some.matches c.in-Some.is c.in_ok-matches.ensures.taken c.in_ok-matches.ensures.found
