use Rattle.std.proofs.Common.{option_map, sym, ap, ◌∙◌}
use Rattle.std.specs.Option.{option_and_then}
use Rattle.clap.specs.Words.{found_of, rows_of}
use Rattle.clap.specs.declared.parser.matches.ArgMatches.TheViews.{out-ArgMatches}
use Rattle.command_words.specs.Said.{line_of}
use Rattle.command_words.specs.WordRules.{command_by, seen_in}
use Rattle.command_words.specs.Words.{command_in}
use Rattle.command_words.proofs.WordMeaning.{sub_is}
use Rattle.command_words.proofs.parser.command_in.Goals as goal

pub returns-clause-value : goal.returns-clause-value
returns-clause-value c =
    let rows = rows_of (found_of c.in_ok-word.found.now) in
    let sub = sub_is (out-ArgMatches c.args.matches.now).subcommand c.in_ok-word.word.now rows c.in_ok-word.ensures.name c.in_ok-word.ensures.rows in
    let line = sym c.line_of.ensures ∙ ap (option_map line_of) c.in_ok-line.was in
    c.command.ensures.value ∙ ap (command_in c.in_ok-line.line.name) c.seen_in.ensures
    ∙ sym (ap (option_and_then command_by) sub ∙ ap (option_and_then (λ row. command_in row.name (seen_in rows))) line)
