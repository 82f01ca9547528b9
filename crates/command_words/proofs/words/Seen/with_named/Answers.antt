use Rattle.std.proofs.Common.{option_map, sym, ◌∙◌}
use Rattle.command_words.specs.Said.{line_of, seen_by}
use Rattle.command_words.proofs.WordLemmas.{named}
use Rattle.command_words.proofs.words.Seen.with_named.Goals as goal

pub returns : goal.returns
returns c =
    named (line_of c.args.line.now) c.args.text.now (seen_by c.args.self) (c.name_and_value.result.0.now, option_map (λ v. v.now) c.name_and_value.result.1)
    c.in_ok-option.option (option_map seen_by c.with_option.result) c.name_and_value.ensures (sym c.option_named.ensures ∙ c.in_ok-option.was)
    c.with_option.ensures
