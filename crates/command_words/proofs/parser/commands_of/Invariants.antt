use Rattle.std.proofs.Common.{◌≡◌, take, map}
use Rattle.clap.specs.Words.{app_of}
use Rattle.command_words.specs.Said.{line_of}
use Rattle.command_words.specs.WordRules.{commands_app}
use Rattle.command_words.proofs.parser.commands_of.Given as goal

-- the commands so far stand below the top
abbrev pub invariant-loop-line : goal.invariant-loop-line
invariant-loop-line l = app_of l.command ≡ commands_app (map line_of (take l.line-index l.lines))
