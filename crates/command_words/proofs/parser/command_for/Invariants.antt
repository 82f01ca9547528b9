use Rattle.std.proofs.Common.{◌≡◌, false, take}
use Rattle.clap.specs.Words.{app_of}
use Rattle.clap.specs.declared.builder.Command.TheViews.{out-Command as fields_of}
use Rattle.command_words.specs.WordRules.{options_app}
use Rattle.command_words.proofs.parser.command_for.Given as goal

-- the command has the options so far
abbrev pub invariant-loop-option : goal.invariant-loop-option
invariant-loop-option l = record {
  app : app_of l.command ≡ options_app l.fn.line.word.now (take l.option-index l.option-items);
  local : (fields_of l.command).has_globals ≡ false;
}
