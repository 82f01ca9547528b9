use Rattle.command_words.proofs.WordMeaning.{option_added, stays_local}
use Rattle.command_words.proofs.parser.command_for.Goals as goal

pub loop-option-preserved : goal.loop-option-preserved
loop-option-preserved c = record {
  app = option_added c.loop-option.command c.option_arg.result c.in_ok-command.command c.args.line.now.word.now c.args.line.now.options.now
      c.loop-option.option-index _ c.in_ok-command.ensures c.option_arg.ensures.local c.option_arg.ensures.rule c.loop-option-test.true
      c.loop-option.invariant.app;
  local = stays_local c.loop-option.command c.option_arg.result c.in_ok-command.command c.in_ok-command.ensures c.option_arg.ensures.local
      c.loop-option.invariant.local;
}
