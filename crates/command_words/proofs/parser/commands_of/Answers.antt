use Rattle.command_words.proofs.WordMeaning.{command_added}
use Rattle.command_words.proofs.parser.commands_of.Goals as goal

pub loop-line-preserved : goal.loop-line-preserved
loop-line-preserved c =
    command_added c.loop-line.command c.in_ok-command_for.field-0 c.in_ok-command.command c.args.lines.now c.loop-line.line-index _
    c.in_ok-command.ensures c.in_ok-command_for.ensures.local c.in_ok-command_for.ensures.app c.loop-line-test.true c.loop-line.invariant
