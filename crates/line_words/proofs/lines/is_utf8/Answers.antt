use Rattle.std.proofs.Common.{◌∙◌}
use Rattle.line_words.proofs.Utf8.{tells_utf8}
use Rattle.line_words.proofs.lines.is_utf8.Goals as goal

pub returns : goal.returns
returns c = c.is_ok.ensures.value ∙ tells_utf8 c.from_utf8.result c.args.line.now _ _ c.from_utf8.ensures.cases
