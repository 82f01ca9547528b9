use Rattle.std.proofs.Common.{None, Some, sym, ap, ◌∙◌}
use Rattle.std.specs.Option.{option_map}
use Rattle.command_words.specs.Said.{line_of, seen_by}
use Rattle.command_words.proofs.WordLemmas.{one_more}
use Rattle.command_words.proofs.words.seen_of.Goals as goal

pub returns-in_err-seen : goal.returns-in_err-seen
returns-in_err-seen c =
    let turn = one_more (line_of c.args.line.now) (seen_by c.loop-word.seen) c.args.words.now c.loop-word.word-index c.word-item.result c.as_str.result.now None
    c.loop-word-test.true c.word-item.is c.as_str.ensures.value c.in_err-seen.ensures in
    ap (option_map seen_by) c.from_residual.ensures ∙ (sym turn ∙ c.loop-word.invariant)

pub loop-word-preserved : goal.loop-word-preserved
loop-word-preserved c =
    sym (one_more (line_of c.args.line.now) (seen_by c.loop-word.seen) c.args.words.now c.loop-word.word-index c.word-item.result c.as_str.result.now
    (Some (seen_by c.in_ok-seen.seen)) c.loop-word-test.true c.word-item.is c.as_str.ensures.value c.in_ok-seen.ensures) ∙ c.loop-word.invariant
