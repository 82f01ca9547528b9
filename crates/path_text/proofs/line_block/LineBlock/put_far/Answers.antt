use Rattle.std.proofs.Common.{◌++◌, [], sym, ap, ◌∙◌, arith}
use Rattle.std.proofs.lemmas.Result.{err_from_is_err_and}
use Rattle.path_text.specs.PathLines.{context_line, instruction_lines}
use Rattle.path_text.proofs.LineLemmas.{lines_of-run, shown_after_all-run}
use Rattle.path_text.proofs.Putting.{put_by, put_fails, put_nothing, then_puts}
use Rattle.path_text.proofs.Wrote.{if_ok}
use Rattle.path_text.proofs.line_block.LineBlock.put_far.Goals as goal

pub returns-in_err-put_context-clause-puts : goal.returns-in_err-put_context-clause-puts
returns-in_err-put_context-clause-puts g c =
    λ took.
    let p = err_from_is_err_and c.from_residual.result c.from_residual.ensures.1 in
    let block = c.args.self.now in let ctx = c.args.ctx.now in let start = c.args.start in let count = c.args.count in
    let text = lines_of-run block.id block.shown ctx start count took (omega arith) in
    rw p.1 (put_fails _ _ _ c.in_err-put_context.field-0.0 p.0 _ _ _ _ [] (context_line block.id block.shown ctx) (instruction_lines block.id start count) _ (sym text)
    (put_nothing _ _) c.in_err-put_context.ensures.puts)

pub returns-clause-puts : goal.returns-clause-puts
returns-clause-puts g c =
    λ took.
    let block = c.args.self.now in let ctx = c.args.ctx.now in let start = c.args.start in let count = c.args.count in
    let text = ap (λ n. context_line block.id block.shown ctx ++ instruction_lines n start count) c.in_ok-put_context.ensures.id
    ∙ sym (lines_of-run block.id block.shown ctx start count took (omega arith)) in
    then_puts _ _ _ c.put_instructions.result _ _ _ _ _ _ text (put_by _ _ _ _ _ _ c.in_ok-put_context.ensures.puts) c.put_instructions.ensures.puts

pub returns-clause-shown : goal.returns-clause-shown
returns-clause-shown g c =
    let block = c.args.self.now in let ctx = c.args.ctx.now in let start = c.args.start in let count = c.args.count in
    if_ok c.put_instructions.result (λ took. c.put_instructions.ensures.shown ∙ c.in_ok-put_context.ensures.shown
    ∙ sym (shown_after_all-run block.shown ctx start count took (omega arith)))
