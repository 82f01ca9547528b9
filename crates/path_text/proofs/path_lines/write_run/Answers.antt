use Rattle.std.proofs.Common.{sym, ◌∙◌, arith}
use Rattle.std.proofs.lemmas.Result.{err_from_is_err_and}
use Rattle.path_text.proofs.LineLemmas.{lines_of-run, shown_after_all-run}
use Rattle.path_text.proofs.Wrote.{wrote_by, then_writes, fails_first, if_ok}
use Rattle.path_text.proofs.path_lines.write_run.Goals as goal

pub returns-in_err-write_context_once-clause-lines : goal.returns-in_err-write_context_once-clause-lines
returns-in_err-write_context_once-clause-lines g c =
    let p = err_from_is_err_and c.from_residual.result c.from_residual.ensures.1 in let w = c.args.walked.now in
    let text = lines_of-run c.args.line.now.id c.args.shown.now w.ctx w.start w.count w.took (omega arith) in
    rw p.1 (fails_first _ _ c.in_err-write_context_once.field-0.0 p.0 _ _ _ (sym text) (rw c.id.ensures at c.in_err-write_context_once.ensures.lines))

pub returns-clause-lines : goal.returns-clause-lines
returns-clause-lines g c =
    let w = c.args.walked.now in
    let text = lines_of-run c.args.line.now.id c.args.shown.now w.ctx w.start w.count w.took (omega arith) in
    then_writes _ _ _ c.write_instructions.result _ _ _ (sym text) (wrote_by _ _ _ _ (rw c.id.ensures at c.in_ok-write_context_once.ensures.lines))
    c.write_instructions.ensures.lines

pub returns-clause-shown : goal.returns-clause-shown
returns-clause-shown g c =
    let w = c.args.walked.now in
    if_ok c.write_instructions.result (c.in_ok-write_context_once.ensures.shown
    ∙ sym (shown_after_all-run c.args.shown.now w.ctx w.start w.count w.took (omega arith)))
