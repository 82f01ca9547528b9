use Rattle.std.proofs.Common.{◌∙◌, append_assoc}
use Rattle.std.proofs.lemmas.Result.{err_from_is_err_and}
use Rattle.path_text.specs.PathLines.{lines_of, on_line, block_items}
use Rattle.path_text.proofs.LineLemmas.{lines_of-items, shown_after_all-items}
use Rattle.path_text.proofs.Wrote.{wrote_by, wrote_more, then_writes, fails_first, fails_after, if_ok}
use Rattle.path_text.proofs.path_lines.write_walked_on.Goals as goal

pub returns-in_err-write_on-clause-lines : goal.returns-in_err-write_on-clause-lines
returns-in_err-write_on-clause-lines g c =
    let p = err_from_is_err_and c.from_residual.result c.from_residual.ensures.1 in
    let text = lines_of-items c.args.line.now.id c.args.shown.now c.args.walked.now in
    rw p.1 (fails_first _ _ c.in_err-write_on.field-0.0 p.0 _ _ _ text (rw c.id-id.ensures at c.in_err-write_on.ensures))

pub returns-in_err-write_block-clause-lines : goal.returns-in_err-write_block-clause-lines
returns-in_err-write_block-clause-lines g c =
    let p = err_from_is_err_and c.from_residual-in_err-write_block.result c.from_residual-in_err-write_block.ensures.1 in
    let text = lines_of-items c.args.line.now.id c.args.shown.now c.args.walked.now in
    rw p.1 (fails_after _ _ _ c.in_err-write_block.field-0.0 p.0 _ _ _ _ text (wrote_by _ _ _ _ (rw c.id-id.ensures at c.in_ok-write_on.ensures))
    c.in_err-write_block.ensures.lines)

pub returns-clause-lines : goal.returns-clause-lines
returns-clause-lines g c =
    let id = c.args.line.now.id in let shown = c.args.shown.now in let w = c.args.walked.now in
    let text = append_assoc (on_line id w.on) (lines_of id shown (block_items w)) _ ∙ lines_of-items id shown w in
    let wrote = wrote_more _ _ _ _ _ (wrote_by _ _ _ _ (rw c.id-id.ensures at c.in_ok-write_on.ensures)) (wrote_by _ _ _ _ c.in_ok-write_block.ensures.lines) in
    then_writes _ _ _ c.write_exception.result _ _ _ text wrote (rw c.id-id.ensures at c.write_exception.ensures)

pub returns-clause-shown : goal.returns-clause-shown
returns-clause-shown g c = if_ok c.write_exception.result (c.in_ok-write_block.ensures.shown ∙ shown_after_all-items c.args.shown.now c.args.walked.now)
