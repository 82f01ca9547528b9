use Rattle.std.proofs.Common.{◌≡◌, ap, ◌∙◌}
use Rattle.std.proofs.lemmas.Result.{err_from_is_err_and}
use Rattle.path_text.proofs.Putting.{puts_unwritten, puts_written}
use Rattle.path_text.proofs.line_block.LineBlock.put_context_line.Goals as goal

pub returns-in_err-flush-clause-puts : goal.returns-in_err-flush-clause-puts
returns-in_err-flush-clause-puts g c =
    let p = err_from_is_err_and c.from_residual.result c.from_residual.ensures.1 in
    rw p.1 (puts_unwritten _ _ c.in_err-flush.field-0.0 p.0 _ _ _ c.in_err-flush.ensures.writes)

pub returns-clause-puts : goal.returns-clause-puts
returns-clause-puts g c =
    let view = c.self.view_is ∙ c.in_ok-flush.ensures.others in
    let id : c.self.inside.id ≡ c.args.self.now.id = ap (λ b. b.id) view in
    puts_written _ _ _ _ c.write_context.result _ _ _ (ap (λ b. b.put) view) c.in_ok-flush.ensures.writes (rw id at c.write_context.ensures)
