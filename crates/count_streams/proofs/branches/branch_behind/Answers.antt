use Rattle.std.proofs.Common.{◌∙◌, sym}
use Rattle.count_streams.proofs.Walking.{left_exception, left_unknown}
use Rattle.count_streams.proofs.branches.branch_behind.Goals as goal
use Rattle.count_streams.proofs.branches.branch_behind.Goals.{then-walked-via-then-walked, then-walked-via-else-walked+then-is_some}

pub returns-then-walked : goal.returns-then-walked
returns-then-walked c =
    let image = c.args.image.now in let walked = c.args.walked.now in
    elim c.then-walked.branch [
      | then-walked-via-then-walked w ↦ sym (left_unknown image walked c.args.left w.if-walked.true)
      | then-walked-via-else-walked+then-is_some w ↦ sym (left_exception image walked c.args.left (sym w.is_some.ensures ∙ w.if-is_some.true))
    ]
