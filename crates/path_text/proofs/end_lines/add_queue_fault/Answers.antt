use Rattle.std.proofs.Common.{ap, sym, ◌∙◌, ◌++◌}
use Rattle.path_text.specs.EndLines.{queue_fault_text}
use Rattle.path_text.proofs.end_lines.add_queue_fault.Goals as goal

pub returns-in-CommitOverrun-clause-value : goal.returns-in-CommitOverrun-clause-value
returns-in-CommitOverrun-clause-value c = c.add_two_counts.ensures.value ∙ ap (λ f. c.args.line.now ++ queue_fault_text f) (sym c.in-CommitOverrun.is)

pub returns-in-CancelOverrun-clause-value : goal.returns-in-CancelOverrun-clause-value
returns-in-CancelOverrun-clause-value c = c.add_two_counts-in-CancelOverrun.ensures.value
    ∙ ap (λ f. c.args.line.now ++ queue_fault_text f) (sym c.in-CancelOverrun.is)
