use Rattle.std.proofs.Common.{◌∙◌}
use Rattle.element_queue.proofs.EntryRuns.{run_ended}
use Rattle.element_queue.proofs.entries.newest.put_behind.Goals as goal

pub returns-clause-entries : goal.returns-clause-entries
returns-clause-entries c =
    run_ended c.args.runs.now.items c.put.new.runs.items c.args.plain.now c.replace-plain.result c.replace-plain.new.dest c.args.last c.put.ensures.items
    c.replace-plain.ensures.value (c.replace-plain.ensures.after ∙ c.new.ensures)
