use Rattle.std.proofs.Common.{arith, length, ap, ◌∙◌}
use Rattle.element_queue.specs.Kept.{Kept}
use Rattle.element_queue.proofs.EntryRuns.{some_entries}
use Rattle.element_queue.proofs.entries.Entries.all_plain.Goals as goal

pub returns-then-len-gt0-clause-none : goal.returns-then-len-gt0-clause-none
returns-then-len-gt0-clause-none c none =
    let q = c.self.inside in
    let size = ap (λ (k : Kept). length k.items) c.self.view_is ∙ ap length none in
    let some = some_entries q.runs.items q.plain (omega (arith, c.if-len-gt0.true, c.len.ensures.len)) in
    absurd (omega (arith, some, size))
