use Rattle.std.proofs.Common.{ap, arith, length, ◌∙◌}
use Rattle.element_queue.specs.Kept.{Kept}
use Rattle.std.proofs.lemmas.List.{nil_from_length}
use Rattle.element_queue.proofs.EntryRuns.{few_runs, no_fewer, no_runs}
use Rattle.element_queue.proofs.entries.Entries.close.Goals as goal

pub close-requires : goal.close-requires
close-requires c =
    let q = c.self.inside in
    let none = ap (λ (k : Kept). length k.items) c.self.view_is ∙ ap length c.requires.empty in
    record { empty = no_runs q.runs.items (omega (arith, few_runs q.runs.items q.plain, none)) }

pub close-requires-2 : goal.close-requires-2
close-requires-2 c =
    let q = c.self.inside in
    let none = ap (λ (k : Kept). length k.items) c.self.view_is ∙ ap length c.requires.empty in
    let same = no_fewer q.runs.items q.plain (omega (arith, few_runs q.runs.items q.plain, none)) in
    record { empty = nil_from_length q.plain (omega (arith, same, none)) }
