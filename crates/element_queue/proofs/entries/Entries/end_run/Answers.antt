use Rattle.std.proofs.Common.{[], ◌∷◌, ◌++◌, ap, arith, length, ◌∙◌}
use Rattle.element_queue.specs.Kept.{Kept}
use Rattle.element_queue.proofs.EntryRuns.{few_runs, longer, same_kept}
use Rattle.element_queue.proofs.entries.Entries.end_run.Goals as goal

pub put_behind-requires : goal.put_behind-requires
put_behind-requires c =
    let q = c.self.inside in let items = ap (λ (k : Kept). length k.items) c.self.view_is in let most = ap (λ (k : Kept). k.capacity) c.self.view_is in
    record { room = omega (arith, few_runs q.runs.items q.plain, items, most, c.requires.room) }

pub invariant_of-self : goal.invariant_of-self
invariant_of-self c =
    let i = c.self.invariant in
    let size = longer _ _ c.args.last c.put_behind.ensures.entries in
    let items = ap (λ (k : Kept). length k.items) c.self.view_is in let most = ap (λ (k : Kept). k.capacity) c.self.view_is in (
      omega (arith, size, i.0),
      omega (arith, i.0, items, most, c.requires.room, c.put_behind.ensures.capacity),
      omega (arith, i.2, c.put_behind.ensures.capacity),
    )

pub returns : goal.returns
returns c =
    same_kept _ _ _ _ (c.put_behind.ensures.entries ∙ ap (λ (k : Kept). k.items ++ c.args.last ∷ []) c.self.view_is)
    (c.put_behind.ensures.capacity ∙ ap (λ (k : Kept). k.capacity) c.self.view_is)
