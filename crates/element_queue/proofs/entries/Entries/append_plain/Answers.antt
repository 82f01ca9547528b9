use Rattle.std.proofs.Common.{[], ◌∷◌, ◌++◌, ap, arith, length, ◌∙◌}
use Rattle.element_queue.specs.Kept.{Kept}
use Rattle.element_queue.specs.Queued.{plain_entry}
use Rattle.element_queue.proofs.EntryRuns.{longer, plain_popped, same_kept}
use Rattle.element_queue.proofs.entries.Entries.append_plain.Goals as goal

pub invariant_of-self : goal.invariant_of-self
invariant_of-self c =
    let q = c.self.inside in let i = c.self.invariant in
    let size = longer _ _ (plain_entry c.args.taken) (plain_popped q.runs.items c.push.new.self q.plain c.args.taken c.push.ensures) in
    let items = ap (λ (k : Kept). length k.items) c.self.view_is in let most = ap (λ (k : Kept). k.capacity) c.self.view_is in
    (omega (arith, size, i.0), omega (arith, i.0, items, most, c.requires.room), i.2)

pub returns-then-len-lt-MOST_PLAIN : goal.returns-then-len-lt-MOST_PLAIN
returns-then-len-lt-MOST_PLAIN c =
    let q = c.self.inside in
    same_kept _ _ _ _
    (plain_popped q.runs.items c.push.new.self q.plain c.args.taken c.push.ensures
    ∙ ap (λ (k : Kept). k.items ++ plain_entry c.args.taken ∷ []) c.self.view_is)
    (ap (λ (k : Kept). k.capacity) c.self.view_is)
