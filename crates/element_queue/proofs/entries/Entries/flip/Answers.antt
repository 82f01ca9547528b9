use Rattle.std.proofs.Common.{◌≡◌, Bool, List, Some, ap, arith, length, map, not, sym, ◌∙◌}
use Rattle.etm_types.specs.declared.element.Thing.TheVariants.{Seen}
use Rattle.element_queue.specs.Kept.{Kept, entries_in}
use Rattle.element_queue.specs.Queued.{plain_entry}
use Rattle.element_queue.specs.Pending.{flip_newest}
use Rattle.element_queue.proofs.EntryRuns.{longer, plain_flips, plain_popped}
use Rattle.element_queue.proofs.entries.Entries.flip.Goals as goal

-- as many as before
same : (c : goal.After-push)
    → length (entries_in c.self.inside.runs.items c.push.new.self) ≡ length (entries_in c.self.inside.runs.items c.self.inside.plain)
same c =
    let q = c.self.inside in let left = c.pop_back.new.self in
    let was = longer _ _ (plain_entry c.in-Some.taken) (plain_popped q.runs.items q.plain left c.in-Some.taken c.in-Some.ensures.order) in
    let is = longer _ _ (plain_entry (not c.in-Some.taken)) (plain_popped q.runs.items c.push.new.self left (not c.in-Some.taken) c.push.ensures) in
    omega (arith, was, is)

pub invariant_of-self : goal.invariant_of-self
invariant_of-self c = let i = c.self.invariant in let size = same c in (omega (arith, i.0, size), i.1, i.2)

pub returns-in-Some-clause-flipped : goal.returns-in-Some-clause-flipped
returns-in-Some-clause-flipped c =
    let q = c.self.inside in let left = c.pop_back.new.self in
    sym (ap (λ (k : Kept). flip_newest (map Seen k.items)) c.self.view_is)
    ∙ ap (λ (l : List Bool). flip_newest (map Seen (entries_in q.runs.items l))) c.in-Some.ensures.order
    ∙ plain_flips q.runs.items left c.in-Some.taken
    ∙ ap (λ (l : List Bool). Some (map Seen (entries_in q.runs.items l))) (sym c.push.ensures)

pub returns-in-Some-clause-count : goal.returns-in-Some-clause-count
returns-in-Some-clause-count c = same c ∙ ap (λ (k : Kept). length k.items) c.self.view_is
