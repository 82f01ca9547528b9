use Rattle.std.proofs.Common.{drop, Option, Some, ap, sym, ◌∙◌}
use Rattle.element_queue.specs.Counting.{entries}
use Rattle.element_queue.specs.Queued.{Queued, things_of}
use Rattle.element_queue.specs.declared.queue.Committed.{Committed}
use Rattle.time_marks.specs.Marked.{IsMarked, marked_of}
use Rattle.time_marks.proofs.Moving.{less_holds}
use Rattle.time_marks.proofs.marked.MarkedQueue.commit_one.Goals as goal

holds : (c : goal.After-pop_front) → IsMarked (marked_of c.commit_one.new.self c.pop_front.new.self.items c.self.inside.informed)
holds c =
    let s = c.self.inside in let seen = c.in-Some-Seen.is ∙ ap Some c.in-Some-Seen.field-0-is in
    less_holds s.queue s.marks.items s.informed (c.self.invariant).2 (things_of c.commit_one.result) c.commit_one.ensures.oldest c.commit_one.new.self
    c.commit_one.ensures.rest c.pop_front.new.self.items
    (c.pop_front.ensures.rest ∙ ap (λ (o : Option Committed). drop (entries (things_of o)) s.marks.items) (sym seen)) c.commit_one.ensures.queued

pub invariant_of-self : goal.invariant_of-self
invariant_of-self c =
    (c.pop_front.ensures.capacity ∙ (c.self.invariant).0 ∙ sym (ap (λ (q : Queued). q.depth) c.commit_one.ensures.rest), c.commit_one.ensures.queued, holds c)

pub returns-in-Some-Seen-clause-holds : goal.returns-in-Some-Seen-clause-holds
returns-in-Some-Seen-clause-holds c = holds c
