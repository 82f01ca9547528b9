use Rattle.std.proofs.Common.{[], sym, subst, ◌∙◌, refl}
use Rattle.etm_types.specs.declared.element.Elem.TheVariants as elem
use Rattle.time_marks.specs.Marked.{IsMarked, Marked, Moves, marked_of}
use Rattle.time_marks.proofs.Moving.{cancel_holds, cancel_moves}
use Rattle.time_marks.proofs.marked.MarkedQueue.cancel.Goals as goal

holds : (c : goal.After-drop_newest) → IsMarked (marked_of c.cancel.new.self c.drop_newest.new.self.items c.self.inside.informed)
holds c =
    let s = c.self.inside in
    cancel_holds s.queue c.args.n c.cancel.new.self (c.in_ok-cancel.ensures.ok refl) s.marks.items c.drop_newest.new.self.items s.informed
    (c.self.invariant).2 c.drop_newest.ensures.items c.cancel.ensures.queued

pub invariant_of-self-2 : goal.invariant_of-self-2
invariant_of-self-2 c =
    let takes = c.in_ok-cancel.ensures.ok refl in
    (c.drop_newest.ensures.capacity ∙ (c.self.invariant).0 ∙ sym takes.depth, c.cancel.ensures.queued, holds c)

pub returns-clause-ok : goal.returns-clause-ok
returns-clause-ok c ok stamp =
    let s = c.self.inside in
    subst (λ (m : Marked). Moves m stamp (elem.Cancel c.args.n) [] (marked_of c.cancel.new.self c.drop_newest.new.self.items s.informed)) c.self.view_is
    (cancel_moves s.queue c.args.n c.cancel.new.self (c.in_ok-cancel.ensures.ok refl) s.marks.items c.drop_newest.new.self.items s.informed
    (c.self.invariant).2 c.drop_newest.ensures.items stamp)

pub returns-clause-holds : goal.returns-clause-holds
returns-clause-holds c = holds c
