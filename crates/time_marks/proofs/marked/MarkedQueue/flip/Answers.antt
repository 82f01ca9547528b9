use Rattle.std.proofs.Common.{refl, sym, subst, ◌∙◌, ap, ◌≡◌}
use Rattle.element_queue.specs.Queued.{Queued}
use Rattle.etm_types.specs.declared.element.Elem.TheVariants as elem
use Rattle.time_marks.specs.Marked.{IsMarked, marked_of}
use Rattle.time_marks.proofs.Moving.{either, flip_holds, moves_from, noted_moves}
use Rattle.time_marks.proofs.marked.MarkedQueue.flip.Goals as goal

holds : (c : goal.After-flip) → IsMarked (marked_of c.flip.new.self c.self.inside.marks.items c.self.inside.informed)
holds c =
    let s = c.self.inside in
    either c.flip.result
    (λ ok. flip_holds s.queue c.flip.new.self s.marks.items s.informed (c.self.invariant).2 (c.flip.ensures.ok ok) c.flip.ensures.queued)
    (λ err. subst (λ (q : Queued). IsMarked (marked_of q s.marks.items s.informed)) (sym (c.flip.ensures.unchanged err)) (c.self.invariant).2)

pub invariant_of-self : goal.invariant_of-self
invariant_of-self c =
    let s = c.self.inside in
    let depth : c.flip.new.self.depth ≡ s.queue.depth =
    either c.flip.result (λ ok. (c.flip.ensures.ok ok).depth) (λ err. ap (λ (q : Queued). q.depth) (c.flip.ensures.unchanged err)) in
    ((c.self.invariant).0 ∙ sym depth, c.flip.ensures.queued, holds c)

pub returns-clause-ok : goal.returns-clause-ok
returns-clause-ok c ok stamp =
    let s = c.self.inside in
    moves_from (marked_of s.queue s.marks.items s.informed) c.args.self.now (marked_of c.flip.new.self s.marks.items s.informed) stamp elem.Flip elem.Flip
    c.self.view_is refl
    (noted_moves s.queue c.flip.new.self s.marks.items elem.Flip (λ stamp. refl) s.informed (c.flip.ensures.ok ok) stamp)

pub returns-clause-holds : goal.returns-clause-holds
returns-clause-holds c = holds c
