use Rattle.std.proofs.Common.{◌≡◌, Bool, true, sym, ap, subst, ◌∙◌}
use Rattle.std.specs.Prelude.{option_to_list}
use Rattle.element_queue.specs.Queued.{things_of}
use Rattle.etm_types.specs.declared.element.Elem.TheVariants as elem
use Rattle.time_marks.specs.Marked.{IsMarked, Marked, Moves, marked_of}
use Rattle.time_marks.proofs.Moving.{push_holds, push_moves}
use Rattle.time_marks.proofs.marked.MarkedQueue.push.Goals as goal

informed : (c : goal.After-push_back) → c.self.inside.informed ≡ true
informed c = ap (λ (m : Marked). (m.pending).informed) c.self.view_is ∙ c.requires

holds : (c : goal.After-push_back) → IsMarked (marked_of c.push.new.self c.push_back.new.self.items c.self.inside.informed)
holds c =
    let s = c.self.inside in let i = c.self.invariant in
    subst (λ (b : Bool). IsMarked (marked_of c.push.new.self c.push_back.new.self.items b)) (sym (informed c))
    (push_holds s.queue c.args.p0 (things_of c.push.result) c.push.new.self c.push.ensures.takes s.marks.items c.push_back.new.self.items c.args.mark
    (subst (λ (b : Bool). IsMarked (marked_of s.queue s.marks.items b)) (informed c) i.2) s.marks.capacity i.0 c.push_back.result c.push_back.ensures.order
    c.push_back.ensures.full c.push.ensures.queued)

pub invariant_of-self : goal.invariant_of-self
invariant_of-self c = (c.push_back.ensures.capacity ∙ (c.self.invariant).0 ∙ sym (c.push.ensures.takes).depth, c.push.ensures.queued, holds c)

pub returns-clause-moves : goal.returns-clause-moves
returns-clause-moves c =
    let s = c.self.inside in let i = c.self.invariant in
    subst (λ (m : Marked). Moves m c.args.mark (elem.P0 c.args.p0) (option_to_list c.push_back.result) (marked_of c.push.new.self c.push_back.new.self.items s.informed))
    c.self.view_is
    (subst (λ (b : Bool). Moves (marked_of s.queue s.marks.items b) c.args.mark (elem.P0 c.args.p0) (option_to_list c.push_back.result)
    (marked_of c.push.new.self c.push_back.new.self.items b)) (sym (informed c))
    (push_moves s.queue c.args.p0 (things_of c.push.result) c.push.new.self c.push.ensures.takes s.marks.items c.push_back.new.self.items c.args.mark
    (subst (λ (b : Bool). IsMarked (marked_of s.queue s.marks.items b)) (informed c) i.2) s.marks.capacity i.0 c.push_back.result c.push_back.ensures.order
    c.push_back.ensures.full))

pub returns-clause-holds : goal.returns-clause-holds
returns-clause-holds c = holds c
