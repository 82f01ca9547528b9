use Rattle.std.proofs.Common.{◌≡◌, Bool, true, false, [], refl, sym, subst, ap, ◌∙◌}
use Rattle.element_queue.specs.Queued.{IsQueued, Queued}
use Rattle.element_queue.proofs.Noted.{begun}
use Rattle.etm_types.specs.declared.element.Elem.TheVariants as elem
use Rattle.time_marks.specs.Marked.{IsMarked, Moves, marked_of}
use Rattle.time_marks.proofs.Moving.{begun_queue, first_holds, first_moves, later_moves, moves_from}
use Rattle.time_marks.proofs.marked.MarkedQueue.inform.Goals as goal

-- ---- a later one

pub returns-then-self-clause-ok : goal.returns-then-self-clause-ok
returns-then-self-clause-ok c ok stamp =
    let s = c.self.inside in let marks = s.marks.items in let e = elem.Info c.args.spec in let yes = c.if-self.true in
    let is = subst (λ (b : Bool). IsMarked (marked_of s.queue marks b)) yes (c.self.invariant).2 in
    moves_from (marked_of s.queue marks s.informed) c.args.self.now (marked_of c.note.new.self marks s.informed) stamp e e c.self.view_is refl
    (subst (λ (b : Bool). Moves (marked_of s.queue marks b) stamp e [] (marked_of c.note.new.self marks b)) (sym yes)
    (subst (λ (q : Queued). Moves (marked_of s.queue marks true) stamp e [] (marked_of q marks true)) (sym c.note.ensures.value)
    (later_moves s.queue marks c.args.spec is stamp)))

-- ---- the first

none : (c : goal.After-self-1) → IsMarked (marked_of c.self.inside.queue c.self.inside.marks.items false)
none c = subst (λ (b : Bool). IsMarked (marked_of c.self.inside.queue c.self.inside.marks.items b)) c.if-self.false (c.self.invariant).2

begins_so : (c : goal.After-self-1) → c.start.new.self ≡ begun_queue c.self.inside.queue c.args.spec
begins_so c =
    let ok = c.in_ok-start.ensures in
    begun c.self.inside.queue c.start.new.self c.args.spec ((none c).begins refl) (ok.within.0 refl) (ok.ok refl)

holds : (c : goal.After-self-1) → IsMarked (marked_of c.start.new.self c.self.inside.marks.items true)
holds c =
    let s = c.self.inside in
    subst (λ (q : Queued). IsMarked (marked_of q s.marks.items true)) (sym (begins_so c))
    (first_holds s.queue s.marks.items c.args.spec (none c) (c.in_ok-start.ensures.within.0 refl)
    (subst IsQueued (begins_so c) c.in_ok-start.ensures.queued))

pub invariant_of-self-2 : goal.invariant_of-self-2
invariant_of-self-2 c =
    let s = c.self.inside in
    ((c.self.invariant).0 ∙ sym (ap (λ (q : Queued). q.depth) (begins_so c)), c.in_ok-start.ensures.queued, holds c)

pub returns-clause-ok : goal.returns-clause-ok
returns-clause-ok c ok stamp =
    let s = c.self.inside in let marks = s.marks.items in let e = elem.Info c.args.spec in
    moves_from (marked_of s.queue marks s.informed) c.args.self.now (marked_of c.start.new.self marks true) stamp e e c.self.view_is refl
    (subst (λ (b : Bool). Moves (marked_of s.queue marks b) stamp e [] (marked_of c.start.new.self marks true)) (sym c.if-self.false)
    (subst (λ (q : Queued). Moves (marked_of s.queue marks false) stamp e [] (marked_of q marks true)) (sym (begins_so c))
    (first_moves s.queue marks c.args.spec (none c) (c.in_ok-start.ensures.within.0 refl) stamp)))

pub returns-clause-holds : goal.returns-clause-holds
returns-clause-holds c = holds c
