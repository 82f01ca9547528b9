use Rattle.std.proofs.Common.{[], subst}
use Rattle.etm_types.specs.declared.element.Elem.TheVariants as elem
use Rattle.time_marks.specs.Marked.{Marked, Moves, marked_of}
use Rattle.time_marks.proofs.Moving.{discard_moves, overflow_moves}
use Rattle.time_marks.proofs.marked.MarkedQueue.discard.Goals as goal

pub returns-clause-overflow : goal.returns-clause-overflow
returns-clause-overflow c stamp =
    let s = c.self.inside in
    subst (λ (m : Marked). Moves m stamp elem.Overflow [] (marked_of c.discard.new.self c.clear.new.self.items s.informed)) c.self.view_is
    (overflow_moves s.queue s.marks.items s.informed (c.self.invariant).2 c.discard.new.self c.discard.ensures.value c.clear.new.self.items
    c.clear.ensures.items stamp)

pub returns-clause-discard : goal.returns-clause-discard
returns-clause-discard c stamp =
    let s = c.self.inside in
    subst (λ (m : Marked). Moves m stamp elem.Discard [] (marked_of c.discard.new.self c.clear.new.self.items s.informed)) c.self.view_is
    (discard_moves s.queue s.marks.items s.informed (c.self.invariant).2 c.discard.new.self c.discard.ensures.value c.clear.new.self.items
    c.clear.ensures.items stamp)
