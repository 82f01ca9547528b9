use Rattle.std.proofs.Common.{◌≡◌, ◌-◌, ◌++◌, ◌∷◌, [], drop, List, ap, sym, ◌∙◌, arith}
use Rattle.time_marks.specs.Runs.{marks_of, run_mark}
use Rattle.time_marks.specs.Stamps.{Stamp}
use Rattle.time_marks.proofs.Runs.{none_first, oldest_out}
use Rattle.time_marks.proofs.marks.Marks.pop_front.Goals.{then-self-eq0-2, else-self-eq0-2}
use Rattle.time_marks.proofs.marks.Marks.pop_front.Goals as goal

pub returns-clause-order : goal.returns-clause-order
returns-clause-order c =
    let s = c.self.inside in let t = c.if-self-eq0-2.self-inside in let held = sym (ap (λ r. r.items) c.self.view_is) in
    let left = marks_of (record (t.oldest) { count = t.oldest.count - 1 } ∷ t.between.items ++ t.newest ∷ []) in
    let out : c.args.self.now.items ≡ run_mark t.oldest ∷ left =
    elim c.if-self-eq0-2.branch [
      | then-self-eq0-2 w ↦
          let took = w.take_oldest-self-inside in
          rw w.self-inside-is (held ∙ none_first s.oldest (s.between.items ++ s.newest ∷ []) (omega (arith, w.if-self-eq0-2.true)) ∙ sym took.ensures.marks
          ∙ oldest_out took.result (took.new.runs.items ++ took.new.newest ∷ []) took.ensures.some)
      | else-self-eq0-2 w ↦
          rw w.self-inside-is (held ∙ oldest_out s.oldest (s.between.items ++ s.newest ∷ []) (omega (arith, w.if-self-eq0-2.false)))
    ] in
    out ∙ ap (λ (mark : Stamp). mark ∷ left) (sym c.mark.ensures)

pub returns-clause-rest : goal.returns-clause-rest
returns-clause-rest c = sym (ap (λ (marks : List Stamp). drop 1 marks) (returns-clause-order c))
