use Rattle.std.proofs.Common.{◌≡◌, ◌-◌, ◌++◌, ◌∷◌, [], length, take, List, ap, sym, ◌∙◌, arith}
use Rattle.time_marks.specs.Runs.{marks_of}
use Rattle.time_marks.specs.Stamps.{Stamp}
use Rattle.time_marks.proofs.Runs.{newest_out, none_last}
use Rattle.time_marks.proofs.marks.Marks.shorten_newest.Goals.{then-self-eq0, else-self-eq0}
use Rattle.time_marks.proofs.marks.Marks.shorten_newest.Goals as goal

pub returns-clause-items : goal.returns-clause-items
returns-clause-items c =
    let s = c.self.inside in let t = c.if-self-eq0.self-inside in let out = c.min-out.result in
    let same : marks_of (t.oldest ∷ t.between.items ++ t.newest ∷ []) ≡ c.args.self.now.items =
    elim c.if-self-eq0.branch [
      | then-self-eq0 w ↦
          rw w.self-inside-is (w.take_newest-self-inside.ensures.marks ∙ sym (none_last (s.oldest ∷ s.between.items) s.newest w.if-self-eq0.true)
          ∙ ap (λ r. r.items) c.self.view_is)
      | else-self-eq0 w ↦ rw w.self-inside-is (ap (λ r. r.items) c.self.view_is)
    ] in
    newest_out (t.oldest ∷ t.between.items) t.newest out (omega (arith, c.min-out.ensures))
    ∙ ap (λ (marks : List Stamp). take (length marks - out) marks) same
