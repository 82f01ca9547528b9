use Rattle.std.proofs.Common.{◌<◌, ◌-◌, ◌++◌, ◌∷◌, [], length, sym, subst}
use Rattle.std.proofs.lemmas.List.Elements.{All-drop, All-push}
use Rattle.time_marks.specs.Runs.{AreRuns}
use Rattle.time_marks.specs.declared.marks.EqualMarks.{EqualMarks}
use Rattle.time_marks.proofs.marks.begin_run.Goals.{then-newest-gt0, else-newest-gt0}
use Rattle.time_marks.proofs.marks.begin_run.Goals as goal

pub returns-clause-runs : goal.returns-clause-runs
returns-clause-runs c =
    let runs = c.args.runs.now in let all = runs.items ++ c.args.newest.now ∷ [] in
    elim c.if-newest-gt0.branch [
      | then-newest-gt0 w ↦
          rw w.runs-is (subst AreRuns (sym w.push_back.ensures.newest)
          (All-drop (λ (run : EqualMarks). 0 < run.count) (length all - runs.capacity) all
          (All-push (λ (run : EqualMarks). 0 < run.count) runs.items c.args.newest.now c.requires.runs w.if-newest-gt0.true)))
      | else-newest-gt0 w ↦ rw w.runs-is c.requires.runs
    ]
