use Rattle.std.proofs.Common.{◌<◌, sym, subst}
use Rattle.std.proofs.lemmas.List.Elements.{All-drop}
use Rattle.time_marks.specs.Runs.{AreRuns}
use Rattle.time_marks.specs.declared.marks.EqualMarks.{EqualMarks}
use Rattle.time_marks.proofs.marks.take_oldest.Goals as goal

pub returns-in-Some-clause-runs : goal.returns-in-Some-clause-runs
returns-in-Some-clause-runs c = subst AreRuns (sym c.pop_front.ensures.rest) (All-drop (λ (r : EqualMarks). 0 < r.count) 1 c.args.runs.now.items c.requires.runs)
