-- Marks in a row, kept as runs of equal ones.
use Rattle.std.specs.Prelude.{◌<◌, if◌then◌else◌, List, replicate, Some, None, All}
use Rattle.std.specs.List.{flat_map}
use Rattle.time_marks.specs.Stamps.{Stamp}
use Rattle.time_marks.specs.declared.marks.EqualMarks.{EqualMarks}

-- the mark that a run has so many of
abbrev pub run_mark : EqualMarks → Stamp
run_mark run = if run.known then Some run.stamp else None

-- each mark as often as its run counts
abbrev pub marks_of : List EqualMarks → List Stamp
marks_of runs = flat_map (λ (run : EqualMarks). replicate run.count (run_mark run)) runs

-- each counts one mark at least
abbrev pub AreRuns : List EqualMarks → Type 0
AreRuns runs = All (λ (run : EqualMarks). 0 < run.count) runs
