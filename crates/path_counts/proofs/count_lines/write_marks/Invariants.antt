use Rattle.std.proofs.Common.{◌≡◌, ◌-◌, ◌≤◌, ◌++◌, ℕ, List, drop, length}
use Rattle.path_text.proofs.Wrote.{Wrote}
use Rattle.path_counts.specs.CountLines.{marks_text}
use Rattle.path_counts.proofs.count_lines.write_marks.Given as goal

abbrev pub decreases-loop-number : goal.decreases-loop-number
decreases-loop-number g l = length l.marks - l.number

abbrev pub invariant-loop-number : goal.invariant-loop-number
invariant-loop-number g l =
    let state = g.K.Sink.state in
    record {
      within : l.number ≤ length l.marks;
      so_far : (text : List ℕ) × Wrote (state l.fn.sink) (state l.sink) text
          × (text ++ marks_text l.number (drop l.number l.marks) ≡ marks_text 0 l.marks);
    }
