use Rattle.path_text.specs.PageLines.{HoldsEnds}
use Rattle.path_text.proofs.page_lines.fill_ends.Given as goal

abbrev pub invariant-loop-place : goal.invariant-loop-place
invariant-loop-place l = HoldsEnds l.ends l.place
