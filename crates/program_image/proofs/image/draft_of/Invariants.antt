use Rattle.std.proofs.Common.{◌≡◌, [], length}
use Rattle.std.specs.Str.Lines.{lines}
use Rattle.program_image.specs.ImageText.{add_lines}
use Rattle.program_image.proofs.image.draft_of.Given as goal

abbrev pub invariant-loop-number : goal.invariant-loop-number
invariant-loop-number l = add_lines 1 [] (lines l.text) ≡ add_lines l.lines.number l.draft l.lines.lines

abbrev pub decreases-loop-number : goal.decreases-loop-number
decreases-loop-number l = length l.lines.lines
