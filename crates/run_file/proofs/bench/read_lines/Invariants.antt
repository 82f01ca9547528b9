use Rattle.std.proofs.Common.{◌≡◌, None, drop, length}
use Rattle.std.specs.Prelude.{IfSome}
use Rattle.std.specs.Str.Lines.{lines}
use Rattle.run_file.specs.BenchText.{add_lines}
use Rattle.run_file.specs.Kept.{drafts_in}
use Rattle.run_file.proofs.bench.read_lines.Given as goal

abbrev pub invariant-loop-place : goal.invariant-loop-place
invariant-loop-place l =
    (add_lines 1 None (lines l.text) ≡ add_lines l.lines.next.number (drafts_in l.draft) (lines (drop l.lines.next.start l.lines.text)))
    × (l.lines.text ≡ l.text) × IfSome l.draft (λ d. d.text ≡ l.text)

abbrev pub decreases-loop-place : goal.decreases-loop-place
decreases-loop-place l = length (lines (drop l.lines.next.start l.lines.text))
