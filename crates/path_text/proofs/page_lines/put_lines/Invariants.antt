use Rattle.std.proofs.Common.{◌≡◌, ◌≤◌, ◌+◌, ◌-◌, ◌*◌, ◌++◌, ℕ, take}
use Rattle.path_text.specs.PageLines.{line_head}
use Rattle.path_text.specs.PathLines.{instruction_lines}
use Rattle.path_text.proofs.page_lines.put_lines.Given as goal

abbrev pub invariant-loop-place : goal.invariant-loop-place
invariant-loop-place l = record {
  short : l.end ≤ l.at + 20 * (l.place - l.first);
  lines : (id : ℕ) → take l.len l.head ≡ line_head id l.start
      → take l.end l.block ≡ take l.at l.fn.block ++ instruction_lines id l.start (l.place - l.first);
}
