use Rattle.std.proofs.Common.{◌≡◌, ◌++◌, ℕ, List}
use Rattle.path_text.specs.PathLines.{instruction_lines}
use Rattle.path_text.proofs.Wrote.{Wrote}
use Rattle.path_text.proofs.path_lines.write_instructions.Given as goal

abbrev pub decreases-loop-left : goal.decreases-loop-left
decreases-loop-left g l = l.left

abbrev pub invariant-loop-left : goal.invariant-loop-left
invariant-loop-left g l =
    let state = g.K.Sink.state in
    record {
      same_id : l.line.id ≡ l.fn.line.id;
      so_far : (text : List ℕ) × Wrote (state l.fn.sink) (state l.sink) text
          × (text ++ instruction_lines l.fn.line.id l.address l.left ≡ instruction_lines l.fn.line.id l.start l.count);
    }
