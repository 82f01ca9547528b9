use Rattle.std.proofs.Common.{◌≡◌, ◌++◌, ℕ, List}
use Rattle.path_text.specs.PathLines.{instruction_lines}
use Rattle.path_text.proofs.Putting.{HasPut}
use Rattle.path_text.proofs.line_block.LineBlock.put_instructions.Given as goal

abbrev pub decreases-loop-left : goal.decreases-loop-left
decreases-loop-left g l = l.left

abbrev pub invariant-loop-left : goal.invariant-loop-left
invariant-loop-left g l =
    let state = g.K.Sink.state in
    record {
      same_id : l.self.id ≡ l.fn.self.id;
      same_shown : l.self.shown ≡ l.fn.self.shown;
      so_far : (text : List ℕ) × HasPut (state l.fn.sink) (state l.sink) l.fn.self.put l.self.put text
          × (text ++ instruction_lines l.fn.self.id l.address l.left ≡ instruction_lines l.fn.self.id l.start l.count);
    }
