use Rattle.std.proofs.Common.{◌≡◌, ◌+◌, ◌-◌, ◌*◌, ◌%◌, ◌^◌, ◌++◌, ℕ, List, length}
use Rattle.path_text.specs.Near.{IsNearLine}
use Rattle.path_text.specs.PathLines.{instruction_lines}
use Rattle.path_text.proofs.Wrote.{Wrote}
use Rattle.path_text.proofs.path_lines.write_near_lines.Given as goal

abbrev pub invariant-loop-done : goal.invariant-loop-done
invariant-loop-done g l =
    let state = g.K.Sink.state in
    record {
      line : IsNearLine l.fn.line l.bytes;
      size : length l.bytes ≡ g.row.L;
      place : l.address ≡ (l.fn.start + 4 * l._done) % 2 ^ 64;
      so_far : (text : List ℕ) × Wrote (state l.fn.sink) (state l.sink) text
          × (text ++ instruction_lines l.fn.line.id l.address (l.count - l._done) ≡ instruction_lines l.fn.line.id l.fn.start l.count);
    }
