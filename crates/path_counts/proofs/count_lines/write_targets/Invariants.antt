use Rattle.std.proofs.Common.{◌≡◌, ◌-◌, ◌≤◌, ◌++◌, ℕ, List, All, drop, length, take}
use Rattle.path_text.proofs.Wrote.{Wrote}
use Rattle.path_counts.specs.declared.targets.Target.{Target}
use Rattle.path_counts.specs.CountLines.{from_entries, to_lines}
use Rattle.path_counts.proofs.count_lines.write_targets.Given as goal

abbrev pub decreases-loop-sink : goal.decreases-loop-sink
decreases-loop-sink g l = length l.entries - l.at

abbrev pub invariant-loop-sink : goal.invariant-loop-sink
invariant-loop-sink g l =
    let state = g.K.Sink.state in
    record {
      within : l.at ≤ length l.entries;
      upto : All (λ (e : Target). e.from ≤ l.addr) (take l.at l.entries);
      so_far : (text : List ℕ) × Wrote (state l.fn.sink) (state l.sink) text
          × (text ++ to_lines (from_entries l.addr (drop l.at l.entries)) ≡ to_lines (from_entries l.addr l.entries));
    }
