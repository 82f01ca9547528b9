use Rattle.std.proofs.Common.{◌≡◌, ◌-◌, ◌%◌, ◌≤◌, length, take}
use Rattle.path_text.proofs.Wrote.{Wrote}
use Rattle.traced_runs.proofs.traced.write_whole.Given as goal

abbrev pub invariant-loop-at : goal.invariant-loop-at
invariant-loop-at g l = record {
  within : l.at ≤ length l.frames;
  whole : l.at % 16 ≡ 0;
  wrote : Wrote (g.K.Sink.state l.fn.out) (g.K.Sink.state l.out) (take l.at l.frames);
}

abbrev pub decreases-loop-at : goal.decreases-loop-at
decreases-loop-at g l = length l.frames - l.at
