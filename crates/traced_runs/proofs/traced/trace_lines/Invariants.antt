use Rattle.std.proofs.Common.{◌≡◌, ◌-◌, [], Some, length, take}
use Rattle.std.specs.Prelude.{slice_get}
use Rattle.retired_paths.proofs.Refused.{lines_in}
use Rattle.run_file.specs.Parts.{BenchStream, events_of}
use Rattle.traced_runs.specs.Tracing.{IsTracing}
use Rattle.traced_runs.proofs.traced.trace_lines.Given as goal

abbrev pub invariant-loop-line : goal.invariant-loop-line
invariant-loop-line l = record {
  settings : (l.unit.settings ≡ l.fn.unit.settings) × (l.unit.stack_depth ≡ l.fn.unit.stack_depth);
  so_far : (stream : BenchStream) → slice_get l.bench.streams l.s ≡ Some stream → IsTracing l.image l.fn.unit l.fn.bytes.items []
      → IsTracing l.image l.unit l.bytes.items (events_of (take l.k stream.lines));
}

abbrev pub decreases-loop-line : goal.decreases-loop-line
decreases-loop-line l = length (lines_in (slice_get l.bench.streams l.s)) - l.k
