use Rattle.std.proofs.Common.{◌≡◌, ◌≤◌, List}
use Rattle.spec_run.specs.declared.event.Event.{Event}
use Rattle.retired_paths.specs.Retiring.{events_with}
use Rattle.traced_runs.specs.Tracing.{IsTracing}
use Rattle.traced_runs.proofs.traced.trace_line.Given as goal

abbrev pub invariant-loop : goal.invariant-loop
invariant-loop l = record {
  settings : (l.unit.settings ≡ l.fn.unit.settings) × (l.unit.stack_depth ≡ l.fn.unit.stack_depth);
  so_far : (events : List Event) → IsTracing l.image l.fn.unit l.fn.bytes.items events
      → IsTracing l.image l.unit l.bytes.items (events_with events l.counter l.line.event);
  within : l.counter ≤ l.line.times;
}
