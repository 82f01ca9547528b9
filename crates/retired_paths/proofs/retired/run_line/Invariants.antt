use Rattle.std.proofs.Common.{List, ◌≤◌}
use Rattle.etm_types.specs.Settings.{Sizes}
use Rattle.spec_run.specs.Stands.{StandsAt}
use Rattle.spec_run.specs.declared.event.Event.{Event}
use Rattle.retired_paths.specs.Retiring.{events_with}
use Rattle.retired_paths.proofs.retired.run_line.Given as goal

abbrev pub invariant-loop : goal.invariant-loop
invariant-loop l = record {
  stands : (s : Sizes) (events : List Event) → StandsAt l.image s l.fn.run events → StandsAt l.image s l.run (events_with events l.counter l.line.event);
  within : l.counter ≤ l.line.times;
}
