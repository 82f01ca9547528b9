use Rattle.std.proofs.Common.{List, ◌≤◌}
use Rattle.etm_types.specs.Settings.{Sizes}
use Rattle.spec_run.specs.declared.event.Event.{Event}
use Rattle.retired_paths.proofs.RetiredEvents.{Printed}
use Rattle.retired_paths.specs.Retiring.{CanGoOn, events_with}
use Rattle.retired_paths.proofs.retiring.Retiring.print_line.Given as goal

abbrev pub invariant-loop : goal.invariant-loop
invariant-loop g l =
    let state = g.K.Sink.state in record {
      printed : (s : Sizes) (events : List Event) → CanGoOn l.image s l.fn.self events (events_with events l.line.times l.line.event)
          → Printed l.image s l.id l.fn.self events l.self (events_with events l.counter l.line.event) (state l.fn.out) (state l.out);
      within : l.counter ≤ l.line.times;
    }
