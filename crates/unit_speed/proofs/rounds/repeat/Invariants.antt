use Rattle.std.proofs.Common.{◌≡◌, ◌++◌, List, replicate}
use Rattle.spec_run.specs.declared.event.Event.{Event}
use Rattle.trace_unit.specs.Kept.{StandsAt}
use Rattle.unit_speed.proofs.rounds.repeat.Given as goal

abbrev pub invariant-loop-done : goal.invariant-loop-done
invariant-loop-done l =
    record {
      settings : l.unit.settings ≡ l.fn.unit.settings;
      stands : (events : List Event) → StandsAt l.image l.fn.unit events → StandsAt l.image l.unit (events ++ replicate l._done l.event);
    }
