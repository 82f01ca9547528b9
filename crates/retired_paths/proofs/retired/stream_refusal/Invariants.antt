use Rattle.std.proofs.Common.{◌≡◌, ◌-◌, [], Some, length, take}
use Rattle.std.specs.Prelude.{slice_get}
use Rattle.run_file.specs.Parts.{BenchStream, events_of}
use Rattle.spec_run.specs.Stands.{StandsAt}
use Rattle.retired_paths.proofs.Refused.{lines_in}
use Rattle.retired_paths.proofs.retired.stream_refusal.Given as goal

abbrev pub invariant-loop-line : goal.invariant-loop-line
invariant-loop-line l =
    (stream : BenchStream) → slice_get l.bench.streams l.s ≡ Some stream → StandsAt l.image stream.settings l.fn.run []
    → StandsAt l.image stream.settings l.run (events_of (take l.k stream.lines))

abbrev pub decreases-loop-line : goal.decreases-loop-line
decreases-loop-line l = length (lines_in (slice_get l.bench.streams l.s)) - l.k
