use Rattle.std.proofs.Common.{◌≡◌, ◌-◌, [], Some, length, take}
use Rattle.std.specs.Prelude.{slice_get}
use Rattle.retired_paths.proofs.Refused.{lines_in}
use Rattle.retired_paths.proofs.RetiredEvents.{Printed}
use Rattle.retired_paths.specs.Retiring.{CanGoOn}
use Rattle.run_file.specs.Parts.{BenchStream, events_of}
use Rattle.retired_paths.proofs.retired.print_stream.Given as goal

abbrev pub invariant-loop-line : goal.invariant-loop-line
invariant-loop-line g l =
    let state = g.K.Sink.state in
    (stream : BenchStream) → slice_get l.bench.streams l.s ≡ Some stream
    → CanGoOn l.image stream.settings l.fn.retiring [] (events_of stream.lines)
    → Printed l.image stream.settings l.id l.fn.retiring [] l.retiring (events_of (take l.k stream.lines)) (state l.fn.out) (state l.out)

abbrev pub decreases-loop-line : goal.decreases-loop-line
decreases-loop-line g l = length (lines_in (slice_get l.bench.streams l.s)) - l.k
