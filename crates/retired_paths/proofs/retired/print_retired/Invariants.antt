use Rattle.std.proofs.Common.{◌≡◌, ◌++◌, ℕ, List, drop}
use Rattle.path_text.proofs.Wrote.{Wrote}
use Rattle.retired_paths.specs.Retired.{streams_text}
use Rattle.retired_paths.proofs.retired.print_retired.Given as goal

abbrev pub invariant-loop-s : goal.invariant-loop-s
invariant-loop-s g l =
    let state = g.K.Sink.state in
    (text : List ℕ) × Wrote (state l.fn.out) (state l.out) text
    × (text ++ streams_text l.image (drop l.s l.bench.streams) ≡ streams_text l.image l.bench.streams)
