use Rattle.std.proofs.Common.{◌≡◌, drop}
use Rattle.retired_paths.proofs.retired.first_refusal.Given as goal
use Rattle.run_file.specs.Refusals.{refusal_among}

abbrev pub invariant-loop-s : goal.invariant-loop-s
invariant-loop-s l = refusal_among l.image l.bench.streams ≡ refusal_among l.image (drop l.s l.bench.streams)
