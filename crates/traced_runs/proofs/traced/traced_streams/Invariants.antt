use Rattle.std.proofs.Common.{◌≡◌, drop, take}
use Rattle.run_file.specs.Refusals.{refusal_among}
use Rattle.traced_runs.proofs.Tracing.{traces_of}
use Rattle.woven_traces.specs.Weaving.{all_left}
use Rattle.traced_runs.proofs.traced.traced_streams.Given as goal

abbrev pub invariant-loop-s : goal.invariant-loop-s
invariant-loop-s l = record {
  made : all_left l.made.items ≡ traces_of l.image l.bench (take l.s l.bench.streams);
  accepted : refusal_among l.image l.bench.streams ≡ refusal_among l.image (drop l.s l.bench.streams);
}
