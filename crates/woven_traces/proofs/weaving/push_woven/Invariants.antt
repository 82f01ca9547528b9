use Rattle.std.proofs.Common.{◌≡◌, ◌-◌, ◌++◌, ℕ, List, false, drop, length}
use Rattle.woven_traces.specs.Weaving.{IsWeaving, all_left}
use Rattle.woven_traces.specs.Woven.{woven}
use Rattle.trace_io.specs.State.{IoState}
use Rattle.woven_traces.proofs.weaving.push_woven.Given as goal

abbrev pub invariant-loop-weave : goal.invariant-loop-weave
invariant-loop-weave g l =
    let state = g.K.Sink.state in
    record {
      ready : l.frames.failed ≡ false;
      so_far : (start : IoState) (pairs : List (ℕ × ℕ)) → IsWeaving l.fn.frames pairs start (state l.fn.out)
          → (pushed : List (ℕ × ℕ)) × IsWeaving l.frames (pairs ++ pushed) start (state l.out)
          × (woven l.bench.weaves (all_left l.fn.traces) ≡ pushed ++ woven (drop l.k l.bench.weaves) (all_left l.traces));
    }

abbrev pub decreases-loop-weave : goal.decreases-loop-weave
decreases-loop-weave g l = length l.bench.weaves - l.k
