use Rattle.std.proofs.Common.{◌≡◌, ◌++◌, ℕ, List, false, drop}
use Rattle.woven_traces.specs.Weaving.{IsWeaving, all_left}
use Rattle.woven_traces.specs.Woven.{in_a_row}
use Rattle.trace_io.specs.State.{IoState}
use Rattle.woven_traces.proofs.weaving.push_rest.Given as goal

abbrev pub invariant-loop-trace : goal.invariant-loop-trace
invariant-loop-trace g l =
    let state = g.K.Sink.state in
    record {
      ready : l.frames.failed ≡ false;
      so_far : (start : IoState) (pairs : List (ℕ × ℕ)) → IsWeaving l.fn.frames pairs start (state l.fn.out)
          → (pushed : List (ℕ × ℕ)) × IsWeaving l.frames (pairs ++ pushed) start (state l.out)
          × (in_a_row (all_left l.fn.traces) ≡ pushed ++ in_a_row (all_left (drop l.trace-index l.traces)));
    }
