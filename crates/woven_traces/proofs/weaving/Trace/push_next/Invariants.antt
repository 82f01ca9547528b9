use Rattle.std.proofs.Common.{◌≡◌, ◌+◌, ◌++◌, ℕ, List, false, take}
use Rattle.woven_traces.specs.Weaving.{IsWeaving, left_of}
use Rattle.woven_traces.specs.Woven.{under}
use Rattle.trace_io.specs.State.{IoState}
use Rattle.woven_traces.proofs.weaving.Trace.push_next.Given as goal

abbrev pub invariant-loop : goal.invariant-loop
invariant-loop g l =
    let state = g.K.Sink.state in
    record {
      id : l.self.id ≡ l.fn.self.id;
      bytes : l.self.bytes ≡ l.fn.self.bytes;
      woven : l.self.woven ≡ l.fn.self.woven + l.counter;
      ready : l.frames.failed ≡ false;
      so_far : (start : IoState) (pairs : List (ℕ × ℕ)) → IsWeaving l.fn.frames pairs start (state l.fn.out)
          → IsWeaving l.frames (pairs ++ under l.fn.self.id (take l.counter (left_of l.fn.self).1)) start (state l.out);
    }
