use Rattle.std.proofs.Common.{◌≡◌, drop, take}
use Rattle.spec_run.specs.Steps.{isb_behind, p0s}
use Rattle.spec_run.proofs.run.Run.retire.Given as goal

abbrev pub invariant-loop : goal.invariant-loop
invariant-loop l =
    let r = l.self-inside in let was = l.initial.self-inside in record {
      depth : r.depth ≡ was.depth;
      capacity : r.held.capacity ≡ was.held.capacity;
      counted : r.p0 ≡ was.p0;
      standing : r.standing ≡ was.standing;
      rest : r.held.items ≡ drop l.counter was.held.items;
      p0 : l.p0 ≡ p0s (take l.counter was.held.items);
      after_isb : l.standing.after_isb ≡ isb_behind l.initial.standing.after_isb (take l.counter was.held.items);
      pc : l.standing.pc ≡ l.initial.standing.pc;
      ctx : l.standing.ctx ≡ l.initial.standing.ctx;
    }
