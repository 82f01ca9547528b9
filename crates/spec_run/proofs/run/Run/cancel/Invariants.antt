use Rattle.std.proofs.Common.{◌≡◌}
use Rattle.spec_run.specs.Steps.{ctx_at, kept, newest, p0s, pc_at}
use Rattle.spec_run.proofs.run.Run.cancel.Given as goal

abbrev pub invariant-loop : goal.invariant-loop
invariant-loop l =
    let r = l.self-inside in let was = l.initial.self-inside in record {
      depth : r.depth ≡ was.depth;
      capacity : r.held.capacity ≡ was.held.capacity;
      counted : r.p0 ≡ was.p0;
      standing : r.standing ≡ was.standing;
      rest : r.held.items ≡ kept l.counter was.held.items;
      p0 : l.p0 ≡ p0s (newest l.counter was.held.items);
      pc : l.standing.pc ≡ pc_at l.initial.standing.pc (newest l.counter was.held.items);
      ctx : l.standing.ctx ≡ ctx_at l.initial.standing.ctx (newest l.counter was.held.items);
      after_isb : l.standing.after_isb ≡ l.initial.standing.after_isb;
    }
