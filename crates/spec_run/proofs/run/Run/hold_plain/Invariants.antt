use Rattle.std.proofs.Common.{◌≡◌, ◌+◌, length}
use Rattle.spec_run.specs.Steps.{p0s}
use Rattle.spec_run.specs.Windows.{place_of_standing, place_stepped_all}
use Rattle.spec_run.proofs.run.Run.hold_plain.Given as goal

abbrev pub invariant-loop : goal.invariant-loop
invariant-loop l =
    let r = l.self-inside in let was = l.initial.self-inside in record {
      depth : r.depth ≡ was.depth;
      capacity : r.held.capacity ≡ was.held.capacity;
      counted : r.p0 ≡ was.p0;
      same : p0s r.held.items ≡ p0s was.held.items;
      size : length r.held.items ≡ length was.held.items + l.counter;
      there : place_of_standing l.standing r.held.items
          ≡ place_stepped_all was.depth (place_of_standing l.initial.standing was.held.items) l.counter;
    }
